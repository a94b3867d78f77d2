-- `read_features::build_early` meets its contract, keyword by keyword. Assumes nothing.
use Rattle.reading.specs.Feature.{feature_of}
use Rattle.read_features.proofs.Building.{place_six}
use Rattle.read_features.proofs.build_early.Goals as goal

pub returns-in-0 : goal.returns-in-0
unfolding feature_of
returns-in-0 c = λ k e. rw c.in-0.is (c.modes_alone.ensures k e)

pub returns-in-1 : goal.returns-in-1
unfolding feature_of
returns-in-1 c = λ k e. rw c.in-1.is (c.modes_alone-in-1.ensures k e)

pub returns-in-2 : goal.returns-in-2
returns-in-2 c = λ k e. rw c.in-2.is (c.peripherals.ensures k e)

pub returns-in-3 : goal.returns-in-3
returns-in-3 c = λ k e. rw c.in-3.is (c.transits.ensures k e)

pub returns-in-4 : goal.returns-in-4
unfolding feature_of
returns-in-4 c = λ k e. rw c.in-4.is (c.modes_alone-in-4.ensures k e)

pub returns-in-5 : goal.returns-in-5
returns-in-5 c = λ k e. rw c.in-5.is (c.covariate.ensures c.args.limit k e)

pub returns-in_default : goal.returns-in_default
returns-in_default c = λ k e.
    let r = c.in_default.in_default-own.rest in
    rw (place_six c.args.keyword c.requires.keyword_bound r.0.0.0.0.0.1 r.0.0.0.0.1 r.0.0.0.1 r.0.0.1 r.0.1 r.1)
    (c.allometry.ensures c.args.text.now c.args.limit k e)

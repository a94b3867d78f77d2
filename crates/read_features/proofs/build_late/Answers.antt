-- `read_features::build_late` meets its contract, keyword by keyword. Assumes nothing.
use Rattle.reading.specs.Feature.{feature_of}
use Rattle.read_features.proofs.Building.{place_none}
use Rattle.read_features.proofs.build_late.Goals as goal

pub returns-in-7 : goal.returns-in-7
unfolding feature_of
returns-in-7 c = λ k e. rw c.in-7.is (c.modes_alone.ensures k e)

pub returns-in-8 : goal.returns-in-8
unfolding feature_of
returns-in-8 c = λ k e. rw c.in-8.is (c.modes_alone-in-8.ensures k e)

pub returns-in-9 : goal.returns-in-9
returns-in-9 c = λ k e. rw c.in-9.is (c.indirect_effect.ensures c.args.limit k e)

pub returns-in-10 : goal.returns-in-10
unfolding feature_of
returns-in-10 c = λ k e. rw c.in-10.is (c.modes_alone-in-10.ensures k e)

pub returns-in-11 : goal.returns-in-11
returns-in-11 c = λ k e. rw c.in-11.is (c.iiv.ensures c.args.limit k e)

pub returns-in-12 : goal.returns-in-12
returns-in-12 c = λ k e. rw c.in-12.is (c.iov.ensures c.args.limit k e)

pub returns-in-13 : goal.returns-in-13
returns-in-13 c = λ k e. rw c.in-13.is (c.covariance.ensures c.args.limit k e)

pub returns-in_default : goal.returns-in_default
returns-in_default c = λ k e.
    let r = c.in_default.in_default-own.rest in
    rw (place_none c.args.keyword c.requires.le_keyword r.0.0.0.0.0.0.1 r.0.0.0.0.0.1 r.0.0.0.0.1 r.0.0.0.1 r.0.0.1 r.0.1 r.1, e)

-- `labels::likely` meets its contract: at each `return` the tests that led there are those of `likely_place`.
-- Assumes nothing.
use borrow.Author.Tests.{ne_eqb}
use Rattle.labels.specs.Likely.{likely_place}
use Rattle.labels.proofs.likely.Goals as goal

pub returns-in-105 : goal.returns-in-105
unfolding likely_place
returns-in-105 c = rw (c.in-3.is, c.in-105.is)

pub returns-in-111 : goal.returns-in-111
unfolding likely_place
returns-in-111 c = rw (c.in-3.is, c.in-111.is)

pub returns-in_default-second : goal.returns-in_default-second
unfolding likely_place
returns-in_default-second c = rw (c.in-3.is, ne_eqb _ _ c.in_default-second.in_default-second-own.rest.0.1, ne_eqb _ _ c.in_default-second.in_default-second-own.rest.1)

pub returns-in-7 : goal.returns-in-7
unfolding likely_place
returns-in-7 c = rw c.in-7.is

pub returns-in-8 : goal.returns-in-8
unfolding likely_place
returns-in-8 c = rw c.in-8.is

pub returns-in-111-second : goal.returns-in-111-second
unfolding likely_place
returns-in-111-second c = rw (c.in-9.is, c.in-111-second.is)

pub returns-in_default-second-2 : goal.returns-in_default-second-2
unfolding likely_place
returns-in_default-second-2 c = rw (c.in-9.is, ne_eqb _ _ c.in_default-second-2.in_default-second-2-own.rest.1)

pub returns-in-98 : goal.returns-in-98
unfolding likely_place
returns-in-98 c = rw (c.in-10.is, c.in-98.is)

pub returns-in-102 : goal.returns-in-102
unfolding likely_place
returns-in-102 c = rw (c.in-10.is, c.in-102.is)

pub returns-in-101 : goal.returns-in-101
unfolding likely_place
returns-in-101 c = rw (c.in-10.is, c.in-101.is)

pub returns-in_default-second-3 : goal.returns-in_default-second-3
unfolding likely_place
returns-in_default-second-3 c = let r = c.in_default-second-3.in_default-second-3-own.rest in
    rw (c.in-10.is, ne_eqb _ _ r.0.0.1, ne_eqb _ _ r.0.1, ne_eqb _ _ r.1)

pub returns-in-108 : goal.returns-in-108
unfolding likely_place
returns-in-108 c = rw (c.in-11.is, c.in-108.is)

pub returns-in_default-second-4 : goal.returns-in_default-second-4
unfolding likely_place
returns-in_default-second-4 c = rw (c.in-11.is, ne_eqb _ _ c.in_default-second-4.in_default-second-4-own.rest.1)

pub returns-in-12 : goal.returns-in-12
unfolding likely_place
returns-in-12 c = rw c.in-12.is

pub returns-in_default : goal.returns-in_default
unfolding likely_place
returns-in_default c = let r = c.in_default.in_default-own.rest in
    rw (
      ne_eqb _ _ r.0.0.0.0.0.0.1,
      ne_eqb _ _ r.0.0.0.0.0.1,
      ne_eqb _ _ r.0.0.0.0.1,
      ne_eqb _ _ r.0.0.0.1,
      ne_eqb _ _ r.0.0.1,
      ne_eqb _ _ r.0.1,
      ne_eqb _ _ r.1,
    )

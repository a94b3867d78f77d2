-- `resolve_merging_few::with_form` meets its contract: there is room for one more, or it is there.
-- Assumes nothing.
use native.Mathlib.Omega.{arith}
use Rattle.resolve_merging_few.proofs.Formed.{few-forms, all-forms}
use Rattle.resolve_merging_few.proofs.with_form.Goals as goal

pub with_place-requires : goal.with_place-requires
with_place-requires c =
    (c.requires.0.snug, few-forms c.args.forms c.if-forms-lt268435456.true, omega (arith, c.requires.1))

pub returns : goal.returns
returns c = all-forms c.requires.0 c.requires.1 c.if-forms-lt268435456.false

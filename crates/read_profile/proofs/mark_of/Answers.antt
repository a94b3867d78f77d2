-- `read_profile::mark_of` meets its contract: the keyword's place says which mark it is. Assumes nothing.
use native.Mathlib.Omega.{arith}
use mathlib.Core.Path.{◌∙◌, ap, subst, sym}
use Rattle.profiling.specs.Profile.{once}
use Rattle.read_parts.specs.Meaning.{PartsFit}
use Rattle.read_profile.specs.Answers.{mark_as, Numbered}
use Rattle.read_profile.proofs.Marks.{marked-once, marked-outside, marked-plain}
use Rattle.read_profile.proofs.mark_of.Goals as goal

pub high_part-requires : goal.high_part-requires
high_part-requires c =
    (c.requires.0, (subst (PartsFit c.args.text.now) (sym c.parts_of-parts.ensures) c.requires.1).first)

pub returns-in-0-to-4 : goal.returns-in-0-to-4
unfolding mark_as Numbered
returns-in-0-to-4 c =
    let a = c.args in (
      ap (once c.parts_of-parts.result.keyword) c.high_part.ensures
          ∙ marked-once a.text.now a.statement c.parts_of-parts.result c.parts_of-parts.ensures (omega (arith, c.in-0-to-4.if-keyword-lt5-own.true)),
      omega (arith, c.in-0-to-4.if-keyword-lt5-own.true),
    )

pub returns-in-7-to-10 : goal.returns-in-7-to-10
unfolding mark_as Numbered
returns-in-7-to-10 c =
    let a = c.args in
    (marked-outside a.text.now a.statement c.parts_of-parts.result c.parts_of-parts.ensures (omega (arith, c.in-7-to-10.if-keyword-lt7-own.false)) (omega (arith, c.in-7-to-10.if-keyword-lt11-own.true)), tt)

pub returns-in_default : goal.returns-in_default
unfolding mark_as Numbered
returns-in_default c =
    let a = c.args in
    (marked-plain a.text.now a.statement c.parts_of-parts.result c.parts_of-parts.ensures (omega (arith, c.in_default.if-keyword-lt5-own.false)) (λ h k. omega (arith, h, c.in_default.if-keyword-lt7-own.true)), tt)

pub returns-in_default-2 : goal.returns-in_default-2
unfolding mark_as Numbered
returns-in_default-2 c =
    let a = c.args in
    (marked-plain a.text.now a.statement c.parts_of-parts.result c.parts_of-parts.ensures (omega (arith, c.in_default.if-keyword-lt5-own.false)) (λ h k. omega (arith, k, c.in_default.if-keyword-lt11-own.false)), tt)

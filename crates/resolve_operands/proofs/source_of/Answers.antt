-- `resolve_operands::source_of` meets its contract, operand by operand: names are their values, and a word is looked up, that of a symbol or of `*`,
-- unless `*` is every covariate. Assumes nothing.
use mathlib.Core.Path.{◌∙◌, ap, subst}
use mathlib.Core.List.{List}
use Prim.Native.Nat.{ℕ}
use Rattle.reading.specs.Answer.{Answer}
use Rattle.resolving.specs.Context.{Context}
use Rattle.read_forms.specs.declared.Operand.{Operand}
use Rattle.read_parts.specs.Meaning.{OperandFits}
use Rattle.std.specs.Prelude as prelude
use Rattle.resolve_symbols.specs.declared.Source.TheVariants.{Values, Given}
use Rattle.resolve_symbols.specs.declared.Listing.TheVariants.{Covariates}
use Rattle.resolve_operands.specs.Entries.{StandsFor, star_names, operand_names}
use Rattle.resolve_operands.proofs.Sources.{star-stands, every-stands, word_stands, names_stand, stands_same}
use Rattle.resolve_operands.proofs.source_of.Goals.{After-look_up, Start, in-Symbol, in-Wildcard+else-every}
use Rattle.resolve_operands.proofs.source_of.Goals as goal

module _ (s : Start) where
  -- what an operand's names are
  abbrev names : Operand → Context → Answer (List (List ℕ))
  names o = operand_names s.args.text.now s.args.lets.now s.args.n s.args.star.now s.args.every o

  -- and those of `*`
  abbrev star : Context → Answer (List (List ℕ))
  star = star_names s.args.text.now s.args.lets.now s.args.n s.args.star.now s.args.every

pub returns-in-Names : goal.returns-in-Names
returns-in-Names c =
    let a = c.args in
    let is = c.in-Names.items in (
      subst (OperandFits a.text.now) c.in-Names.is c.requires.1,
      stands_same a.text.now a.layout (prelude.Some (Values is)) (names (goal.at.returns-in-Names c).Start) c.in-Names.is
          (names_stand a.text.now a.lets.now a.n a.layout (star (goal.at.returns-in-Names c).Start) is),
    )

pub spelling-word-requires : goal.spelling-word-requires
spelling-word-requires c =
    subst (OperandFits c.args.text.now) c.in-Symbol.is c.requires.1

pub returns-then-every : goal.returns-then-every
returns-then-every c =
    let a = c.args in (
      tt,
      stands_same a.text.now a.layout (prelude.Some (Given Covariates)) (names (goal.at.returns-then-every c).Start) c.in-Wildcard.is
          (every-stands a.text.now a.lets.now a.n a.layout a.star.now a.every c.if-every.true),
    )

-- what was looked up stands for the operand, by which word it was
word_looked :
    (c : After-look_up)
    → StandsFor c.args.text.now c.args.layout c.look_up.result (names (goal.at.After-look_up c).Start c.args.operand)
word_looked c =
    let a = c.args in
    let w = c.match-operand.word.now in
    elim c.match-operand.branch [
      | in-Symbol v ↦
          stands_same a.text.now a.layout c.look_up.result (names (goal.at.After-look_up c).Start) v.in-Symbol.is
          (word_stands a.text.now a.lets.now a.n a.layout (star (goal.at.After-look_up c).Start) v.in-Symbol.name w c.look_up.result
          (ap (λ x. x.now) v.word-is ∙ v.spelling-word.ensures) c.look_up.ensures.1)
      | in-Wildcard+else-every v ↦
          stands_same a.text.now a.layout c.look_up.result (names (goal.at.After-look_up c).Start) v.in-Wildcard.is
          (star-stands a.text.now a.lets.now a.n a.layout a.star.now a.every w c.look_up.result v.if-every.false
          (ap (λ x. x.now) v.word-is) c.look_up.ensures.1)
    ]

pub look_up-requires : goal.look_up-requires
look_up-requires c = c.requires.0

pub returns : goal.returns
returns c = (c.look_up.ensures.0, word_looked (goal.at.returns c).After-look_up)

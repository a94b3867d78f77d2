-- `resolve_operands::operand_entries` meets its contract: a symbol that is unknown is 14, and the names of what is found are held to the list that they
-- are held to there. Assumes nothing.
use mathlib.Core.Path.{◌≡◌, sym, ◌∙◌, ap, subst, subst₂}
use mathlib.Core.Bool.{cond}
use mathlib.Core.List.{List}
use Prim.Native.Nat.{ℕ}
use Rattle.reading.specs.Answer.{Answer}
use Rattle.resolving.specs.Context.{Context}
use Rattle.resolving.specs.Handed.{handed_context}
use Rattle.resolving.specs.Operands.{known, held}
use Rattle.resolve_context.specs.declared.Layout.{Layout}
use Rattle.resolve_context.specs.declared.Names.{Names}
use Rattle.resolve_context.specs.Lists.{names_in, Sound, Stands, layout_of}
use Rattle.resolve_context.proofs.Meaning.{handed-heads_fit}
use Rattle.resolve_symbols.specs.declared.Source.{Source}
use Rattle.std.specs.Prelude as prelude
use Rattle.resolve_symbols.specs.Sources.{looked_as, LookedFits}
use Rattle.resolve_operands.specs.Entries.{EntriesAs, target_of, StandsFor, operand_names, parameters_in, covariates_in}
use Rattle.resolve_operands.proofs.Sources.{target_sound, operand_held}
use Rattle.resolve_operands.proofs.operand_entries.Goals.{After-source_of}
use Rattle.resolve_operands.proofs.operand_entries.Goals as goal

module _ (d : After-source_of) where
  abbrev s : List ℕ
  s = d.args.text.now

  abbrev b : List ℕ
  b = d.args.block.now

  abbrev l : List ℕ
  l = d.args.lists.now

  abbrev layout : Layout
  layout = d.read_layout-layout.result

  abbrev target : Names
  target = d.target_of-target.result

  -- what the operand's names are
  abbrev names : Context → Answer (List (List ℕ))
  names =
      operand_names s d.args.lets.now d.args.n d.args.star.now d.args.every d.args.operand

  layout_stands : Stands b l layout
  layout_stands = record { is = d.requires.1; there = d.read_layout-layout.ensures }

  target_there : target ≡ target_of (layout_of l) d.args.every
  target_there =
      d.target_of-target.ensures ∙ ap (λ (y : Layout). target_of y d.args.every) d.read_layout-layout.ensures

  sound : Sound b l target
  sound = subst (Sound b l) (sym d.target_of-target.ensures) (target_sound b l layout layout_stands d.args.every)

  -- what was found, by its kind, can be read, and held to the target it is the answer
  found-fits : (r : prelude.Option Source) → d.source_of.result ≡ r → LookedFits s r
  found-fits r e = subst (LookedFits s) e d.source_of.ensures.0

  found-held :
      (r : prelude.Option Source)
      → d.source_of.result ≡ r
      → let a = d.args in
      held (names_in b l target) (known (looked_as (handed_context b l) s r))
      ≡ cond a.every (covariates_in s a.lets.now a.n b l a.operand)
      (parameters_in s a.lets.now a.n b l a.star.now a.operand)
  found-held r e =
      let a = d.args in
      ap (λ (n : Names). held (names_in b l n) (known (looked_as (handed_context b l) s r))) d.target_of-target.ensures
      ∙ operand_held b l layout layout_stands s a.lets.now a.n a.star.now a.every a.operand r
      (subst (λ (k : prelude.Option Source). StandsFor s layout k names) e d.source_of.ensures.1)

pub returns-in_default : goal.returns-in_default
returns-in_default c =
    sym (found-held (goal.at.returns-in_default c).After-source_of prelude.None c.in_default.is)

pub hold-requires : goal.hold-requires
hold-requires c =
    (c.requires.0, layout_stands (goal.at.hold-requires c).After-source_of, found-fits (goal.at.hold-requires c).After-source_of _ c.in-Some.is, sound (goal.at.hold-requires c).After-source_of, c.requires.4)

pub returns : goal.returns
returns c =
    let is = c.hold.new.indexes in
    subst₂ (λ (n : Names) (a : Answer (List ℕ)). EntriesAs n.count a is c.hold.result) (target_there (goal.at.returns c).After-source_of)
    (found-held (goal.at.returns c).After-source_of (prelude.Some c.in-Some.source) c.in-Some.is)
    c.hold.ensures

pub read_layout-layout-requires : goal.read_layout-layout-requires
read_layout-layout-requires c = handed-heads_fit _ _ c.requires.1

pub source_of-requires : goal.source_of-requires
source_of-requires c = (c.requires.2, c.requires.3)

-- `resolve_operands::place_of` meets its contract: the word that is looked up is the name's, by its mark. Assumes nothing.
use mathlib.Core.Path.{◌≡◌, refl, sym, ap, ◌∙◌, subst}
use mathlib.Core.List.{List, [], ◌∷◌}
use Prim.Native.Nat.{ℕ}
use Rattle.resolve_context.specs.Lists.{names_in}
use Rattle.resolve_symbols.specs.declared.Named.{Named}
use Rattle.resolve_symbols.specs.Brings.{named_as, NamedFits}
use Rattle.read_forms.specs.declared.Fault.{Fault}
use Rattle.std.specs.Prelude as prelude
use Rattle.resolve_operands.specs.Named.{PlacedAs}
use Rattle.resolve_operands.proofs.place_of.Goals.{Start}
use Rattle.resolve_operands.proofs.place_of.Goals as goal

module _ (start : Start) {x : Named} (e : start.args.named ≡ x) where
  fits_so : let a = start.args in NamedFits a.text.now a.block.now x
  fits_so = let a = start.args in subst (NamedFits a.text.now a.block.now) e start.requires.1

  -- what is answered of a word is answered of the name that is spelled so
  spelled_so : (ws : List (List ℕ)) (r : prelude.Result (prelude.Option ℕ) Fault)
      → let a = start.args in
      ws ≡ named_as a.text.now a.block.now x
      → let list = names_in a.block.now a.lists.now a.target in
      PlacedAs list ws r → PlacedAs list (named_as a.text.now a.block.now a.named) r
  spelled_so ws r w =
      let a = start.args in
      subst (λ (vs : List (List ℕ)). PlacedAs (names_in a.block.now a.lists.now a.target) vs r)
      (w ∙ ap (named_as a.text.now a.block.now) (sym e))

abbrev one : List ℕ → List (List ℕ)
one w = w ∷ []

pub returns-in-Text : goal.returns-in-Text
returns-in-Text c =
    let s = c.spelling in
    spelled_so (goal.at.returns-in-Text c).Start c.in-Text.is (one s.result.now) c.place_of_word.result (ap one s.ensures)
    c.place_of_word.ensures

pub returns-in-Block : goal.returns-in-Block
returns-in-Block c =
    let s = c.spelling-in-Block in
    spelled_so (goal.at.returns-in-Block c).Start c.in-Block.is (one s.result.now) c.place_of_word-in-Block.result (ap one s.ensures)
    c.place_of_word-in-Block.ensures

pub spelling-requires : goal.spelling-requires
spelling-requires c = fits_so (goal.at.spelling-requires c).Start c.in-Text.is

pub spelling-requires-in-Block : goal.spelling-requires-in-Block
spelling-requires-in-Block c = fits_so (goal.at.spelling-requires-in-Block c).Start c.in-Block.is

pub returns-in-Nothing : goal.returns-in-Nothing
returns-in-Nothing c = spelled_so (goal.at.returns-in-Nothing c).Start c.in-Nothing.is [] (prelude.Ok prelude.None) refl refl

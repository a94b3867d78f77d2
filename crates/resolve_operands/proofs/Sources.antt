-- What an operand stands for is what the definition looks up, in the context that was handed over; and the list that it is held to.
-- Assumes nothing.
use mathlib.Core.Path.{◌≡◌, refl, sym, ◌∙◌, ap, subst}
use mathlib.Core.Bool.{Bool, true, false, cond}
use mathlib.Core.List.{List, [], ◌∷◌, map}
use Prim.Native.Nat.{ℕ}
use Rattle.reading.specs.Statement as statement
use Rattle.reading.specs.Answer.{Answer, accepted}
use Rattle.resolving.specs.Context.{Context}
use Rattle.resolving.specs.Handed.{handed_context}
use Rattle.resolving.specs.Operands.{known, names_of, held}
use Rattle.read_forms.specs.declared.Name.{Name}
use Rattle.read_forms.specs.declared.Items.{Items}
use Rattle.read_forms.specs.declared.Operand.{Operand}
use Rattle.read_forms.specs.declared.Operand.TheVariants as operand
use Rattle.read_forms.specs.Items.{name_in, items_in}
use Rattle.read_forms.specs.Forms.{operand_in}
use Rattle.resolve_context.specs.declared.Layout.{Layout}
use Rattle.resolve_context.specs.Lists.{names_in, Sound, Stands, covariates_of}
use Rattle.resolve_context.proofs.Meaning.{parameters_sound, covariates_sound, parameters-are, covariates-are}
use Rattle.resolve_symbols.specs.declared.Source.TheVariants.{Values, Given}
use Rattle.resolve_symbols.specs.declared.Listing.TheVariants.{Covariates}
use Rattle.resolve_symbols.specs.declared.Source.{Source}
use Rattle.std.specs.Prelude as prelude
use Rattle.resolve_symbols.specs.Sources.{looked_as, Means}
use Rattle.resolve_symbols.proofs.Sources.{stands-marked}
use Rattle.resolve_operands.specs.Entries.{target_of, meaning_in, StandsFor, operand_names, parameters_in, covariates_in}

-- an operand as the definition has it
module _ (s l : List ℕ) (n : ℕ) (y : Layout) where
  -- `*`: its word is looked up, or it is every covariate
  module _ (star : List ℕ) (every : Bool) where
    pub star-stands : (w : List ℕ) (r : prelude.Option Source)
        → every ≡ false
        → w ≡ star
        → Means s y r (λ c. meaning_in s l n c w)
        → StandsFor s y r (operand_names s l n star every operand.Wildcard)
    unfolding operand_in
    star-stands w r e q h c m = ap known (h c m ∙ ap (meaning_in s l n c) q) ∙ rw e

    pub every-stands : every ≡ true → StandsFor s y (prelude.Some (Given Covariates)) (operand_names s l n star every operand.Wildcard)
    unfolding operand_in
    every-stands e c m = rw e

  -- the symbol's word as it was spelled
  pub word_stands : (star : Context → Answer (List (List ℕ))) (x : Name) (w : List ℕ) (r : prelude.Option Source)
      → w ≡ (name_in s x).spelling
      → Means s y r (λ c. meaning_in s l n c w)
      → StandsFor s y r (λ c. names_of (meaning_in s l n c) (star c) (operand_in s (operand.Symbol x)))
  unfolding operand_in
  word_stands star x w r e h c m = ap known (h c m ∙ ap (meaning_in s l n c) e)

  pub names_stand : (star : Context → Answer (List (List ℕ))) (is : Items)
      → StandsFor s y (prelude.Some (Values is)) (λ c. names_of (meaning_in s l n c) (star c) (operand_in s (operand.Names is)))
  unfolding operand_in
  names_stand star is c m = ap accepted (spellings-twice (items_in s is))
    where
      spellings-twice : (xs : List statement.Item)
          → map (λ i. i.name.spelling) xs ≡ map (λ (x : statement.Name). x.spelling) (map (λ i. i.name) xs)
      spellings-twice [] = refl
      spellings-twice (x ∷ xs) = ap (λ (ws : List (List ℕ)). x.name.spelling ∷ ws) (spellings-twice xs)

-- what stands for an operand stands for one that is equal to it
pub stands_same : (s : List ℕ) (y : Layout) (r : prelude.Option Source) (f : Operand → Context → Answer (List (List ℕ))) {o p : Operand}
    → p ≡ o
    → StandsFor s y r (f o)
    → StandsFor s y r (f p)
stands_same s y r f e h = subst (λ (x : Operand). StandsFor s y r (f x)) (sym e) h

module _ (b r : List ℕ) (y : Layout) (st : Stands b r y) where
  -- the list that names are held to
  pub target_sound : (every : Bool) → Sound b r (target_of y every)
  target_sound true = covariates_sound b r y st
  target_sound false = parameters_sound b r y st

  -- what is looked up, held to that list
  pub operand_held :
      (s l : List ℕ) (n : ℕ) (star : List ℕ) (every : Bool) (o : Operand) (k : prelude.Option Source)
      → StandsFor s y k (operand_names s l n star every o)
      → held (names_in b r (target_of y every)) (known (looked_as (handed_context b r) s k))
      ≡ cond every (covariates_in s l n b r o) (parameters_in s l n b r star o)
  operand_held s l n star true o k h =
      ap (held (names_in b r (covariates_of y))) (h (handed_context b r) (stands-marked b r y st))
      ∙ ap (λ (list : List (List ℕ)). held list (operand_names s l n star true o (handed_context b r))) (sym (covariates-are b r y st))
  operand_held s l n star false o k h =
      ap (held (names_in b r y.parameters)) (h (handed_context b r) (stands-marked b r y st))
      ∙ ap (λ (list : List (List ℕ)). held list (operand_names s l n star false o (handed_context b r))) (sym (parameters-are b r y st))

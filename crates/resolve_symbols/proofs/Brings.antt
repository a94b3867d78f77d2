-- What an entry brings, as it is answered: nothing, or the pair of a name; for an entry of the template by the place of a parameter.
-- Assumes nothing.
use mathlib.Core.Path.{◌≡◌, refl, ◌∙◌, ap, sym, subst, subst₂}
use mathlib.Core.Bool.{Bool, true, false, cond, ◌||◌}
use mathlib.Core.List.{List, [], ◌∷◌}
use mathlib.Core.Option.{Option, some, none}
use Prim.Native.Nat.{ℕ}
use native.Mathlib.Omega.{arith}
use lib.ListN.{get_or}
use Rattle.labels.specs.Word.{same_word}
use Rattle.text.specs.Lists.{later_by_one, any, keep, place_in, same_bytes}
use Rattle.resolving.specs.Context.{Binding, Declared}
use Rattle.resolving.specs.Builtins.{matching}
use Rattle.resolving_laws.proofs.Fewness.{place-below}
use Rattle.resolve_context.specs.declared.Layout.{Layout}
use Rattle.resolve_context.specs.Lists.{found_as, names_in}
use Rattle.std.specs.Prelude as prelude
use Rattle.resolve_context.proofs.Pairs.{names-length}
use Rattle.resolve_context.proofs.Places.{found_at, found_nowhere}
use Rattle.resolve_context.proofs.Meaning.{one_of, matching-is}
use Rattle.read_forms.specs.declared.Name.{Name}
use Rattle.read_forms.specs.Fits.{InText}
use Rattle.resolve_symbols.specs.declared.Named.TheVariants.{Block, Nothing}
use Rattle.resolve_symbols.specs.Sources.{is_some}
use Rattle.resolve_symbols.specs.Brings.{from_binding, from_declared, is_iiv, parameter_at, spelled_in, FoundBelow, Matches, Yields}

pub yields_nothing : {b : List ℕ} {ws : List (List ℕ)} → ws ≡ [] → Yields b ws Nothing
yields_nothing e = record { fits = λ s. tt; same = λ s. sym e }

pub yields_pair : {b : List ℕ} {ws : List (List ℕ)} {n : Name} (w : List ℕ)
    → InText b n → spelled_in b n ≡ w → ws ≡ w ∷ [] → Yields b ws (Block n)
yields_pair w i e f = record { fits = λ s. i; same = λ s. ap (λ (v : List ℕ). v ∷ []) e ∙ sym f }

-- an entry that is asked for, and one that is not
module _ (ps : List (List ℕ)) (p : Binding → Bool) (x : Binding) where
  pub binding_taken : p x ≡ true → from_binding ps p x ≡ matching ps x.variable
  binding_taken e = rw e

  pub binding_left : p x ≡ false → from_binding ps p x ≡ []
  binding_left e = rw e

module _ (p : Declared → Bool) (x : Declared) where
  pub declared-taken : p x ≡ true → from_declared p x ≡ x.name ∷ []
  declared-taken e = rw e

  pub declared-left : p x ≡ false → from_declared p x ≡ []
  declared-left e = rw e

-- whether there is one, by its place
any_place : {A : Type 0} (p : A → Bool) (xs : List A) → any p xs ≡ is_some (place_in p xs)
any_place p [] = refl
any_place p (x ∷ xs) = by_test (p x) (any_place p xs ∙ later (place_in p xs))
  where
    later : (o : Option ℕ) → is_some o ≡ is_some (later_by_one o)
    later none = refl
    later (some i) = refl

    by_test : (t : Bool) → any p xs ≡ is_some (later_by_one (place_in p xs)) → t || any p xs ≡ is_some (cond t (some 0) (later_by_one (place_in p xs)))
    by_test true e = refl
    by_test false e = e

module _ (b l : List ℕ) (y : Layout) where
  abbrev parameters : List (List ℕ)
  parameters = names_in b l y.parameters

  pub matches_nothing : {ws : List (List ℕ)} → ws ≡ [] → Matches b l y ws prelude.None
  matches_nothing e = record { below = tt; same = sym e }

  -- a parameter that was found, if it is an IIV parameter too
  module _ {x r : prelude.Option ℕ} {i : ℕ} {v : List ℕ} (told : x ≡ prelude.Some i) (word : v ≡ get_or parameters i [])
      (looked : r ≡ found_as (place_in (same_bytes v) (names_in b l y.iiv))) where
    abbrev own : List ℕ
    own = get_or parameters i []

    abbrev place : Option ℕ
    place = place_in (same_bytes own) (names_in b l y.iiv)

    kept-one : {t : Bool} → is_some place ≡ t → keep (is_iiv b l y) (parameter_at b l y x) ≡ cond t (own ∷ []) []
    kept-one e =
        ap (λ (z : prelude.Option ℕ). keep (is_iiv b l y) (parameter_at b l y z)) told
        ∙ ap (λ (t : Bool). cond t (own ∷ []) []) (any_place (same_bytes own) (names_in b l y.iiv) ∙ e)

    own-place : found_as place ≡ r
    own-place = sym (looked ∙ ap (λ (w : List ℕ). found_as (place_in (same_bytes w) (names_in b l y.iiv))) word)

    pub if-there : {k : ℕ} → FoundBelow y.parameters.count x → r ≡ prelude.Some k
        → Matches b l y (keep (is_iiv b l y) (parameter_at b l y x)) (prelude.Some i)
    if-there {k} h e =
        record {
          below = subst (FoundBelow y.parameters.count) told h;
          same = sym (kept-one (ap is_some (found_at place k (own-place ∙ e))));
        }

    pub if-absent : r ≡ prelude.None → Matches b l y (keep (is_iiv b l y) (parameter_at b l y x)) prelude.None
    if-absent e = matches_nothing (kept-one (ap is_some (found_nowhere place (own-place ∙ e))))

  -- the match of a variable
  pub match_found : {u v : List ℕ} {r : prelude.Option ℕ} → u ≡ v → r ≡ found_as (place_in (same_word u) parameters) → Matches b l y (matching parameters v) r
  match_found {u} {v} {r} word looked =
      subst₂ (λ (ws : List (List ℕ)) (f : prelude.Option ℕ). Matches b l y ws f) (sym (matching-is parameters v))
      (sym (looked ∙ ap (λ (w : List ℕ). found_as (place_in (same_word w) parameters)) word))
      (by_place (place_in (same_word v) parameters) refl)
    where
      by_place : (o : Option ℕ) → place_in (same_word v) parameters ≡ o → Matches b l y (one_of parameters o) (found_as o)
      by_place none e = matches_nothing refl
      by_place (some i) e =
          record { below = omega (arith, place-below (same_word v) parameters i e, names-length b l y.parameters); same = refl }

-- Where statements stand does not matter to resolving them.
-- Assumes nothing.
use Prim.Native.Nat.{ℕ, suc}
use mathlib.Core.Path.{◌≡◌, refl, ◌∙◌, ap, ap₂, fun_ext}
use mathlib.Core.List.{List, [], ◌∷◌, map, map-map}
use mathlib.Core.Option.{Option, some, none}
use Rattle.reading.specs.Statement.{
  Operand,
  everyone,
  symbol,
  names,
  Absorption,
  Elimination,
  Peripherals,
  Transits,
  Lagtime,
  Covariate,
  Allometry,
  DirectEffect,
  EffectComp,
  IndirectEffect,
  Metabolite,
  Iiv,
  Iov,
  Covariance,
  Statement,
  Let,
  feature,
}
use Rattle.reading.specs.Answer.{Answer, accepted, ◌>>=◌}
use Rattle.reading_laws.specs.Moved.{move_name, move_item, move_operand}
use Rattle.canonical_laws.specs.Forgotten.{nowhere, forget}
use Rattle.resolving.specs.Context.{Context}
use Rattle.resolving.specs.Symbols.{Meaning, Definition, defines, lets}
use Rattle.resolving.specs.Operands.{names_of}
use Rattle.resolving.specs.Brought.{Brought, bring, at_index, each_from}
use Rattle.resolving.specs.Resolve.{with_symbols, merge_and_ground, resolve}

-- Lists of things that were changed.
module _ {A B : Type 0} (g : A → B) where
  each_map :
      {C : Type 0} (f : B → Answer C) (k : A → Answer C) → ((x : A) → f (g x) ≡ k x)
      → (i : ℕ) (l : List A)
      → each_from f i (map g l) ≡ each_from k i l
  each_map f k h i [] = refl
  each_map {C} f k h i (x ∷ l) =
      ap₂
      (λ (a : Answer C) (r : Answer (List C)). at_index i a >>= λ y. r >>= λ ys. accepted (y ∷ ys))
      (h x)
      (each_map f k h (suc i) l)

-- Statements.

defines_forgotten : (s : Statement) → defines (forget s) ≡ defines s
defines_forgotten (Let n is) = ap (λ (vs : List (List ℕ)). some (record { key = n.spelling; values = vs })) (map-map _ (move_item nowhere) is)
defines_forgotten (feature f) = refl

lets_forgotten : (ss : List Statement) → lets (map forget ss) ≡ lets ss
lets_forgotten ss = map-map defines forget ss ∙ ap (λ (f : Statement → Option Definition). map f ss) (fun_ext defines_forgotten)

names_forgotten :
    (look : Meaning) (star : Answer (List (List ℕ))) (o : Operand) → names_of look star (move_operand nowhere o) ≡ names_of look star o
names_forgotten look star everyone = refl
names_forgotten look star (symbol n) = refl
names_forgotten look star (names ns) = ap accepted (map-map (λ n. n.spelling) (move_name nowhere) ns)

module _ (c : Context) (look : Meaning) where
  bring_forgotten : (s : Statement) → bring c look (forget s) ≡ bring c look s
  unfolding bring
  bring_forgotten (Let n is) = refl
  bring_forgotten (feature (Absorption ms)) = refl
  bring_forgotten (feature (Elimination ms)) = refl
  bring_forgotten (feature (Peripherals n ms)) = refl
  bring_forgotten (feature (Transits n ms)) = refl
  bring_forgotten (feature (Lagtime ms)) = refl
  bring_forgotten (feature (Covariate m everyone cs es op)) = simp names_forgotten
  bring_forgotten (feature (Covariate m (symbol n) cs es op)) = simp names_forgotten
  bring_forgotten (feature (Covariate m (names ns) cs es op)) = simp (names_forgotten, map-map)
  bring_forgotten (feature (Allometry n none)) = refl
  bring_forgotten (feature (Allometry n (some r))) = refl
  bring_forgotten (feature (DirectEffect ms)) = refl
  bring_forgotten (feature (EffectComp ms)) = refl
  bring_forgotten (feature (IndirectEffect ms ps)) = refl
  bring_forgotten (feature (Metabolite ms)) = refl
  bring_forgotten (feature (Iiv m ps es)) = simp names_forgotten
  bring_forgotten (feature (Iov m ps es)) = simp names_forgotten
  bring_forgotten (feature (Covariance m ls ps)) = simp names_forgotten

pub resolve_forgets : (c : Context) (ss : List Statement) → resolve c (map forget ss) ≡ resolve c ss
unfolding resolve
resolve_forgets c ss =
    ap₂
    (λ (ds : List (Option Definition)) (f : Meaning → Answer (List Brought)). with_symbols c ds (λ look. f look >>= merge_and_ground c))
    (lets_forgotten ss)
    (fun_ext (λ look. each_map forget (bring c look) (bring c look) (bring_forgotten c look) 0 ss))

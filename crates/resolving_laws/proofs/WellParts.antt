-- Parts of ground statements are well formed: lists of names, and modes.
-- Assumes nothing.
use Prim.Native.Nat.{ℕ, ◌≤◌}
use native.Mathlib.Omega.{arith}
use mathlib.Core.Path.{◌≡◌, refl, ◌∙◌, ap₂, subst}
use mathlib.Core.Bool.{Bool, true, false, ◌&&◌, true≢false}
use mathlib.Core.List.{List, [], ◌∷◌, map}
use mathlib.Core.Option
use mathlib.Core.Option.{Option, some, none}
use lib.Dec.{eqb, leb}
use lib.ListN.{length, get_or, length-map}
use borrow.Author.Tests.{le-leb}
use Rattle.text.proofs.Tests.{and_left, and_right, both}
use Rattle.tokens.specs.Spelling.{is_name}
use Rattle.text.specs.Lists.{all, is_nil}
use Rattle.text.proofs.Passing.{all_at}
use Rattle.labels.specs.Label.{labels_of}
use Rattle.labels.specs.declared.Family.{Family}
use Rattle.labels.specs.declared.Family.TheVariants.{
  AbsorptionMode,
  EliminationMode,
  PeripheralKind,
  DepotMode,
  LagtimeMode,
  CovariateEffect,
  PdMode,
  ProductionMode,
  MetaboliteMode,
  VariabilityEffect,
  VariabilityLevel,
}
use Rattle.reading.specs.Statement.{Modes, all_modes, modes}
use Rattle.reading.specs.Parts.{modes_part, some_part}
use Rattle.reading_laws.specs.WellFormed.{one_to64, well_named, is_place, none_twice, well_modes, well_operand, well_part}
use Rattle.resolving.specs.Context.{CovariateKind, continuous, categorical}
use Rattle.resolving.specs.Effects.{forms_of}
use Rattle.resolving.specs.Brought.{whole, plain_name, listed}
use Rattle.text.proofs.All.{All, finished, also, all_weaker, all_map}
use Rattle.text.proofs.Clashing.{clashes}
use Rattle.text.proofs.Once.{firsts-once}
use Rattle.resolving_laws.proofs.Fewness.{place-below, at_most}
use Rattle.resolving_laws.proofs.Entries.{FirstAt, Entries}

pub all_true : {A : Type 0} (p : A → Bool) {l : List A} → All (λ x. p x ≡ true) l → all p l ≡ true
all_true p finished = refl
all_true p (also h r) = ap₂ ◌&&◌ h (all_true p r)

pub true_all : {A : Type 0} (p : A → Bool) (l : List A) → all p l ≡ true → All (λ x. p x ≡ true) l
true_all p [] e = finished
true_all p (x ∷ l) e = also (and_left (p x) (all p l) e) (true_all p l (and_right (p x) (all p l) e))

-- one to 64 of what passes
pub one_to_64 : {A : Type 0} (p : A → Bool) (l : List A) → is_nil l ≡ false → length l ≤ 64 → All (λ x. p x ≡ true) l → one_to64 p l ≡ true
one_to_64 p [] n f h = absurd (true≢false n)
one_to_64 p (x ∷ l) n f h = both (le-leb (length (x ∷ l)) 64 f) (all_true p h)

-- Names.

-- the name at the index of an entry is one, where each of the list is
pub entry_named : (list : List (List ℕ)) → all is_name list ≡ true → (i : ℕ) → FirstAt list i → is_name (get_or list i []) ≡ true
entry_named list e i h = all_at is_name list i [] e (place-below _ list i h)

pub map_nil : {A B : Type 0} (f : A → B) (l : List A) → is_nil (map f l) ≡ is_nil l
map_nil f [] = refl
map_nil f (x ∷ l) = refl

pub listed_well :
    (list : List (List ℕ)) → length list ≤ 64
    → {is : List ℕ} → Entries list is → is_nil is ≡ false
    → All (λ i. is_name (get_or list i []) ≡ true) is
    → well_operand (listed list is) ≡ true
listed_well list few {is} h n named =
    one_to_64 well_named (map (λ i. plain_name (get_or list i [])) is)
    (map_nil (λ i. plain_name (get_or list i [])) is ∙ n)
    (omega (
      arith,
      length-map is (λ i. plain_name (get_or list i [])),
      at_most (length list)
          (all_weaker (λ i k. place-below _ list i k) h.first)
          (subst (λ (l : List ℕ). clashes eqb l ≡ false) h.once (firsts-once eqb is)),
    ))
    (all_map (λ i. plain_name (get_or list i [])) (λ i k. k) named)

-- Modes.

pub whole_well : (f : Family) (ms : Modes) → well_modes f ms ≡ true → well_modes f (whole f ms) ≡ true
unfolding whole labels_of
whole_well AbsorptionMode all_modes e = refl
whole_well EliminationMode all_modes e = refl
whole_well PeripheralKind all_modes e = refl
whole_well DepotMode all_modes e = refl
whole_well LagtimeMode all_modes e = refl
whole_well CovariateEffect all_modes e = refl
whole_well PdMode all_modes e = refl
whole_well ProductionMode all_modes e = refl
whole_well MetaboliteMode all_modes e = refl
whole_well VariabilityEffect all_modes e = refl
whole_well VariabilityLevel all_modes e = refl
whole_well f (modes ms) e = e

pub maybe-whole :
    (limit : ℕ) (f : Family) (o : Option Modes) → well_part limit (some_part (modes_part f) o) ≡ true
    → well_part limit (some_part (modes_part f) (Option.map (whole f) o)) ≡ true
maybe-whole limit f none e = refl
maybe-whole limit f (some ms) e = whole_well f ms e

pub forms_well : (es : Modes) (k : Option CovariateKind) → well_modes CovariateEffect es ≡ true → All (λ f. is_place CovariateEffect f ≡ true) (forms_of es k)
unfolding labels_of
forms_well all_modes none e = also refl (also refl (also refl (also refl finished)))
forms_well all_modes (some continuous) e = also refl (also refl (also refl (also refl finished)))
forms_well all_modes (some categorical) e = also refl finished
forms_well (modes fs) k e = placed fs (and_left (one_to64 (is_place CovariateEffect) fs) (none_twice fs) e)
  where
    placed : (fs : List ℕ) → one_to64 (is_place CovariateEffect) fs ≡ true → All (λ f. is_place CovariateEffect f ≡ true) fs
    placed [] e = finished
    placed (f ∷ fs) e = true_all (is_place CovariateEffect) (f ∷ fs) (and_right (leb (length (f ∷ fs)) 64) (all (is_place CovariateEffect) (f ∷ fs)) e)

-- The forms of a group, one effect after the other.
-- Assumes nothing.
use Prim.Native.Nat.{ℕ, ◌+◌, ◌*◌, ◌≤◌, ◌<◌}
use native.Mathlib.Omega.{arith}
use mathlib.Core.Path.{◌≡◌, refl, sym, ◌∙◌, ap, ap₂}
use mathlib.Core.Bool.{Bool, true, false, cond, not, ◌&&◌, ◌||◌}
use mathlib.Core.List.{List, [], ◌∷◌, ◌++◌, map, append_assoc}
use borrow.Author.Tests.{eq-eqb, ne_eqb, eqb-true, eqb-false, lt-ltb, not-true}
use lib.Dec.{eqb, ltb}
use lib.ListN.{length, take, get_or, length-append}
use lib.Seq.{slice}
use Rattle.text.specs.Bytes.{member_of}
use Rattle.text.specs.Lists.{all, keep}
use Rattle.text.proofs.Tests.{and_left, and_right}
use Rattle.reading_laws.specs.WellFormed.{none_twice}
use Rattle.reading_laws.proofs.Places.{few-places}
use Rattle.read_packs.specs.Packs.{places, with_mode, Snug, Joined}
use Rattle.read_packs.proofs.Packed.{no_place}
use Rattle.resolve_merging.specs.Packing.{bare, group_number, form_number}
use Rattle.resolve_merging.specs.Runs.{forms_of}
use Rattle.resolve_merging.specs.Outcomes.{Plain}
use Rattle.resolve_merging.specs.Grouping.{Packed}
use Rattle.resolve_merging.proofs.Mapped.{append-none}
use Rattle.resolve_merging.proofs.Scans.{slice_next, slice_past}

-- a group's effects
abbrev of_group : ℕ → List ℕ → List ℕ
of_group g l = keep (λ e. eqb (group_number e) g) l

-- effects of one group that are not the same have forms that are not the same
bare-group : (w : ℕ) → bare w ≡ group_number w + form_number w * 4
bare-group w = omega arith

other-forms :
    (g w : ℕ) → group_number w ≡ g → (l : List ℕ) → all (λ y. not (eqb (bare w) y)) (map bare l) ≡ true
    → all (λ x. not (eqb (form_number w) x)) (forms_of g l) ≡ true
other-forms g w e [] h = refl
other-forms g w e (u ∷ l) h =
    by_cases (eqb (group_number u) g) refl
    (other-forms g w e l (and_right (not (eqb (bare w) (bare u))) (all (λ y. not (eqb (bare w) y)) (map bare l)) h))
  where
    other : group_number u ≡ g → form_number w ≡ form_number u → ⊥
    other q d =
        eqb-false (bare w) (bare u)
        (not-true (eqb (bare w) (bare u)) (and_left (not (eqb (bare w) (bare u))) (all (λ y. not (eqb (bare w) y)) (map bare l)) h))
        (bare-group w ∙ ap₂ (λ (x y : ℕ). x + y * 4) (e ∙ sym q) d ∙ sym (bare-group u))

    by_cases :
        (t : Bool) → eqb (group_number u) g ≡ t → all (λ x. not (eqb (form_number w) x)) (forms_of g l) ≡ true
        → all (λ x. not (eqb (form_number w) x)) (map form_number (cond t (u ∷ of_group g l) (of_group g l))) ≡ true
    by_cases true q r =
        ap₂ (λ (s t : Bool). not s && t) (ne_eqb (form_number w) (form_number u) (other (eqb-true (group_number u) g q))) r
    by_cases false q r = r

forms-once : (g : ℕ) (l : List ℕ) → none_twice (map bare l) ≡ true → none_twice (forms_of g l) ≡ true
forms-once g [] h = refl
forms-once g (w ∷ l) h =
    by_cases (eqb (group_number w) g) refl (forms-once g l (and_right (all (λ y. not (eqb (bare w) y)) (map bare l)) (none_twice (map bare l)) h))
  where
    by_cases :
        (t : Bool) → eqb (group_number w) g ≡ t → none_twice (forms_of g l) ≡ true
        → none_twice (map form_number (cond t (w ∷ of_group g l) (of_group g l))) ≡ true
    by_cases true q r =
        ap₂ ◌&&◌
        (other-forms g w (eqb-true (group_number w) g q) l (and_left (all (λ y. not (eqb (bare w) y)) (map bare l)) (none_twice (map bare l)) h))
        r
    by_cases false q r = r

pub plain-forms : (g : ℕ) {l : List ℕ} → Plain l → none_twice (forms_of g l) ≡ true
plain-forms g {l} p = forms-once g l (ap none_twice p.effects ∙ p.once)

-- a form is below 8, so a group has at most 8
forms-below : (l : List ℕ) → all (λ x. ltb x 8) (map form_number l) ≡ true
forms-below [] = refl
forms-below (w ∷ l) = ap₂ ◌&&◌ (lt-ltb (form_number w) 8 (omega arith)) (forms-below l)

few-forms : (g : ℕ) (l : List ℕ) → none_twice (forms_of g l) ≡ true → length (forms_of g l) ≤ 8
few-forms g l h = few-places 8 (forms_of g l) (forms-below (of_group g l)) h

-- one that comes later stands not among those before
all-behind : (p : ℕ → Bool) (ds : List ℕ) (x : ℕ) (rest : List ℕ) → all p (ds ++ x ∷ rest) ≡ true → p x ≡ true
all-behind p [] x rest h = and_left (p x) (all p rest) h
all-behind p (d ∷ ds) x rest h = all-behind p ds x rest (and_right (p d) (all p (ds ++ x ∷ rest)) h)

not_yet : (ds : List ℕ) (x : ℕ) (rest : List ℕ) → none_twice (ds ++ x ∷ rest) ≡ true → member_of ds x ≡ false
not_yet [] x rest h = refl
not_yet (d ∷ ds) x rest h =
    ap₂ ◌||◌
    (ne_eqb x d
    (λ q.
    eqb-false d x
    (not-true (eqb d x)
    (all-behind (λ y. not (eqb d y)) ds x rest (and_left (all (λ y. not (eqb d y)) (ds ++ x ∷ rest)) (none_twice (ds ++ x ∷ rest)) h)))
    (sym q)))
    (not_yet ds x rest (and_right (all (λ y. not (eqb d y)) (ds ++ x ∷ rest)) (none_twice (ds ++ x ∷ rest)) h))

-- the forms so far, with that of an effect if it is of the group
pub record FormJoined (packed e g r : ℕ) : Type 0 where
  pub all : places r ≡ cond (eqb (group_number e) g) (with_mode (places packed) (form_number e)) (places packed)
  pub snug : Snug r

-- The loop: the forms so far, and those of the effects that are left, are all.
pub record Forms (work : List ℕ) (m g : ℕ) (packed i : ℕ) : Type 0 where
  pub snug : Snug packed
  pub rest : places packed ++ forms_of g (slice i m work) ≡ forms_of g (take m work)

pub forms-start : (work : List ℕ) (m g : ℕ) → Forms work m g 0 0
forms-start work m g = record {
  snug = rw (no_place 0 refl) (omega arith);
  rest = ap (λ (l : List ℕ). l ++ forms_of g (take m work)) (no_place 0 refl);
}

pub forms-end : {work : List ℕ} {m g packed i : ℕ} → m ≤ i → Forms work m g packed i → Packed packed (forms_of g (take m work))
forms-end {work} {m} {g} {packed} {i} h f = record {
  all = sym (append-none (places packed)) ∙ ap (λ (l : List ℕ). places packed ++ forms_of g l) (sym (slice_past work i m h)) ∙ f.rest;
  snug = f.snug;
}

module _ {work : List ℕ} {m g packed i : ℕ} (so : i < m) (room : m ≤ length work) (once : none_twice (forms_of g (take m work)) ≡ true)
    (f : Forms work m g packed i) where
  here :
      places packed
      ++ map form_number
      (cond (eqb (group_number (get_or work i 0)) g) (get_or work i 0 ∷ of_group g (slice (i + 1) m work)) (of_group g (slice (i + 1) m work)))
      ≡ forms_of g (take m work)
  here = ap (λ (l : List ℕ). places packed ++ forms_of g l) (sym (slice_next work i m so room)) ∙ f.rest

  own : group_number (get_or work i 0) ≡ g
      → places packed ++ form_number (get_or work i 0) ∷ forms_of g (slice (i + 1) m work) ≡ forms_of g (take m work)
  own e = rw (eq-eqb (group_number (get_or work i 0)) g e) at here

  pub forms-room : group_number (get_or work i 0) ≡ g → length (places packed) ≤ 7
  forms-room e =
      omega (
        arith,
        few-forms g (take m work) once,
        ap length (own e),
        length-append (places packed) (form_number (get_or work i 0) ∷ forms_of g (slice (i + 1) m work)),
      )

  pub forms-next : {r : ℕ} → FormJoined packed (get_or work i 0) g r → Forms work m g r (i + 1)
  forms-next {r} j = by_cases (eqb (group_number (get_or work i 0)) g) refl j.all here
    where
      by_cases :
          (t : Bool) → eqb (group_number (get_or work i 0)) g ≡ t
          → places r ≡ cond t (with_mode (places packed) (form_number (get_or work i 0))) (places packed)
          → places packed
          ++ map form_number (cond t (get_or work i 0 ∷ of_group g (slice (i + 1) m work)) (of_group g (slice (i + 1) m work)))
          ≡ forms_of g (take m work)
          → Forms work m g r (i + 1)
      by_cases true q e h =
          let x = form_number (get_or work i 0) in
          let new : member_of (places packed) x ≡ false =
          not_yet (places packed) x (forms_of g (slice (i + 1) m work)) (ap none_twice h ∙ once) in
          let longer : with_mode (places packed) x ≡ places packed ++ x ∷ [] = rw new in
          record {
            snug = j.snug;
            rest =
                ap (λ (l : List ℕ). l ++ forms_of g (slice (i + 1) m work)) (e ∙ longer)
                ∙ append_assoc (places packed) (x ∷ []) (forms_of g (slice (i + 1) m work))
                ∙ h;
          }
      by_cases false q e h = record {
        snug = j.snug;
        rest = ap (λ (l : List ℕ). l ++ forms_of g (slice (i + 1) m work)) e ∙ h;
      }

-- what an effect of another group makes of the forms, and one of the same
module _ (packed e g : ℕ) where
  pub other-group : (group_number e ≡ g → ⊥) → Snug packed → FormJoined packed e g packed
  other-group h s = record { all = rw (ne_eqb (group_number e) g h); snug = s }

  pub own-group : {r : ℕ} → group_number e ≡ g → Joined packed (form_number e) r → FormJoined packed e g r
  own-group h j = record { all = rw (eq-eqb (group_number e) g h) j.all; snug = j.snug }

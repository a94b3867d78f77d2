-- What stays in each pass is what the definition keeps. A term that others lose to stays itself, so it is found among those that stay so far.
-- Assumes nothing.
use Prim.Native.Nat.{ℕ, ◌+◌, ◌*◌, ◌-◌, ◌/◌, ◌%◌, ◌<◌}
use native.Mathlib.Omega.{arith}
use mathlib.Core.Path.{◌≡◌, refl, sym, ◌∙◌, ap, ap₂, fun_ext}
use mathlib.Core.Bool.{Bool, true, false, cond, not, ◌&&◌, ◌||◌, true≢false}
use mathlib.Core.List.{List, [], ◌∷◌, ◌++◌, map, append_assoc}
use borrow.Author.Tests.{eq-eqb, eqb-true, eqb-false}
use lib.Dec.{eqb}
use Rattle.text.specs.Lists.{any, keep}
use Rattle.resolving.specs.Effects.{Effect}
use Rattle.resolving.specs.Merging.{same_pair, same_form, is_mandatory}
use Rattle.resolving_laws.specs.Flat.{Term}
use Rattle.text.proofs.All.{neither-one}
use Rattle.text.proofs.Appended.{any_append, keep_append}
use Rattle.resolve_merging.specs.Packing.{effect_of, term_of, bare, pair_of}
use Rattle.resolve_merging.specs.Runs.{overridden_in, remaining_in, also_mandatory_in}
use Rattle.resolve_merging.proofs.Mapped.{append-none, any-map}
use Rattle.resolve_merging.proofs.Fields.{both_eqb, pair_eqb, mandatory_eqb}
use Rattle.resolve_merging_few.specs.Sieves.{Pass}
use Rattle.resolve_merging_few.specs.Sieves as passes
use Rattle.resolve_merging_few.specs.Sought as sought
use Rattle.resolve_merging_few.specs.Scans.{passes_by}
use Rattle.resolve_merging_few.specs.Passes.{among, gone_by, stay_by, twins_gone}

-- Tests of lists.

-- what stays is found among those that stay
any-kept : (q p : ℕ → Bool) → ((u : ℕ) → q u ≡ true → p u ≡ true) → (l : List ℕ) → any q (keep p l) ≡ any q l
any-kept q p h [] = refl
any-kept q p h (x ∷ l) = by_cases (p x) refl (q x) refl (any-kept q p h l)
  where
    by_cases :
        (s : Bool) → p x ≡ s → (t : Bool) → q x ≡ t → any q (keep p l) ≡ any q l → any q (cond s (x ∷ keep p l) (keep p l)) ≡ t || any q l
    by_cases true e t f r = ap₂ ◌||◌ f r
    by_cases false e true f r = absurd (true≢false (sym (h x f) ∙ e))
    by_cases false e false f r = r

none_both : (p r : ℕ → Bool) (l : List ℕ) → any p l ≡ false → any (λ u. p u && r u) l ≡ false
none_both p r [] e = refl
none_both p r (x ∷ l) e =
    let h = neither-one (p x) (any p l) e in
    ap₂ (λ (s t : Bool). s && r x || t) h.0 (none_both p r l h.1)

keep-each : (p : ℕ → Bool) → ((w : ℕ) → p w ≡ true) → (l : List ℕ) → keep p l ≡ l
keep-each p h [] = refl
keep-each p h (x ∷ l) = ap₂ (λ (t : Bool) (m : List ℕ). cond t (x ∷ m) m) (h x) (keep-each p h l)

-- A pass keeps those that do not lose, if a term goes where it loses.
module _ (pass : Pass) (loses : ℕ → Bool) (whole : List ℕ)
    (same :
    (d : List ℕ) (w : ℕ) (k : List ℕ) → d ++ w ∷ k ≡ whole → gone_by pass (keep (λ u. not (loses u)) d) (w ∷ k) w ≡ loses w) where
  abbrev stay : List ℕ → List ℕ
  stay l = keep (λ u. not (loses u)) l

  one_sifted :
      (d : List ℕ) (w : ℕ) (k : List ℕ) → d ++ w ∷ k ≡ whole
      → cond (gone_by pass (stay d) (w ∷ k) w) (stay d) (stay d ++ w ∷ []) ≡ stay (d ++ w ∷ [])
  one_sifted d w k e =
      ap (λ (t : Bool). cond t (stay d) (stay d ++ w ∷ [])) (same d w k e)
      ∙ by_cases (loses w)
      ∙ sym (keep_append (λ u. not (loses u)) d (w ∷ []))
    where
      by_cases : (t : Bool) → cond t (stay d) (stay d ++ w ∷ []) ≡ stay d ++ cond (not t) (w ∷ []) []
      by_cases true = sym (append-none (stay d))
      by_cases false = refl

  kept_from : (d l : List ℕ) → d ++ l ≡ whole → stay_by pass (stay d) l ≡ stay whole
  kept_from d [] e = ap stay (sym (append-none d) ∙ e)
  kept_from d (w ∷ l) e =
      ap (λ (seen : List ℕ). stay_by pass seen l) (one_sifted d w l e)
      ∙ kept_from (d ++ w ∷ []) l (append_assoc d (w ∷ []) l ∙ e)

-- An explicit term of a pair.
explicit_eqb : (u w : ℕ) → eqb (u / 131072 % 2) 1 && same_pair (effect_of w) (effect_of u) ≡ passes_by (sought.ExplicitOf (pair_of w + 4096)) u
explicit_eqb u w =
    ap (λ (t : Bool). eqb (u / 131072 % 2) 1 && t) (pair_eqb w u)
    ∙ both_eqb (u / 131072 % 2) 1 (pair_of w) (pair_of u) (u / 32 % 8192) (pair_of w + 4096)
    (λ x y. joined (u / 32) (u / 131072) (pair_of w) (omega arith) x y)
    (λ e. parted (u / 32) (u / 131072) (pair_of w) (omega arith) (omega arith) e)
  where
    joined : (v x p : ℕ) → v / 4096 ≡ x → x % 2 ≡ 1 → p ≡ v % 4096 → v % 8192 ≡ p + 4096
    joined v x p h e f = omega arith

    parted : (v x p : ℕ) → v / 4096 ≡ x → p < 4096 → v % 8192 ≡ p + 4096 → (x % 2 ≡ 1) × (p ≡ v % 4096)
    parted v x p h g e = (omega arith, omega arith)

overridden_scan :
    (l : List ℕ) (w : ℕ)
    → overridden_in l w ≡ not (eqb (w / 131072 % 2) 1) && any (passes_by (sought.ExplicitOf (pair_of w + 4096))) l
overridden_scan l w =
    ap
    (λ (t : Bool). not (eqb (w / 131072 % 2) 1) && t)
    (any-map term_of (λ (u : Term). u.explicit && same_pair (effect_of w) u.effect) l
    ∙ ap (λ (p : ℕ → Bool). any p l) (fun_ext (λ u. explicit_eqb u w)))

-- one that a pair's others lose to is explicit, and does not lose
explicit-stays : (l : List ℕ) (w u : ℕ) → passes_by (sought.ExplicitOf (pair_of w + 4096)) u ≡ true → not (overridden_in l u) ≡ true
explicit-stays l w u e =
    let h : u / 32 % 8192 ≡ pair_of w + 4096 = eqb-true (u / 32 % 8192) (pair_of w + 4096) e in
    let k : u / 131072 % 2 ≡ 1 = high (u / 32) (u / 131072) (pair_of w) (omega arith) (omega arith) h in
    ap
    (λ (t : Bool). not (not t && any (λ (v : Term). v.explicit && same_pair (effect_of u) v.effect) (map term_of l)))
    (eq-eqb (u / 131072 % 2) 1 k)
  where
    high : (v x p : ℕ) → v / 4096 ≡ x → p < 4096 → v % 8192 ≡ p + 4096 → x % 2 ≡ 1
    high v x p h g e = omega arith

pub overridden_gone : (l : List ℕ) → stay_by passes.Overridden [] l ≡ remaining_in l
overridden_gone l = kept_from passes.Overridden (overridden_in l) l same [] l refl
  where
    same :
        (d : List ℕ) (w : ℕ) (k : List ℕ) → d ++ w ∷ k ≡ l
        → gone_by passes.Overridden (keep (λ u. not (overridden_in l u)) d) (w ∷ k) w ≡ overridden_in l w
    same d w k e =
        let q = passes_by (sought.ExplicitOf (pair_of w + 4096)) in
        ap
        (λ (t : Bool). not (eqb (w / 131072 % 2) 1) && (t || any q (w ∷ k)))
        (any-kept q (λ u. not (overridden_in l u)) (explicit-stays l w) d)
        ∙ ap (λ (t : Bool). not (eqb (w / 131072 % 2) 1) && t) (sym (any_append q d (w ∷ k)) ∙ ap (any q) e)
        ∙ sym (overridden_scan l w)

pub none-explicit : (l : List ℕ) → any (passes_by sought.Explicit) l ≡ false → l ≡ remaining_in l
none-explicit l h = sym (keep-each (λ w. not (overridden_in l w)) one l)
  where
    either : (t : Bool) → not (t && false) ≡ true
    either true = refl
    either false = refl

    one : (w : ℕ) → not (overridden_in l w) ≡ true
    one w =
        ap
        (λ (t : Bool). not (not (eqb (w / 131072 % 2) 1) && t))
        (any-map term_of (λ (u : Term). u.explicit && same_pair (effect_of w) u.effect) l
        ∙ none_both (passes_by sought.Explicit) (λ u. same_pair (effect_of w) (effect_of u)) l h)
        ∙ either (not (eqb (w / 131072 % 2) 1))

-- A mandatory term of an optional one's form: its number is lower by 1.
twin_eqb :
    (u w : ℕ) → (w % 2 ≡ 0 → ⊥) → is_mandatory (effect_of u) && same_form (effect_of w) (effect_of u) ≡ passes_by (sought.Effect (bare w - 1)) u
twin_eqb u w o =
    let odd : w % 32 % 2 ≡ 0 → ⊥ = λ e. o (omega (arith, e)) in
    let even : u % 32 % 2 ≡ u % 2 = omega arith in
    let low : u % 32 < 32 = omega arith in
    let high : w % 32 < 32 = omega arith in
    let own : pair_of u * 32 + u % 32 ≡ bare u = omega arith in
    let other : pair_of w * 32 + w % 32 ≡ bare w = omega arith in
    mandatory_eqb u w o
    ∙ ap
    (λ (t : Bool). eqb (pair_of u) (pair_of w) && t)
    (both_eqb (u % 2) 0 (w % 32 - 1) (u % 32) (u % 32) (w % 32 - 1) (λ x y. sym y)
    (λ e. (sym even ∙ lower (u % 32) (w % 32) odd e, sym e)))
    ∙ both_eqb (pair_of u) (pair_of w) (u % 32) (w % 32 - 1) (bare u) (bare w - 1)
    (λ x y. joined (pair_of u) (u % 32) (pair_of w) (w % 32) (bare u) (bare w) own other odd x y)
    (λ e. parted (pair_of u) (u % 32) (pair_of w) (w % 32) (bare u) (bare w) own other odd low high e)
  where
    lower : (x y : ℕ) → (y % 2 ≡ 0 → ⊥) → x ≡ y - 1 → x % 2 ≡ 0
    lower x y o e = omega (arith, o, e)

    joined :
        (p x q y a b : ℕ) → p * 32 + x ≡ a → q * 32 + y ≡ b → (y % 2 ≡ 0 → ⊥) → p ≡ q → x ≡ y - 1 → a ≡ b - 1
    joined p x q y a b g h o e f = omega (arith, g, h, o, e, f)

    parted :
        (p x q y a b : ℕ) → p * 32 + x ≡ a → q * 32 + y ≡ b → (y % 2 ≡ 0 → ⊥) → x < 32 → y < 32 → a ≡ b - 1
        → (p ≡ q) × (x ≡ y - 1)
    parted p x q y a b g h o l k e = (omega (arith, g, h, o, l, k, e), omega (arith, g, h, o, l, k, e))

mandatory_scan :
    (l : List ℕ) (w : ℕ) → (w % 2 ≡ 0 → ⊥)
    → any (λ (f : Effect). is_mandatory f && same_form (effect_of w) f) (map effect_of l) ≡ any (passes_by (sought.Effect (bare w - 1))) l
mandatory_scan l w o =
    any-map effect_of (λ (f : Effect). is_mandatory f && same_form (effect_of w) f) l
    ∙ ap (λ (p : ℕ → Bool). any p l) (fun_ext (λ u. twin_eqb u w o))

mandatory-stays :
    (l : List ℕ) (w : ℕ) → (w % 2 ≡ 0 → ⊥) → (u : ℕ) → passes_by (sought.Effect (bare w - 1)) u ≡ true
    → not (also_mandatory_in l u) ≡ true
mandatory-stays l w o u e =
    let h : bare u ≡ bare w - 1 = eqb-true (bare u) (bare w - 1) e in
    let g : bare w % 2 ≡ 0 → ⊥ = λ z. o (omega (arith, z)) in
    let k : bare u % 2 ≡ u % 2 = omega arith in
    let z : u % 2 ≡ 0 = sym k ∙ lower (bare u) (bare w) g h in
    ap
    (λ (t : Bool). not (not t && any (λ (f : Effect). is_mandatory f && same_form (effect_of u) f) (map effect_of l)))
    (eq-eqb (u % 2) 0 z)
  where
    lower : (x y : ℕ) → (y % 2 ≡ 0 → ⊥) → x ≡ y - 1 → x % 2 ≡ 0
    lower x y o e = omega (arith, o, e)

pub twins_gone_lem : (l : List ℕ) → stay_by passes.AlsoMandatory [] l ≡ twins_gone l
twins_gone_lem l = kept_from passes.AlsoMandatory (also_mandatory_in l) l same [] l refl
  where
    same :
        (d : List ℕ) (w : ℕ) (k : List ℕ) → d ++ w ∷ k ≡ l
        → gone_by passes.AlsoMandatory (keep (λ u. not (also_mandatory_in l u)) d) (w ∷ k) w ≡ also_mandatory_in l w
    same d w k e = by_cases (eqb (w % 2) 0) refl
      where
        by_cases :
            (t : Bool) → eqb (w % 2) 0 ≡ t
            → not t && among (keep (λ u. not (also_mandatory_in l u)) d) (w ∷ k) (sought.Effect (bare w - 1))
            ≡ not t && any (λ (f : Effect). is_mandatory f && same_form (effect_of w) f) (map effect_of l)
        by_cases true z = refl
        by_cases false z =
            let q = passes_by (sought.Effect (bare w - 1)) in
            let o = eqb-false (w % 2) 0 z in
            ap (λ (t : Bool). t || any q (w ∷ k)) (any-kept q (λ u. not (also_mandatory_in l u)) (mandatory-stays l w o) d)
            ∙ sym (any_append q d (w ∷ k))
            ∙ ap (any q) e
            ∙ sym (mandatory_scan l w o)

pub none-mandatory : (l : List ℕ) → any (passes_by sought.Mandatory) l ≡ false → l ≡ twins_gone l
none-mandatory l h = sym (keep-each (λ w. not (also_mandatory_in l w)) one l)
  where
    either : (t : Bool) → not (t && false) ≡ true
    either true = refl
    either false = refl

    one : (w : ℕ) → not (also_mandatory_in l w) ≡ true
    one w =
        ap
        (λ (t : Bool). not (not (eqb (w % 2) 0) && t))
        (any-map effect_of (λ (f : Effect). is_mandatory f && same_form (effect_of w) f) l
        ∙ none_both (passes_by sought.Mandatory) (λ u. same_form (effect_of w) (effect_of u)) l h)
        ∙ either (not (eqb (w % 2) 0))

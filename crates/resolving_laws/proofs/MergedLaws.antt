-- Merged effects: each can be written again, none stands twice, no optional one equals a mandatory one, those that force one pair have one
-- operator, and they are no more than before merging.
-- Assumes nothing.
use Prim.Native.Nat.{ℕ, ◌≤◌}
use native.Mathlib.Omega.{arith}
use mathlib.Core.Path.{◌≡◌, refl, sym, ◌∙◌}
use mathlib.Core.Bool.{Bool, true, false, cond, not, ◌&&◌}
use mathlib.Core.List.{List, [], ◌∷◌}
use lib.ListN.{length, length-append}
use borrow.Author.Tests.{not-true}
use Rattle.text.specs.Lists.{any, keep, firsts, gather}
use Rattle.resolving.specs.Context.{Context}
use Rattle.resolving.specs.Effects.{Effect}
use Rattle.resolving.specs.Brought.{Brought, defining, dropped, stays, brings}
use Rattle.resolving.specs.Merging.{same_form, same_effect, is_mandatory, effects_in, remains, overridden, remaining, forces_with, both_force, also_mandatory, merge}
use Rattle.text.proofs.All.{
  All,
  finished,
  also,
  neither-one,
  all_weaker,
  all_of,
  all_append,
  all_keep,
  all_firsts,
  all_both,
  all-gather,
  none-all,
  all_none,
}
use Rattle.text.proofs.Clashing.{clashes}
use Rattle.text.proofs.Once.{firsts-once}
use Rattle.resolving_laws.proofs.EffectLaws.{forces_sym}
use Rattle.resolving.specs.Ground.{group_of}
use Rattle.resolving_laws.proofs.Stands.{Written, Suited, Stands, stands-effects}

-- no more than before

module _ {A : Type 0} where
  keep_shorter : (p : A → Bool) (l : List A) → length (keep p l) ≤ length l
  keep_shorter p [] = omega arith
  keep_shorter p (x ∷ l) = by_cases (p x) (keep_shorter p l)
    where
      by_cases : (t : Bool) → length (keep p l) ≤ length l → length (cond t (x ∷ keep p l) (keep p l)) ≤ length (x ∷ l)
      by_cases true h = omega arith
      by_cases false h = omega arith

  pub firsts_shorter : (same : A → A → Bool) (l : List A) → length (firsts same l) ≤ length l
  firsts_shorter same [] = omega arith
  firsts_shorter same (x ∷ l) = omega (arith, keep_shorter (λ y. not (same x y)) (firsts same l), firsts_shorter same l)

remains_shorter : (w : Effect → Bool) (b : Brought) → length (remains w b) ≤ length (effects_in b)
remains_shorter w defining = omega arith
remains_shorter w dropped = omega arith
remains_shorter w (stays f) = omega arith
remains_shorter w (brings true es) = omega arith
remains_shorter w (brings false es) = keep_shorter (λ e. not (w e)) es

remaining_shorter : (w : Effect → Bool) (bs : List Brought) → length (gather (remains w) bs) ≤ length (gather effects_in bs)
remaining_shorter w [] = omega arith
remaining_shorter w (b ∷ bs) =
    omega (
      arith,
      length-append (remains w b) (gather (remains w) bs),
      length-append (effects_in b) (gather effects_in bs),
      remains_shorter w b,
      remaining_shorter w bs,
    )

pub merged_shorter : (bs : List Brought) → length (merge (remaining bs)) ≤ length (gather effects_in bs)
merged_shorter bs =
    omega (
      arith,
      firsts_shorter same_effect (keep (λ e. not (also_mandatory (remaining bs) e)) (remaining bs)),
      keep_shorter (λ e. not (also_mandatory (remaining bs) e)) (remaining bs),
      remaining_shorter (overridden bs) bs,
    )

-- What holds of each effect holds of each merged one.

pub merge-all : {P : Effect → Type 0} (es : List Effect) → All P es → All P (merge es)
merge-all es h = all_firsts same_effect (all_weaker (λ e k. k.1) (all_keep (λ e. not (also_mandatory es e)) h))

pub merge-once : (es : List Effect) → clashes same_effect (merge es) ≡ false
merge-once es = firsts-once same_effect (keep (λ e. not (also_mandatory es e)) es)

-- no optional one equals a mandatory one
fewer_yield :
    (es fs : List Effect) (e : Effect)
    → (any (λ f. is_mandatory f && same_form e f) es ≡ false → any (λ f. is_mandatory f && same_form e f) fs ≡ false)
    → also_mandatory es e ≡ false
    → also_mandatory fs e ≡ false
fewer_yield es fs e h = by_cases (not (is_mandatory e))
  where
    by_cases :
        (t : Bool) → t && any (λ f. is_mandatory f && same_form e f) es ≡ false
        → t && any (λ f. is_mandatory f && same_form e f) fs ≡ false
    by_cases true k = h k
    by_cases false k = refl

pub merge_settled : (es : List Effect) → All (λ e. also_mandatory (merge es) e ≡ false) (merge es)
merge_settled es =
    all_weaker
    (λ e k.
    fewer_yield es (merge es) e
    (λ n. all_none (λ f. is_mandatory f && same_form e f) (merge-all es (none-all (λ f. is_mandatory f && same_form e f) es n)))
    (not-true (also_mandatory es e) k.0))
    (all_firsts same_effect (all_keep (λ e. not (also_mandatory es e)) (all_of {P = λ e. e ≡ e} (λ e. refl) es)))

-- Of what statements bring.

-- those that force one pair have one operator
abbrev pub Agree : Effect → Effect → Type 0
Agree e f = forces_with e f ≡ true → e.operator ≡ f.operator

module _ (c : Context) (w : Effect → Bool) where
  abbrev Known : Effect → Type 0
  Known e = Written c (group_of e) × Suited c e

  remains-known : (b : Brought) → Stands c b → All Known (remains w b)
  remains-known defining h = finished
  remains-known dropped h = finished
  remains-known (stays f) h = finished
  remains-known (brings true es) (stands-effects op h) = all_weaker (λ e k. (k.0, k.1)) h
  remains-known (brings false es) (stands-effects op h) = all_weaker (λ e k. (k.1.0, k.1.1)) (all_keep (λ e. not (w e)) h)

  one-operator : (op : ℕ) {es : List Effect} → All (λ e. e.operator ≡ op) es → All (λ e. All (Agree e) es) es
  one-operator op {es} h = all_weaker (λ e p. all_weaker (λ f q k. p ∙ sym q) h) h

  remains_agree : (b : Brought) → Stands c b → All (λ e. All (Agree e) (remains w b)) (remains w b)
  remains_agree defining h = finished
  remains_agree dropped h = finished
  remains_agree (stays f) h = finished
  remains_agree (brings true es) (stands-effects op h) = one-operator op (all_weaker (λ e k. k.2) h)
  remains_agree (brings false es) (stands-effects op h) = one-operator op (all_weaker (λ e k. k.1.2) (all_keep (λ e. not (w e)) h))

  -- another statement forces none of its pairs
  across : (r : List Effect) {ds : List Brought} → All (λ d. any (λ e. any (forces_with e) (remains w d)) r ≡ false) ds
      → All (λ e. All (Agree e) (gather (remains w) ds)) r
  across r finished = all_of (λ e. finished) r
  across r (also {x = d} h hs) =
      all_weaker
      (λ e k.
      all_append
      (all_weaker (λ f n y. absurd (mathlib.Core.Bool.true≢false (sym y ∙ n))) (none-all (forces_with e) (remains w d) k.0))
      k.1)
      (all_both (none-all (λ e. any (forces_with e) (remains w d)) r h) (across r hs))

  flip : {m l : List Effect} → All (λ e. All (Agree e) m) l → All (λ f. All (Agree f) l) m
  flip {m} finished = all_of (λ f. finished) m
  flip (also {x = e} h hs) =
      all_weaker
      (λ f k. also (λ y. sym (k.0 (forces_sym e f ∙ y))) k.1)
      (all_both h (flip hs))

  pub all_agree :
      {bs : List Brought} → All (Stands c) bs → clashes (both_force w) bs ≡ false
      → All (λ e. All (Agree e) (gather (remains w) bs)) (gather (remains w) bs)
  all_agree finished f = finished
  all_agree (also {x = b} {l = ds} h hs) f =
      let g = neither-one (any (both_force w b) ds) (clashes (both_force w) ds) f in
      let over = across (remains w b) (none-all (both_force w b) ds g.0) in
      all_append
      (all_weaker (λ e k. all_append k.0 k.1) (all_both (remains_agree b h) over))
      (all_weaker (λ e k. all_append k.0 k.1) (all_both (flip over) (all_agree hs g.1)))

  pub all_known : {bs : List Brought} → All (Stands c) bs → All Known (gather (remains w) bs)
  all_known h = all-gather (remains w) remains-known h

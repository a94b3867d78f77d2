-- Merging, as code does it on one run of effects.
-- Assumes nothing.
use Prim.Native.Nat.{ℕ, suc, ◌+◌, ◌<◌}
use native.Mathlib.Omega.{arith}
use mathlib.Core.Path.{◌≡◌, refl, sym, ◌∙◌, ap, ap₂, fun_ext}
use mathlib.Core.Bool.{Bool, true, false, cond, not, ◌&&◌, ◌||◌}
use mathlib.Core.List.{List, [], ◌∷◌, ◌++◌, map}
use mathlib.Core.Option.{Option, some, none}
use borrow.Author.Tests.{lt-ltb, le-ltb}
use Rattle.text.specs.Lists.{later_by_one, any, keep, gather, again_after}
use Rattle.resolving.specs.Effects.{Effect}
use Rattle.resolving.specs.Brought.{Brought, defining, dropped, stays, brings}
use Rattle.resolving.specs.Merging.{same_pair, remains, overridden, remaining, forces_with, both_force, forced_again}
use Rattle.resolving_laws.specs.Flat.{Term, term, terms_from, overridden_among, forced_before, forced_after}
use Rattle.text.proofs.All.{All, finished, also, all_weaker, all_append}
use Rattle.text.proofs.Appended.{any_append, keep_append, map-append}
use Rattle.text.proofs.Clashing.{any-any}

-- an explicit effect on the pair
abbrev wins : Effect → Term → Bool
wins e u = u.explicit && same_pair e u.effect

block_wins : (e : Effect) (i : ℕ) (x : Bool) (es : List Effect) → any (wins e) (map (term i x) es) ≡ x && any (same_pair e) es
block_wins e i true [] = refl
block_wins e i false [] = refl
block_wins e i true (f ∷ es) = ap (λ (t : Bool). same_pair e f || t) (block_wins e i true es)
block_wins e i false (f ∷ es) = block_wins e i false es

pub overridden-flat : (e : Effect) (i : ℕ) (bs : List Brought) → any (wins e) (terms_from i bs) ≡ overridden bs e
overridden-flat e i [] = refl
overridden-flat e i (defining ∷ bs) = overridden-flat e (suc i) bs
overridden-flat e i (dropped ∷ bs) = overridden-flat e (suc i) bs
overridden-flat e i (stays f ∷ bs) = overridden-flat e (suc i) bs
overridden-flat e i (brings true es ∷ bs) =
    any_append (wins e) (map (term i true) es) (terms_from (suc i) bs) ∙ ap₂ ◌||◌ (block_wins e i true es) (overridden-flat e (suc i) bs)
overridden-flat e i (brings false es ∷ bs) =
    any_append (wins e) (map (term i false) es) (terms_from (suc i) bs) ∙ ap₂ ◌||◌ (block_wins e i false es) (overridden-flat e (suc i) bs)

-- what remains of the run, with a test for the pairs that have explicit ones
abbrev left : (Effect → Bool) → Term → Bool
left w t = not (not t.explicit && w t.effect)

module _ (w : Effect → Bool) where
  left-block : (i : ℕ) (x : Bool) (es : List Effect) → keep (left w) (map (term i x) es) ≡ map (term i x) (remains w (brings x es))
  left-block i true [] = refl
  left-block i true (e ∷ es) = ap (λ (l : List Term). term i true e ∷ l) (left-block i true es)
  left-block i false [] = refl
  left-block i false (e ∷ es) = by_cases (w e) (left-block i false es)
    where
      by_cases :
          (t : Bool) → keep (left w) (map (term i false) es) ≡ map (term i false) (keep (λ e. not (w e)) es)
          → cond (not t) (term i false e ∷ keep (left w) (map (term i false) es)) (keep (left w) (map (term i false) es))
          ≡ map (term i false) (cond (not t) (e ∷ keep (λ e. not (w e)) es) (keep (λ e. not (w e)) es))
      by_cases true r = r
      by_cases false r = ap (λ (l : List Term). term i false e ∷ l) r

  map-effect : (i : ℕ) (x : Bool) (es : List Effect) → map (λ (t : Term). t.effect) (map (term i x) es) ≡ es
  map-effect i x [] = refl
  map-effect i x (e ∷ es) = ap (λ (l : List Effect). e ∷ l) (map-effect i x es)

  pub remaining-flat : (i : ℕ) (bs : List Brought) → map (λ (t : Term). t.effect) (keep (left w) (terms_from i bs)) ≡ gather (remains w) bs
  remaining-flat i [] = refl
  remaining-flat i (defining ∷ bs) = remaining-flat (suc i) bs
  remaining-flat i (dropped ∷ bs) = remaining-flat (suc i) bs
  remaining-flat i (stays f ∷ bs) = remaining-flat (suc i) bs
  remaining-flat i (brings x es ∷ bs) =
      ap (map (λ (t : Term). t.effect)) (keep_append (left w) (map (term i x) es) (terms_from (suc i) bs))
      ∙ map-append (λ (t : Term). t.effect) (keep (left w) (map (term i x) es)) (keep (left w) (terms_from (suc i) bs))
      ∙ ap₂ ◌++◌
      (ap (map (λ (t : Term). t.effect)) (left-block i x es) ∙ map-effect i x (remains w (brings x es)))
      (remaining-flat (suc i) bs)

  -- The first that forces a pair which an earlier statement forces.

  -- terms of one statement do not count among each other
  abbrev forcing : List Term → Effect → Bool
  forcing seen e = any (λ u. forces_with u.effect e) seen

  before_split :
      (i : ℕ) (x : Bool) (own : List Effect) {seen : List Term} → All (λ u. u.statement < i) seen → (e : Effect)
      → forced_before (map (term i x) own ++ seen) (term i x e) ≡ forcing seen e
  before_split i x [] finished e = refl
  before_split i x [] (also {x = u} h r) e =
      ap₂ (λ (s t : Bool). s && forces_with u.effect e || t) (lt-ltb u.statement i h) (before_split i x [] r e)
  before_split i x (f ∷ own) {seen} h e =
      ap (λ (s : Bool). s && forces_with f e || forced_before (map (term i x) own ++ seen) (term i x e)) (le-ltb i i (omega arith))
      ∙ before_split i x own h e

  abbrev onto : List Effect → List Effect → List Effect
  onto [] own = own
  onto (e ∷ es) own = onto es (e ∷ own)

  any_onto : (p : Effect → Bool) (es own : List Effect) → any p (onto es own) ≡ any p es || any p own
  any_onto p [] own = refl
  any_onto p (e ∷ es) own = any_onto p es (e ∷ own) ∙ by_cases (any p es) (p e)
    where
      by_cases : (a b : Bool) → a || (b || any p own) ≡ (b || a) || any p own
      by_cases true true = refl
      by_cases true false = refl
      by_cases false true = refl
      by_cases false false = refl

  or-cond : {A : Type 0} (a b : Bool) (x y : A) → cond a x (cond b x y) ≡ cond (a || b) x y
  or-cond true b x y = refl
  or-cond false b x y = refl

  scan_block :
      (i : ℕ) (x : Bool) {seen : List Term} → All (λ u. u.statement < i) seen → (rest : List Term) (es own : List Effect)
      → forced_after (map (term i x) own ++ seen) (map (term i x) es ++ rest)
      ≡ cond (any (forcing seen) es) (some i) (forced_after (map (term i x) (onto es own) ++ seen) rest)
  scan_block i x h rest [] own = refl
  scan_block i x {seen} h rest (e ∷ es) own =
      ap₂
      (λ (t : Bool) (o : Option ℕ). cond t (some i) o)
      (before_split i x own h e)
      (scan_block i x h rest es (e ∷ own))
      ∙ or-cond (forcing seen e) (any (forcing seen) es) (some i) (forced_after (map (term i x) (onto es (e ∷ own)) ++ seen) rest)

  -- the same of statements
  abbrev forcing_in : List Brought → Effect → Bool
  forcing_in bs e = any (λ b. any (λ f. forces_with f e) (remains w b)) bs

  clash_flat : (seen : List Brought) (b : Brought) → any (λ y. both_force w y b) seen ≡ any (forcing_in seen) (remains w b)
  clash_flat seen b =
      ap
      (λ (p : Brought → Bool). any p seen)
      (fun_ext (λ y. any-any (λ f e. forces_with f e) (remains w y) (remains w b)))
      ∙ any-any (λ y e. any (λ f. forces_with f e) (remains w y)) seen (remains w b)

  abbrev later : ℕ → Option ℕ → Option ℕ
  later i none = none
  later i (some j) = some (i + j)

  later-one : (i : ℕ) (o : Option ℕ) → later (suc i) o ≡ later i (later_by_one o)
  later-one i none = refl
  later-one i (some j) = ap some (omega arith)

  later-cond : (i : ℕ) (t : Bool) (o : Option ℕ) → cond t (some i) (later (suc i) o) ≡ later i (cond t (some 0) (later_by_one o))
  later-cond i true o = ap some (omega arith)
  later-cond i false o = later-one i o

  map-forcing : (i : ℕ) (x : Bool) (es : List Effect) (e : Effect) → forcing (map (term i x) es) e ≡ any (λ f. forces_with f e) es
  map-forcing i x [] e = refl
  map-forcing i x (f ∷ es) e = ap (λ (t : Bool). forces_with f e || t) (map-forcing i x es e)

  grown :
      (i : ℕ) (x : Bool) (b : Brought) (seen : List Brought) (ts : List Term)
      → ((e : Effect) → forcing ts e ≡ forcing_in seen e)
      → (e : Effect) → forcing (map (term i x) (onto (remains w b) []) ++ ts) e ≡ forcing_in (b ∷ seen) e
  grown i x b seen ts h e =
      any_append (λ u. forces_with u.effect e) (map (term i x) (onto (remains w b) [])) ts
      ∙ ap₂ ◌||◌
      (map-forcing i x (onto (remains w b) []) e
      ∙ any_onto (λ f. forces_with f e) (remains w b) []
      ∙ by_cases (any (λ f. forces_with f e) (remains w b)))
      (h e)
    where
      by_cases : (t : Bool) → t || false ≡ t
      by_cases true = refl
      by_cases false = refl

  all_own : (i : ℕ) (x : Bool) (es : List Effect) → All (λ u. u.statement < suc i) (map (term i x) es)
  all_own i x [] = finished
  all_own i x (e ∷ es) = let h : i < suc i = omega arith in also h (all_own i x es)

  one-statement :
      (i : ℕ) (x : Bool) (b : Brought) (bs seen : List Brought) (ts rest : List Term)
      → ((e : Effect) → forcing ts e ≡ forcing_in seen e)
      → All (λ u. u.statement < i) ts
      → ((ts' : List Term) → ((e : Effect) → forcing ts' e ≡ forcing_in (b ∷ seen) e) → All (λ u. u.statement < suc i) ts'
      → forced_after ts' rest ≡ later (suc i) (again_after (both_force w) (b ∷ seen) bs))
      → forced_after ts (map (term i x) (remains w b) ++ rest) ≡ later i (again_after (both_force w) seen (b ∷ bs))
  one-statement i x b bs seen ts rest h below r =
      scan_block i x below rest (remains w b) []
      ∙ ap₂
      (λ (t : Bool) (o : Option ℕ). cond t (some i) o)
      (ap (λ (p : Effect → Bool). any p (remains w b)) (fun_ext h) ∙ sym (clash_flat seen b))
      (r
      (map (term i x) (onto (remains w b) []) ++ ts)
      (grown i x b seen ts h)
      (all_append (all_own i x (onto (remains w b) [])) (all_weaker (λ u k. omega arith) below)))
      ∙ later-cond i (any (λ y. both_force w y b) seen) (again_after (both_force w) (b ∷ seen) bs)

  pub forced_flat :
      (i : ℕ) (bs seen : List Brought) (ts : List Term)
      → ((e : Effect) → forcing ts e ≡ forcing_in seen e)
      → All (λ u. u.statement < i) ts
      → forced_after ts (keep (left w) (terms_from i bs)) ≡ later i (again_after (both_force w) seen bs)
  forced_flat i [] seen ts h below = refl
  forced_flat i (defining ∷ bs) seen ts h below =
      one-statement i true defining bs seen ts (keep (left w) (terms_from (suc i) bs)) h below
      (λ ts' k q. forced_flat (suc i) bs (defining ∷ seen) ts' k q)
  forced_flat i (dropped ∷ bs) seen ts h below =
      one-statement i true dropped bs seen ts (keep (left w) (terms_from (suc i) bs)) h below
      (λ ts' k q. forced_flat (suc i) bs (dropped ∷ seen) ts' k q)
  forced_flat i (stays f ∷ bs) seen ts h below =
      one-statement i true (stays f) bs seen ts (keep (left w) (terms_from (suc i) bs)) h below
      (λ ts' k q. forced_flat (suc i) bs (stays f ∷ seen) ts' k q)
  forced_flat i (brings x es ∷ bs) seen ts h below =
      ap
      (forced_after ts)
      (keep_append (left w) (map (term i x) es) (terms_from (suc i) bs)
      ∙ ap (λ (l : List Term). l ++ keep (left w) (terms_from (suc i) bs)) (left-block i x es))
      ∙ one-statement i x (brings x es) bs seen ts (keep (left w) (terms_from (suc i) bs)) h below
      (λ ts' k q. forced_flat (suc i) bs (brings x es ∷ seen) ts' k q)

-- The run from the first statement on.
same_left : (bs : List Brought) → (λ t. not (overridden_among (terms_from 0 bs) t)) ≡ left (overridden bs)
same_left bs = fun_ext (λ t. ap (λ (s : Bool). not (not t.explicit && s)) (overridden-flat t.effect 0 bs))

later-zero : (o : Option ℕ) → later (λ e. true) 0 o ≡ o
later-zero none = refl
later-zero (some i) = ap some (omega arith)

module _ (bs : List Brought) where
  pub remaining-run : map (λ (t : Term). t.effect) (keep (λ t. not (overridden_among (terms_from 0 bs) t)) (terms_from 0 bs)) ≡ remaining bs
  remaining-run =
      ap (λ (p : Term → Bool). map (λ (t : Term). t.effect) (keep p (terms_from 0 bs))) (same_left bs) ∙ remaining-flat (overridden bs) 0 bs

  pub forced_run : forced_after [] (keep (λ t. not (overridden_among (terms_from 0 bs) t)) (terms_from 0 bs)) ≡ forced_again bs
  forced_run =
      ap (λ (p : Term → Bool). forced_after [] (keep p (terms_from 0 bs))) (same_left bs)
      ∙ forced_flat (overridden bs) 0 bs [] [] (λ e. refl) finished
      ∙ later-zero (forced_again bs)

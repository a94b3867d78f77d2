-- With buffers of full size nothing is too short: Resolve answers what the definition does.
-- Assumes nothing.
use Prim.Native.Nat.{ℕ, suc, ◌+◌, ◌≤◌}
use native.Mathlib.Omega.{arith}
use mathlib.Core.Path.{◌≡◌, refl, ◌∙◌, ap, sym}
use mathlib.Core.Bool.{Bool, true, false, cond, ◌||◌}
use mathlib.Core.List.{List, [], ◌∷◌, ◌++◌}
use borrow.Author.Tests.{le-ltb}
use lib.Dec.{eqb, ltb}
use lib.ListN.{length, length-append}
use Rattle.reading.specs.Statement.{Statement}
use Rattle.reading.specs.Answer.{Answer, accepted, refused, ◌>>=◌}
use Rattle.reading.specs.Read.{read_text}
use Rattle.canonical_laws.proofs.Rereading.{few-statements}
use Rattle.text.specs.Lists.{any}
use Rattle.resolving.specs.Effects.{Effect}
use Rattle.resolving.specs.Brought.{Brought, defining, dropped, stays, brings, at_index, each_from}
use Rattle.resolving.specs.Merging.{merged}
use Rattle.resolving.specs.Resolve.{Note, Resolved, ground_text, dropped_from, additive, outcome, resolve}
use Rattle.resolving.specs.Given.{Given, is_context, context_in, resolve_text}
use Rattle.resolving.specs.Call.{exceeds, lengths_in, room_for}
use Rattle.reading.proofs.Answers.{not-refused}
use Rattle.resolving_laws.proofs.Settling.{resolved_as}
use Rattle.resolving_laws.proofs.MergedLaws.{merged_shorter}
use Rattle.claims.specs.Claims.{full_size}

-- as many answers as there are statements
pub each-many : {A B : Type 0} (f : A → Answer B) (i : ℕ) (xs : List A) (ys : List B) → each_from f i xs ≡ accepted ys → length ys ≡ length xs
each-many f i [] ys e = let z : ys ≡ [] = cc in ap length z
each-many {A} {B} f i (x ∷ xs) ys e = by_first (f x) (each_from f (suc i) xs) refl e (each-many f (suc i) xs)
  where
    by_first : (a : Answer B) (r : Answer (List B)) → each_from f (suc i) xs ≡ r
        → (at_index i a >>= (λ y. r >>= (λ zs. accepted (y ∷ zs)))) ≡ accepted ys
        → ((zs : List B) → each_from f (suc i) xs ≡ accepted zs → length zs ≡ length xs)
        → length ys ≡ suc (length xs)
    by_first (accepted b) (accepted zs) q h k = let z : ys ≡ b ∷ zs = cc in ap length z ∙ ap suc (k zs q)
    by_first (accepted b) (refused n p) q h k = absurd (not-refused h)
    by_first (refused n p) r q h k = absurd (not-refused h)

dropped-few : (i : ℕ) (bs : List Brought) → length (dropped_from i bs) ≤ length bs
dropped-few i [] = omega arith
dropped-few i (defining ∷ bs) = omega (arith, dropped-few (suc i) bs)
dropped-few i (dropped ∷ bs) = omega (arith, dropped-few (suc i) bs)
dropped-few i (stays f ∷ bs) = omega (arith, dropped-few (suc i) bs)
dropped-few i (brings x es ∷ bs) = omega (arith, dropped-few (suc i) bs)

additive-one : (es : List Effect) → length (additive es) ≤ 1
additive-one es = by_test (any (λ e. eqb e.operator 1) es)
  where
    by_test : (t : Bool) → length {A = Note} (cond t (record { reason = 1; index = 0 } ∷ []) []) ≤ 1
    by_test true = omega arith
    by_test false = omega arith

pub resolved_fits : (limit : ℕ) (g : Given) (text : List ℕ) (r : Resolved) → resolve_text limit g text ≡ accepted r → exceeds full_size (lengths_in r) ≡ false
unfolding resolve_text merged
resolved_fits limit g text r e = by_cases (read_text limit text) (is_context g) refl e
  where
    by_cases : (a : Answer (List Statement)) (t : Bool) → read_text limit text ≡ a
        → (a >>= (λ ss. cond t (resolve (context_in g) ss) (refused 12 0))) ≡ accepted r
        → exceeds full_size (lengths_in r) ≡ false
    by_cases (refused n p) t h k = absurd (not-refused k)
    by_cases (accepted ss) false h k = absurd (not-refused k)
    by_cases (accepted ss) true h k =
        let c = context_in g in
        let a = resolved_as c ss r k in
        let bs = a.brought in
        let q = a.settled.equals in
        let s = a.settled.held in
        let many : length bs ≡ length ss = each-many _ 0 ss bs a.each in
        let few = few-statements limit text ss h in
        let notes : length r.notes ≤ 257 =
        omega (
          arith,
          ap (λ (x : Resolved). length x.notes) q,
          length-append (dropped_from 0 bs) (additive (merged bs)),
          dropped-few 0 bs,
          additive-one (merged bs),
          many,
          few,
        ) in
        let effects : length r.effects ≤ 2048 = omega (arith, ap (λ (x : Resolved). length x.effects) q, merged_shorter bs, s.few) in
        let ground : length (ground_text r) ≤ 16384 = omega (arith, ap (λ (x : Resolved). length (ground_text x)) q, s.size) in
        rw (le-ltb 16384 (length (ground_text r)) ground, le-ltb 2048 (length r.effects) effects, le-ltb 257 (length r.notes) notes) refl

-- Where Resolve refuses: the place of a text's fault lies in it or right behind it, and a statement's index is below 256. So no place is above
-- 16,384.
-- Assumes nothing.
use Prim.Native.Nat.{ℕ, suc, ◌+◌, ◌≤◌, ◌<◌}
use native.Mathlib.Omega.{arith}
use mathlib.Core.Path.{◌≡◌, refl, ap, sym, ◌∙◌}
use mathlib.Core.Bool.{Bool, true, false, cond}
use mathlib.Core.List.{List, [], ◌∷◌}
use mathlib.Core.Option.{Option, some, none}
use borrow.Author.Tests.{ltb-false}
use lib.Dec.{ltb}
use lib.ListN.{length, length-map}
use Rattle.text.specs.Lists.{later_by_one, any, gather, again_after, again}
use Rattle.tokens.specs.Lex.{tokens}
use Rattle.tokens.specs.Next.{scanned}
use Rattle.reading.specs.Statement.{Statement}
use Rattle.reading.specs.Answer.{Answer, accepted, refused, too_high, too_long, ◌>>=◌}
use Rattle.reading.specs.Read.{read_scanned, read_text}
use Rattle.reading_laws.proofs.Within.{refused-within}
use Rattle.canonical_laws.proofs.Rereading.{few-statements}
use Rattle.resolving.specs.Context.{Context}
use Rattle.resolving.specs.Symbols.{defines, lets, same_key, look_up}
use Rattle.resolving.specs.Brought.{Brought, bring, at_index, each_from}
use Rattle.resolving.specs.Merging.{effects_in, overridden, both_force, forced_again}
use Rattle.resolving.specs.Resolve.{Resolved, ground_text, outcome, at_most_once, up_to, merge_and_ground, resolve}
use Rattle.resolving.specs.Given.{Given, is_context, context_in, resolve_text}
use Rattle.claims.proofs.FullSize.{each-many}

-- an answer that, where it refuses, does so at most there
pub data AtMost {A : Type 0} (m : ℕ) : Answer A → Type 0 where
  given : {x : A} → AtMost m (accepted x)
  there : {k p : ℕ} → p ≤ m → AtMost m (refused k p)

pub at_most : {A : Type 0} {m k p : ℕ} {a : Answer A} → AtMost m a → a ≡ refused k p → p ≤ m
at_most (given) e = let z : ◌≡◌ {A = ℕ} 0 1 = cc in absurd (omega arith)
at_most {p} (there {p = q} h) e = let z : q ≡ p = cc in omega arith

module _ {A : Type 0} (m : ℕ) where
  once-within : (n : ℕ) (o : Option ℕ) (a : Answer A) → ((i : ℕ) → o ≡ some i → i ≤ m) → AtMost m a → AtMost m (at_most_once n o a)
  once-within n none a h k = k
  once-within n (some i) a h k = there (h i refl)

  up_to-within : (limit n : ℕ) (a : Answer A) → AtMost m a → AtMost m (up_to limit n a)
  up_to-within limit n a k = by_test (ltb limit n)
    where
      by_test : (t : Bool) → AtMost m (cond t (refused 18 0) a)
      by_test true = there {p = 0} (omega arith)
      by_test false = k

-- one that clashes with an earlier one is one of the list
again-within : {A : Type 0} (clash : A → A → Bool) (seen xs : List A) (i : ℕ) → again_after clash seen xs ≡ some i → i < length xs
again-within clash seen [] i e = let z : ◌≡◌ {A = ℕ} 0 1 = cc in absurd (omega arith)
again-within clash seen (x ∷ xs) i e =
    by_cases (any (λ y. clash y x) seen) (again_after clash (x ∷ seen) xs) refl e (again-within clash (x ∷ seen) xs)
  where
    by_cases : (t : Bool) (o : Option ℕ) → again_after clash (x ∷ seen) xs ≡ o
        → cond t (some 0) (later_by_one o) ≡ some i
        → ((j : ℕ) → again_after clash (x ∷ seen) xs ≡ some j → j < length xs)
        → i < suc (length xs)
    by_cases true o q h k = let z : ◌≡◌ {A = ℕ} 0 i = cc in omega arith
    by_cases false none q h k = let z : ◌≡◌ {A = ℕ} 0 1 = cc in absurd (omega arith)
    by_cases false (some j) q h k = let z : ◌≡◌ {A = ℕ} (suc j) i = cc in omega (arith, k j q)

-- what is refused of a list is so at the index of one of it
each_within : {A B : Type 0} (f : A → Answer B) (i : ℕ) (xs : List A) (k p : ℕ) → each_from f i xs ≡ refused k p → p < i + length xs
each_within f i [] k p e = let z : ◌≡◌ {A = ℕ} 0 1 = cc in absurd (omega arith)
each_within {A} {B} f i (x ∷ xs) k p e = by_first (f x) (each_from f (suc i) xs) refl e (each_within f (suc i) xs k p)
  where
    by_first : (a : Answer B) (r : Answer (List B)) → each_from f (suc i) xs ≡ r
        → (at_index i a >>= (λ y. r >>= (λ zs. accepted (y ∷ zs)))) ≡ refused k p
        → (each_from f (suc i) xs ≡ refused k p → p < suc i + length xs)
        → p < i + suc (length xs)
    by_first (refused n q) r h g w = let z : i ≡ p = cc in omega arith
    by_first (accepted b) (accepted zs) h g w = let z : ◌≡◌ {A = ℕ} 0 1 = cc in absurd (omega arith)
    by_first (accepted b) (refused n q) h g w = omega (arith, w (h ∙ g))

merging_within : (c : Context) (bs : List Brought) → length bs ≤ 256 → AtMost 16384 (merge_and_ground c bs)
unfolding merge_and_ground
merging_within c bs few =
    up_to-within 16384 2048 (length (gather effects_in bs)) _
    (once-within 16384 17 (forced_again bs) _ (λ i e. omega (arith, again-within (both_force (overridden bs)) [] bs i e))
    (up_to-within 16384 256 (length (outcome c bs).statements) _
    (up_to-within 16384 16384 (length (ground_text (outcome c bs))) _ (given {x = outcome c bs}))))

resolve-within : (c : Context) (ss : List Statement) → length ss ≤ 256 → AtMost 16384 (resolve c ss)
unfolding resolve
resolve-within c ss few =
    once-within 16384 13 (again same_key (lets ss)) _ (λ i e. omega (arith, again-within same_key [] (lets ss) i e, length-map ss defines))
    (by-each (each_from (bring c (look_up c (lets ss))) 0 ss) refl)
  where
    by-each : (a : Answer (List Brought)) → each_from (bring c (look_up c (lets ss))) 0 ss ≡ a → AtMost 16384 (a >>= merge_and_ground c)
    by-each (accepted bs) e = merging_within c bs (omega (arith, each-many _ 0 ss bs e))
    by-each (refused k p) e = there {p = p} (omega (arith, each_within _ 0 ss k p e))

pub reading_within : (limit : ℕ) (s : List ℕ) (k p : ℕ) → read_text limit s ≡ refused k p → p ≤ 16384
unfolding read_text
reading_within limit s k p e = by_tests (ltb 256 limit) (ltb 16384 (length s)) refl e
  where
    by_tests : (c t : Bool) → ltb 16384 (length s) ≡ t
        → cond c too_high (cond t too_long (read_scanned limit (length s) (tokens s) (scanned (tokens s)))) ≡ refused k p → p ≤ 16384
    by_tests true t h q = let z : ◌≡◌ {A = ℕ} 0 p = cc in omega arith
    by_tests false true h q = let z : ◌≡◌ {A = ℕ} 0 p = cc in omega arith
    by_tests false false h q = omega (arith, ltb-false 16384 (length s) h, refused-within limit s k p e)

pub resolved_within : (limit : ℕ) (g : Given) (text : List ℕ) → AtMost 16384 (resolve_text limit g text)
unfolding resolve_text
resolved_within limit g text = by_cases (read_text limit text) (is_context g) refl
  where
    by_cases : (a : Answer (List Statement)) (t : Bool) → read_text limit text ≡ a
        → AtMost {A = Resolved} 16384 (a >>= (λ ss. cond t (resolve (context_in g) ss) (refused 12 0)))
    by_cases (refused k p) t h = there (reading_within limit text k p h)
    by_cases (accepted ss) false h = there {p = 0} (omega arith)
    by_cases (accepted ss) true h = resolve-within (context_in g) ss (few-statements limit text ss h)

-- Document 01, Holding the calls to their word, 3: for all texts A and B that Count accepts, whose joined text has at most 16,384 bytes and
-- 256 statements, Count of A, newline, B is the sum; Statement gives A's values, then B's with the offsets of their names and symbols raised
-- by A's length and one. Document 02, P1: "joined .. files share one ceiling". The contracts of `read_text::count_under` and
-- `read_values::value_under` say that their answers are `counting limit` and `stating limit` of every text, so this is claimed of the calls.
-- Assumes nothing.
use mathlib.Core.Path.{◌≡◌, refl, ◌∙◌, ap, sym}
use mathlib.Core.List.{List, [], ◌∷◌, ◌++◌, map}
use Prim.Native.Nat.{ℕ, zero, suc, ◌+◌, ◌≤◌, ◌<◌}
use native.Mathlib.Nat.{zero-add, suc-add, le_of_suc-le-suc, not-suc-le-zero}
use native.Mathlib.Omega.{arith}
use lib.ListN.{length, get_elem?, length-append, length-map}
use Rattle.reading.specs.Statement.{Statement}
use Rattle.reading.specs.Answer.{Answer, accepted}
use Rattle.reading.specs.Read.{read_text}
use Rattle.reading_laws.specs.Raised.{raise_statement}
use Rattle.reading_laws.proofs.Joining.{reading_joins}
use Rattle.reading.specs.Calls.{counted, chosen, nth_of, counting}
use Rattle.reading_laws.proofs.Calls.{counted-accepted}
use Rattle.read_values.specs.Calls.{raised, Joined}

-- a text with so many statements
how_many : (n : ℕ) (a : Answer (List Statement)) (ss : List Statement) → counted 0 a ≡ accepted n → a ≡ accepted ss → length ss ≡ n
how_many n a ss e f = sym (zero-add (length ss)) ∙ cc (ap (counted 0) f)

-- an index into two lists, one after the other
in_first : {A : Type 0} (xs ys : List A) (i : ℕ) → i < length xs → get_elem? (xs ++ ys) i ≡ get_elem? xs i
in_first [] ys i h = absurd (not-suc-le-zero h)
in_first (x ∷ xs) ys zero h = refl
in_first (x ∷ xs) ys (suc i) h = in_first xs ys i (le_of_suc-le-suc h)

in_second : {A : Type 0} (xs ys : List A) (i : ℕ) → get_elem? (xs ++ ys) (length xs + i) ≡ get_elem? ys i
in_second [] ys i = ap (get_elem? ys) (zero-add i)
in_second (x ∷ xs) ys i = ap (get_elem? (x ∷ xs ++ ys)) (suc-add (length xs) i) ∙ in_second xs ys i

-- a statement that there is, raised; what a refusal would tell does not matter
chosen-raised :
    (d i j k : ℕ) (ts : List Statement)
    → i < length ts
    → chosen k (get_elem? (map (raise_statement d) ts) i) ≡ raised d (chosen j (get_elem? ts i))
chosen-raised d i j k [] h = absurd (not-suc-le-zero h)
chosen-raised d zero j k (t ∷ ts) h = refl
chosen-raised d (suc i) j k (t ∷ ts) h = chosen-raised d i j k ts (le_of_suc-le-suc h)

pub joined :
    (limit : ℕ) (a b : List ℕ) (n m : ℕ)
    → counting limit a ≡ accepted n
    → counting limit b ≡ accepted m
    → length (a ++ 10 ∷ b) ≤ 16384
    → n + m ≤ 256
    → Joined limit a b n m
joined limit a b n m e f h g =
    let d = length a + 1 in
    let x = counted-accepted 0 n (read_text limit a) e in
    let y = counted-accepted 0 m (read_text limit b) f in
    let ss = x.0 in
    let ts = map (raise_statement d) y.0 in
    let k : length ss ≡ n = how_many n (read_text limit a) ss e x.1 in
    let l : length y.0 ≡ m = how_many m (read_text limit b) y.0 f y.1 in
    let s : 0 + length (ss ++ ts) ≡ n + m = omega (arith, length-append ss ts, length-map y.0 (raise_statement d)) in
    let r = reading_joins limit a b ss y.0 x.1 y.1 h (omega arith) in
    record {
      count = ap (counted 0) r ∙ ap accepted s;
      first = λ i p.
          ap (nth_of i) r ∙ ap (chosen i) (in_first ss ts i (omega arith)) ∙ ap (nth_of i) (sym x.1);
      second = λ i p.
          ap (nth_of (n + i)) r
          ∙ ap (chosen (n + i)) (ap (λ (q : ℕ). get_elem? (ss ++ ts) (q + i)) (sym k) ∙ in_second ss ts i)
          ∙ chosen-raised d i i (n + i) y.0 (omega arith)
          ∙ ap (λ (q : Answer (List Statement)). raised d (nth_of i q)) (sym y.1);
    }

-- The tokens of a text made of two with a newline between, and of a text that stands further on.
-- Assumes nothing.
use mathlib.Core.Path.{◌≡◌, refl, ◌∙◌, ap, sym}
use mathlib.Core.List.{List, [], ◌∷◌, ◌++◌}
use Prim.Native.Nat.{ℕ, zero, suc, ◌+◌, ◌≤◌}
use native.Mathlib.Nat.{suc-add, zero-add, le_of_suc-le-suc}
use native.Mathlib.Numerals.{add-one}
use native.Mathlib.Omega.{arith}
use lib.ListN.{length}
use lib.Seq.{take-append-le}
use Rattle.text.specs.Bytes.{span}
use Rattle.tokens.specs.Class.{Class, newline, semicolon, mark, dot, blank, hash, other, hyphen, digit, letter, class_of}
use Rattle.tokens.specs.Token.{Tokens, ◌▸◌, separator}
use Rattle.tokens.specs.Lex.{Front, skip, taken, wrong, in_word, in_comment, number_rest, dots, front_of, follow, tokens_after, tokens_at, tokens}
use Rattle.tokens.proofs.Runs.{span-most}
use Rattle.tokens.proofs.Numbers.{number-most}
use Rattle.tokens.proofs.Steps.{token}
use Rattle.token_laws.specs.Join.{append, raise}
use Rattle.token_laws.proofs.Fronts.{span-append, number_append, reach, front_within}

-- before a newline, what stands at a byte is what stands there at a text's end
dots_join : (l b : List ℕ) → dots (l ++ 10 ∷ b) ≡ dots l
unfolding dots class_of
dots_join [] b = refl
dots_join (x ∷ xs) b = refl

front_join : (c : Class) (x : ℕ) (l b : List ℕ) → front_of c x (l ++ 10 ∷ b) ≡ front_of c x l
unfolding front_of class_of
front_join newline x l b = refl
front_join semicolon x l b = refl
front_join mark x l b = refl
front_join dot x l b = dots_join l b
front_join blank x l b = refl
front_join hash x l b = ap skip (span-append in_comment l (10 ∷ b) refl)
front_join other x l b = refl
front_join hyphen x l b = refl
front_join digit x l b = simp (number_append l (10 ∷ b) refl, take-append-le (number_rest l) l (10 ∷ b) (number-most l))
front_join letter x l b =
    simp (span-append in_word l (10 ∷ b) refl, take-append-le (span in_word l) l (10 ∷ b) (span-most in_word l))

-- what comes after what stands at a byte is joined where it goes on from there
follow_join :
    (f : Front) (o : ℕ) (g h : ℕ → Tokens) (us : Tokens)
    → g (reach f) ≡ append (h (reach f)) us → follow f o g ≡ append (follow f o h) us
unfolding follow
follow_join (skip k) o g h us e = e
follow_join (taken s k) o g h us e = ap (λ (ts : Tokens). token o s ▸ ts) e
follow_join wrong o g h us e = refl

-- a newline's separator at an offset, and the tokens of the text after it
abbrev newline_at : ℕ → List ℕ → Tokens
newline_at n b = token n separator ▸ tokens_at (n + 1) b

newline-first : (o : ℕ) (b : List ℕ) → tokens_at o (10 ∷ b) ≡ newline_at o b
unfolding tokens_after front_of follow class_of
newline-first o b = ap (λ (m : ℕ). token o separator ▸ tokens_at m b) (sym (add-one o))

join_after :
    (k o n : ℕ) (a b : List ℕ)
    → k ≤ length a
    → o + length a ≡ n
    → tokens_after k o (a ++ 10 ∷ b) ≡ append (tokens_after k o a) (newline_at n b)
unfolding tokens_after
join_after zero o n [] b h e =
    let p : o ≡ n = omega arith in newline-first o b ∙ ap (λ (m : ℕ). newline_at m b) p
join_after (suc k) o n [] b h e = absurd (omega arith)
join_after zero o n (x ∷ xs) b h e =
    ap (λ (f : Front). follow f o (λ k. tokens_after k (suc o) (xs ++ 10 ∷ b))) (front_join (class_of x) x xs b)
    ∙ follow_join (front_of (class_of x) x xs) o (λ k. tokens_after k (suc o) (xs ++ 10 ∷ b)) (λ k. tokens_after k (suc o) xs) (newline_at n b)
    (join_after (reach (front_of (class_of x) x xs)) (suc o) n xs b (front_within (class_of x) x xs) (omega arith))
join_after (suc k) o n (x ∷ xs) b h e = join_after k (suc o) n xs b (le_of_suc-le-suc h) (omega arith)

-- what comes after what stands at a byte is as much later where it goes on so from there
follow-raise :
    (f : Front) (o d : ℕ) (g h : ℕ → Tokens)
    → g (reach f) ≡ raise d (h (reach f)) → follow f (o + d) g ≡ raise d (follow f o h)
unfolding follow
follow-raise (skip k) o d g h e = e
follow-raise (taken s k) o d g h e = ap (λ (ts : Tokens). token (o + d) s ▸ ts) e
follow-raise wrong o d g h e = refl

raise_after : (j k o : ℕ) (s : List ℕ) → tokens_after j (o + k) s ≡ raise k (tokens_after j o s)
unfolding tokens_after
raise_after j k o [] = refl
raise_after zero k o (b ∷ bs) =
    follow-raise (front_of (class_of b) b bs) o k (λ j. tokens_after j (suc (o + k)) bs) (λ j. tokens_after j (suc o) bs)
    (ap (λ (m : ℕ). tokens_after (reach (front_of (class_of b) b bs)) m bs) (sym (suc-add o k))
    ∙ raise_after (reach (front_of (class_of b) b bs)) k (suc o) bs
    )
raise_after (suc j) k o (b ∷ bs) =
    ap (λ (m : ℕ). tokens_after j m bs) (sym (suc-add o k)) ∙ raise_after j k (suc o) bs

-- A text that stands further on has the same tokens, each as much later.
pub tokens-raise : (k o : ℕ) (s : List ℕ) → tokens_at (o + k) s ≡ raise k (tokens_at o s)
tokens-raise k o s = raise_after 0 k o s

-- A text's tokens at an offset are those of the text alone, each as many bytes later.
pub tokens_from : (k : ℕ) (s : List ℕ) → tokens_at k s ≡ raise k (tokens s)
tokens_from k s = ap (λ (m : ℕ). tokens_at m s) (sym (zero-add k)) ∙ tokens-raise k 0 s

-- The tokens of two texts with a newline between: the first's, a separator, and the second's, later by the first's length and the newline. A
-- byte of the first that starts none ends both.
pub tokens-newline :
    (a b : List ℕ)
    → tokens (a ++ 10 ∷ b)
    ≡ append (tokens a) (record { place = length a; shape = separator } ▸ raise (length a + 1) (tokens b))
tokens-newline a b =
    join_after 0 0 (length a) a b (omega arith) (zero-add (length a))
    ∙ ap (λ (ts : Tokens). append (tokens a) (token (length a) separator ▸ ts)) (tokens_from (length a + 1) b)

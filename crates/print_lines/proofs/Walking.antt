-- Where statements stand, token by token: what each token does to the stretches that are left.
-- Assumes nothing.
use mathlib.Core.Path.{◌≡◌, refl, ◌∙◌, ap, sym}
use mathlib.Core.List.{List, [], ◌∷◌}
use Prim.Native.Nat.{ℕ, suc, ◌+◌, ◌≤◌}
use native.Mathlib.Omega.{arith}
use borrow.Author.Tests.{ne_eqb, eq-eqb}
use lib.ListN.{get_or}
use Rattle.tokens.specs.Token.{mark}
use Rattle.tokens.specs.declared.Token.{Token}
use Rattle.tokens.proofs.Steps.{token, at_end}
use Rattle.tokens.proofs.Views.{Reads, Known, a_word, a_number, a_mark, a_stray, the_end}
use Rattle.lines.specs.Stretches as lines
use Rattle.lines.specs.Stretches.{stretch, before, within, stretches_from, stretches_of, stretch_at, word_in, word_at, part}
use Rattle.print_lines.specs.Given.{stretches_before, stretches_in, ended_by}

-- a separator between statements
pub separator-passed : {s : List ℕ} {o a n : ℕ} → Reads s o (token a (mark 59)) n → stretches_before s o ≡ stretches_before s n
unfolding stretches_before stretches_from
separator-passed r = ap (stretches_from before) r.tokens

module _ {s : List ℕ} {o : ℕ} {t : Token} where
  -- any other token starts a statement, and at what is none there are no statements left
  pub statement-starts : Known s o t → (t.kind ≡ 59 → ⊥) → stretches_before s o ≡ stretches_in s t.start t.next.at
  unfolding stretches_before stretches_in stretches_from
  statement-starts (a_word e r) n = ap (stretches_from before) r.tokens
  statement-starts (a_number e r) n = ap (stretches_from before) r.tokens
  statement-starts (a_mark h r) n = ap (stretches_from before) r.tokens ∙ simp (ne_eqb t.kind 59 n)
  statement-starts (a_stray e r q) n = ap (stretches_from before) r ∙ sym (ap (stretches_from (within t.start)) q)
  statement-starts (the_end e r l q) n =
      ap (stretches_from before) r ∙ sym (ap (stretches_from (within t.start)) (at_end s t.next.at (omega arith)))

  -- a token in a statement that does not end it
  pub statement-goes_on : Known s o t → (t.kind ≡ 41 → ⊥) → (t.kind ≡ 2 → ⊥) → (t.kind ≡ 3 → ⊥)
      → (a : ℕ) → stretches_in s a o ≡ stretches_in s a t.next.at
  unfolding stretches_in stretches_from
  statement-goes_on (a_word e r) n b f a = ap (stretches_from (within a)) r.tokens
  statement-goes_on (a_number e r) n b f a = ap (stretches_from (within a)) r.tokens
  statement-goes_on (a_mark h r) n b f a = ap (stretches_from (within a)) r.tokens ∙ simp (ne_eqb t.kind 41 n)
  statement-goes_on (a_stray e r q) n b f a = absurd (b e)
  statement-goes_on (the_end e r l q) n b f a = absurd (f e)

  -- its `)`
  pub statement_ends : Known s o t → t.kind ≡ 41 → (a : ℕ) → stretches_in s a o ≡ ended_by s a t
  unfolding stretches_in stretches_before ended_by stretches_from
  statement_ends (a_word e r) k a = absurd (omega arith)
  statement_ends (a_number e r) k a = absurd (omega arith)
  statement_ends (a_mark h r) k a = ap (stretches_from (within a)) r.tokens ∙ simp k
  statement_ends (a_stray e r q) k a = absurd (omega arith)
  statement_ends (the_end e r l q) k a = absurd (omega arith)

  -- the text's end, or a byte that starts no token
  pub text_ends : Known s o t → t.kind ≤ 3 → 2 ≤ t.kind → (a : ℕ) → stretches_in s a o ≡ ended_by s a t
  unfolding stretches_in ended_by stretches_from
  text_ends (a_word e r) h l a = absurd (omega arith)
  text_ends (a_number e r) h l a = absurd (omega arith)
  text_ends (a_mark m r) h l a = absurd (omega arith)
  text_ends (a_stray e r q) h l a = ap (stretches_from (within a)) r ∙ simp e
  text_ends (the_end e r k q) h l a = ap (stretches_from (within a)) r ∙ simp e

  -- the word at an offset
  pub word-there : Known s o t → t.kind ≡ 0 → word_at s o ≡ part s t.start t.next.at
  unfolding word_at part
  word-there (a_word e r) k = ap word_in r.tokens
  word-there (a_number e r) k = absurd (omega arith)
  word-there (a_mark h r) k = absurd (omega arith)
  word-there (a_stray e r q) k = absurd (omega arith)
  word-there (the_end e r l q) k = absurd (omega arith)

  pub no_word-there : Known s o t → (t.kind ≡ 0 → ⊥) → word_at s o ≡ []
  unfolding word_at
  no_word-there (a_word e r) k = absurd (k e)
  no_word-there (a_number e r) k = ap word_in r.tokens
  no_word-there (a_mark h r) k = ap word_in r.tokens
  no_word-there (a_stray e r q) k = ap word_in r
  no_word-there (the_end e r l q) k = ap word_in r

-- the statement at an index, where the first of those that are left is in reading
module _ (s : List ℕ) (a : ℕ) (t : Token) where
  no_more : (t.kind ≡ 41 → ⊥) → ended_by s a t ≡ []
  unfolding ended_by
  no_more n = rw (ne_eqb t.kind 41 n)

  one_more : t.kind ≡ 41 → ended_by s a t ≡ stretch a (t.start + 1) ∷ stretches_before s t.next.at
  unfolding ended_by
  one_more k = rw (eq-eqb t.kind 41 k)

  module _ (xs : List lines.Stretch) (e : xs ≡ ended_by s a t) where
    pub none_left : (i : ℕ) → (t.kind ≡ 41 → ⊥) → get_or xs i (stretch 0 0) ≡ stretch 0 0
    none_left i n = let q : xs ≡ [] = e ∙ no_more n in rw q

    pub this_one : t.kind ≡ 41 → get_or xs 0 (stretch 0 0) ≡ stretch a (t.start + 1)
    this_one k = let q : xs ≡ stretch a (t.start + 1) ∷ stretches_before s t.next.at = e ∙ one_more k in rw q

    pub a-later-one : t.kind ≡ 41 → (i : ℕ) → get_or xs (suc i) (stretch 0 0) ≡ get_or (stretches_before s t.next.at) i (stretch 0 0)
    a-later-one k i = let q : xs ≡ stretch a (t.start + 1) ∷ stretches_before s t.next.at = e ∙ one_more k in rw q

pub all_of_them : (s : List ℕ) (i : ℕ) → get_or (stretches_before s 0) i (stretch 0 0) ≡ stretch_at s i
unfolding stretches_before stretch_at stretches_of
all_of_them s i = refl

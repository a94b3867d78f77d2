-- What the lexer answers at an offset where a token stands, for each class of its first byte.
-- Assumes nothing.
use mathlib.Core.Path.{◌≡◌, ◌∙◌, ap, sym, fun_ext}
use mathlib.Core.Bool.{Bool}
use mathlib.Core.List.{List, ◌∷◌}
use Prim.Native.Nat.{ℕ, ◌+◌, ◌<◌, ◌≤◌}
use native.Mathlib.Omega.{arith}
use lib.ListN.{length, take, drop}
use lib.Seq.{length-take-le}
use Rattle.text.specs.Bytes.{span}
use Rattle.tokens.specs.declared.Lexed.TheVariants.{Word, Number, Mark, Bad, End}
use Rattle.tokens.specs.Class.{class_number, class_between}
use Rattle.tokens.specs.Lex.{in_word, number_rest}
use Rattle.tokens.specs.Next.{cursor, first, lexed_as}
use Rattle.tokens.proofs.Classes.{class_by_number, mark_no_point, word-run}
use Rattle.tokens.proofs.Runs.{span-most}
use Rattle.tokens.proofs.Numbers.{number-most}
use Rattle.tokens.proofs.Steps.{from, byte, at_end, at_separator, at_mark, at_number, at_word, at_none}

pub first-end : (s : List ℕ) (i : ℕ) → length s ≤ i → End ≡ first (from s i)
unfolding first
first-end s i h = sym (ap first (at_end s i h))

-- a token's first byte and as many more as there are in the rest reach that far
reach : (b k i : ℕ) (rest : List ℕ) → k ≤ length rest → i + 1 + k ≡ i + length (b ∷ take k rest)
reach b k i rest h = let e : length (take k rest) ≡ k = length-take-le k rest h in omega arith

module _ (s : List ℕ) (i : ℕ) (h : i < length s) where
  pub first-separator : class_number (byte s i) ≤ 1 → Mark 59 i (cursor (i + 1)) ≡ first (from s i)
  unfolding first lexed_as
  first-separator l = sym (ap first (at_separator s i h l))

  pub first-mark : class_number (byte s i) ≡ 2 → Mark (byte s i) i (cursor (i + 1)) ≡ first (from s i)
  unfolding first lexed_as
  first-mark e =
      sym (ap first (at_mark s i h e) ∙ simp (mark_no_point (byte s i) (class_by_number (byte s i) 2 e)))

  pub first_number : (n : ℕ) → n ≡ i + 1 + number_rest (drop (i + 1) s) → class_number (byte s i) ≡ 8 → Number i (cursor n) ≡ first (from s i)
  unfolding first lexed_as
  first_number n r e =
      ap (λ (m : ℕ). Number i (cursor m))
      (r ∙ reach (byte s i) (number_rest (drop (i + 1) s)) i (drop (i + 1) s) (number-most (drop (i + 1) s)))
      ∙ sym (ap first (at_number s i h e))

  pub first_word :
      (n : ℕ) → n ≡ i + 1 + span (class_between 7 9) (drop (i + 1) s) → class_number (byte s i) ≡ 9 → Word i (cursor n) ≡ first (from s i)
  unfolding first lexed_as
  first_word n r e =
      ap (λ (m : ℕ). Word i (cursor m))
      (r
      ∙ ap (λ (p : ℕ → Bool). i + 1 + span p (drop (i + 1) s)) (fun_ext word-run)
      ∙ reach (byte s i) (span in_word (drop (i + 1) s)) i (drop (i + 1) s) (span-most in_word (drop (i + 1) s))
      )
      ∙ sym (ap first (at_word s i h e))

  pub first-bad : 6 ≤ class_number (byte s i) → class_number (byte s i) ≤ 7 → Bad i ≡ first (from s i)
  unfolding first
  first-bad l m = sym (ap first (at_none s i h l m))

-- What the definition of tokens says at an offset of a text, for each class of the byte that stands there.
-- Assumes nothing.
use mathlib.Core.Path.{◌≡◌, refl, ◌∙◌, ap, sym, fun_ext}
use mathlib.Core.Bool.{Bool, true, false, cond}
use mathlib.Core.List.{List, [], ◌∷◌}
use Prim.Native.Nat.{ℕ, zero, suc, ◌+◌, ◌<◌, ◌≤◌}
use native.Mathlib.Nat.{add-zero, add-suc, suc-add}
use native.Mathlib.Numerals.{add-one}
use native.Mathlib.Omega.{arith}
use lib.ListN.{length, get_or, take, drop, drop_of_length-le}
use lib.Seq.{drop-cons, drop-drop}
use borrow.Author.Tests.{ne_eqb}
use Rattle.text.specs.Bytes.{span}
use Rattle.tokens.specs.Class.{Class, dot, class_of, class_number, class_between, is_a}
use Rattle.tokens.specs.Token.{Shape, Token, Tokens, finish, bad, ◌▸◌, separator, range}
use Rattle.tokens.specs.Token as shapes
use Rattle.tokens.specs.Lex.{Front, taken, wrong, in_word, number_rest, dots, front_of, follow, tokens_after, tokens_at}
use Rattle.tokens.proofs.Classes.{of_number, class_by_number, in_range, comment_run}

-- what holds of a byte that starts nothing, and of two points where there is another byte, holds of a point
pub dots_case : (P : Front → Type 0) (bs : List ℕ) → P wrong → (1 ≤ length bs → P (taken range 1)) → P (dots bs)
unfolding dots
dots_case P [] w r = w
dots_case P (d ∷ ds) w r = go (is_a dot d)
  where
    go : (t : Bool) → P (cond t (taken range 1) wrong)
    go true = r (omega arith)
    go false = w

-- the countdown of bytes to pass is a later start
pub passed_by : (k o : ℕ) (s : List ℕ) → tokens_after k o s ≡ tokens_at (o + k) (drop k s)
unfolding tokens_after
passed_by zero o s = ap (λ (n : ℕ). tokens_at n s) (sym (add-zero o))
passed_by (suc k) o [] = refl
passed_by (suc k) o (b ∷ bs) =
    passed_by k (suc o) bs ∙ ap (λ (n : ℕ). tokens_at n (drop k bs)) (suc-add o k ∙ sym (add-suc o k))

module _ (s : List ℕ) (i : ℕ) where
  -- the tokens from an offset on
  abbrev pub from : Tokens
  from = tokens_at i (drop i s)

  -- the byte at the offset, and what stands there
  abbrev pub byte : ℕ
  byte = get_or s i 0

  abbrev pub front : Front
  front = front_of (class_of byte) byte (drop (i + 1) s)

  pub at_end : length s ≤ i → from ≡ finish
  unfolding tokens_after
  at_end h = simp (drop_of_length-le s h)

pub step : (s : List ℕ) (i : ℕ) → i < length s → from s i ≡ follow (front s i) i (λ k. from s (i + 1 + k))
unfolding tokens_after
step s i h =
    simp (drop-cons s i 0 h, add-one)
    (ap (follow (front_of (class_of (get_or s i 0)) (get_or s i 0) (drop (suc i) s)) i)
    (fun_ext (λ k. passed_by k (suc i) (drop (suc i) s) ∙ ap (tokens_at (suc i + k)) (drop-drop k (suc i) s))))

-- a token of a shape at an offset
abbrev pub token : ℕ → Shape → Token
token o s = record { place = o; shape = s }

-- what comes after a byte and the bytes that are taken with it
abbrev pub after : List ℕ → ℕ → ℕ → Tokens
after s i k = from s (i + 1 + k)

-- one class after the other; the byte's class is given by its number, as the table holds it
module _ (s : List ℕ) (i : ℕ) (h : i < length s) where
  at_front : (f : Front) → front s i ≡ f → from s i ≡ follow f i (after s i)
  at_front f e = step s i h ∙ ap (λ (g : Front). follow g i (after s i)) e

  at_class : (n : ℕ) → class_number (byte s i) ≡ n → from s i ≡ follow (front_of (of_number n) (byte s i) (drop (i + 1) s)) i (after s i)
  at_class n e = at_front _ (ap (λ (c : Class). front_of c (byte s i) (drop (i + 1) s)) (class_by_number (byte s i) n e))

  pub past-blank : class_number (byte s i) ≡ 4 → from s i ≡ from s (i + 1)
  unfolding front_of follow
  past-blank e = rw (add-zero (i + 1)) at (at_class 4 e)

  pub past_comment : class_number (byte s i) ≡ 5 → from s i ≡ after s i (span (class_between 1 9) (drop (i + 1) s))
  unfolding front_of follow
  past_comment e = at_class 5 e ∙ ap (λ (p : ℕ → Bool). after s i (span p (drop (i + 1) s))) (sym (fun_ext comment_run))

  pub at_separator : class_number (byte s i) ≤ 1 → from s i ≡ token i separator ▸ from s (i + 1)
  unfolding front_of follow
  at_separator l =
      rw (add-zero (i + 1))
      at (at_front (taken separator 0)
      (in_range (λ k. front_of k (byte s i) (drop (i + 1) s)) 0 1 (taken separator 0) refl (class_of (byte s i)) (omega arith) l))

  pub at_mark : class_number (byte s i) ≡ 2 → from s i ≡ token i (shapes.mark (byte s i)) ▸ from s (i + 1)
  unfolding front_of follow
  at_mark e = rw (add-zero (i + 1)) at (at_class 2 e)

  pub at_number :
      class_number (byte s i) ≡ 8
      → from s i
      ≡ token i (shapes.number (byte s i ∷ take (number_rest (drop (i + 1) s)) (drop (i + 1) s)))
      ▸ after s i (number_rest (drop (i + 1) s))
  unfolding front_of follow
  at_number e = at_class 8 e

  pub at_word :
      class_number (byte s i) ≡ 9
      → from s i
      ≡ token i (shapes.word (byte s i ∷ take (span in_word (drop (i + 1) s)) (drop (i + 1) s)))
      ▸ after s i (span in_word (drop (i + 1) s))
  unfolding front_of follow
  at_word e = at_class 9 e

  -- a byte that starts no token
  pub at_none : 6 ≤ class_number (byte s i) → class_number (byte s i) ≤ 7 → from s i ≡ bad i
  unfolding front_of follow
  at_none l m = at_front wrong (in_range (λ k. front_of k (byte s i) (drop (i + 1) s)) 6 7 wrong refl (class_of (byte s i)) l m)

  -- a point: at the text's end, before another point, and before anything else
  pub at_point : class_number (byte s i) ≡ 3 → from s i ≡ follow (dots (drop (i + 1) s)) i (after s i)
  unfolding front_of
  at_point e = at_class 3 e

  pub at_last_point : class_number (byte s i) ≡ 3 → length s ≤ i + 1 → from s i ≡ bad i
  unfolding dots follow
  at_last_point e l = at_point e ∙ simp (drop_of_length-le s l)

  pub at_two-points :
      class_number (byte s i) ≡ 3 → i + 1 < length s → class_number (byte s (i + 1)) ≡ 3 → from s i ≡ token i range ▸ from s (i + 2)
  unfolding dots follow
  at_two-points e l d =
      at_point e
      ∙ simp (drop-cons s (i + 1) 0 l, d) (ap (λ (n : ℕ). token i range ▸ from s n) (omega arith))

  pub at_one_point :
      class_number (byte s i) ≡ 3 → i + 1 < length s → (class_number (byte s (i + 1)) ≡ 3 → ⊥) → from s i ≡ bad i
  unfolding dots follow
  at_one_point e l d = at_point e ∙ simp (drop-cons s (i + 1) 0 l, ne_eqb _ _ d)

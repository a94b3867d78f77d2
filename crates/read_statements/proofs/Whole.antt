-- How the definition of reading goes from statement to statement, in the terms of the functions that read one.
-- Assumes nothing.
use mathlib.Core.Path.{◌≡◌, refl, ◌∙◌, ap, sym}
use mathlib.Core.Bool.{Bool, true, false, cond}
use mathlib.Core.List.{List, []}
use Prim.Native.Nat.{ℕ, suc, ◌≤◌, ◌<◌}
use native.Mathlib.Omega.{arith}
use borrow.Author.Tests.{ne_eqb, le-leb, lt-leb}
use lib.Dec.{leb}
use lib.ListN.{length}
use Rattle.text.specs.Bytes.{bytes}
use Rattle.tokens.specs.declared.Token as lexer
use Rattle.tokens.specs.Token.{word, number, mark, Token, Tokens, finish, bad, ◌▸◌}
use Rattle.labels.specs.Word.{same_word}
use Rattle.reading.specs.Statement.{Statement}
use Rattle.reading.specs.Answer.{Answer, accepted, refused}
use Rattle.reading.specs.Syntax.{State, Step, more, made, stop, turn, opened}
use Rattle.reading.specs.Read.{Where, between, inside, prepend, onward, read_from}
use Rattle.reading.specs.One.{One, whole, halted, one_step, read_one}
use Rattle.read_forms.specs.declared.Refusal.{Refusal}
use Rattle.read_forms.specs.Items.{tokens_from}
use Rattle.tokens.proofs.Steps.{token, at_end}
use Rattle.tokens.proofs.Views.{Reads, Known, a_word, a_number, a_mark, a_stray, the_end}
use Rattle.std.specs.Prelude.{Option, Some, None, Result, Ok, Err}
use Rattle.read_statements.specs.declared.Next.{Next}
use Rattle.read_forms.specs.declared.Fault.TheVariants.{Unexpected, TooMany}
use Rattle.read_forms.specs.Faults.{number_of, refused_by}
use Rattle.read_statements.specs.Answers.{reading_at, one_before, NextFrom, NextFurther, crowded_by}

step_then :
    (limit size n : ℕ) (ts : Tokens) (x : Step)
    → ((s : State) → read_from limit size n (inside s) ts ≡ one_before limit size n (read_one limit size s ts))
    → onward x (λ s. read_from limit size n (inside s) ts) (read_from limit size (suc n) Where.ended ts)
    ≡ one_before limit size n (one_step x ts (λ s. read_one limit size s ts))
step_then limit size n ts (more s) later = later s
step_then limit size n ts (made s) later = refl
step_then limit size n ts (stop k p) later = refl

-- reading inside a statement is reading it to its end, and then on
pub one_then :
    (limit size n : ℕ) (s : State) (ts : Tokens) → read_from limit size n (inside s) ts ≡ one_before limit size n (read_one limit size s ts)
unfolding read_from read_one
one_then limit size n s finish = refl
one_then limit size n s (bad o) = refl
one_then limit size n s (t ▸ ts) = step_then limit size n ts (turn limit s t.place t.shape) (λ s'. one_then limit size n s' ts)

-- a statement's first word leads inside
word_then :
    (limit size n : ℕ) (ts : Tokens) (b : Bool) (x y : State) (other : Answer (List Statement))
    → onward (cond b (more x) (more y)) (λ s. read_from limit size n (inside s) ts) other
    ≡ one_before limit size n (one_step (cond b (more x) (more y)) ts (λ s. read_one limit size s ts))
word_then limit size n ts true x y other = one_then limit size n x ts
word_then limit size n ts false x y other = one_then limit size n y ts

pub first_word :
    (limit size n o : ℕ) (w : List ℕ) (ts : Tokens)
    → n < 256
    → read_from limit size n between (record { place = o; shape = word w } ▸ ts)
    ≡ one_before limit size n (one_step (opened o (word w)) ts (λ s. read_one limit size s ts))
unfolding read_from opened
first_word limit size n o w ts h = simp (lt-leb 256 n h) (word_then limit size n ts (same_word w (bytes "LET")) _ _ _)

-- a token that may not stand between statements
either : {A : Type 0} (b : Bool) (p : ℕ) → ◌≡◌ {A = Answer A} (cond b (refused 11 p) (refused 3 p)) (refused (number_of (cond b TooMany Unexpected)) p)
either true p = refl
either false p = refl

abbrev pub refused_as : Refusal → Answer (List Statement)
refused_as r = refused_by r

module _ (limit : ℕ) (s : List ℕ) (n o : ℕ) (t : lexer.Token) where
  pub between_crowded :
      Known s o t → (t.kind ≡ 59 → ⊥) → (t.kind ≡ 3 → ⊥) → (t.kind ≡ 0 → 256 ≤ n) → reading_at limit s n between o ≡ refused_as (crowded_by t n)
  unfolding read_from opened
  between_crowded (a_word e r) d f g =
      ap (read_from limit (length s) n between) r.tokens ∙ (simp (e, le-leb 256 n (g e)))
  between_crowded (a_number e r) d f g =
      ap (read_from limit (length s) n between) r.tokens ∙ either (leb 256 n) t.start ∙ (simp e)
  between_crowded (a_mark e r) d f g =
      ap (read_from limit (length s) n between) r.tokens
      ∙ (simp (ne_eqb t.kind 59 d, ne_eqb t.kind 2 (λ q. omega arith)) (either (leb 256 n) t.start))
  between_crowded (a_stray e r q) d f g = ap (read_from limit (length s) n between) r ∙ (simp e)
  between_crowded (the_end e r l q) d f g = absurd (f e)

  pub ended_crowded :
      Known s o t → (t.kind ≡ 59 → ⊥) → (t.kind ≡ 3 → ⊥) → reading_at limit s n Where.ended o ≡ refused_as (crowded_by t n)
  unfolding read_from
  ended_crowded (a_word e r) d f =
      ap (read_from limit (length s) n Where.ended) r.tokens ∙ either (leb 256 n) t.start ∙ (simp e)
  ended_crowded (a_number e r) d f =
      ap (read_from limit (length s) n Where.ended) r.tokens ∙ either (leb 256 n) t.start ∙ (simp e)
  ended_crowded (a_mark e r) d f =
      ap (read_from limit (length s) n Where.ended) r.tokens
      ∙ (simp (ne_eqb t.kind 59 d, ne_eqb t.kind 2 (λ q. omega arith)) (either (leb 256 n) t.start))
  ended_crowded (a_stray e r q) d f = ap (read_from limit (length s) n Where.ended) r ∙ (simp e)
  ended_crowded (the_end e r l q) d f = absurd (f e)

  -- a separator, in both places; behind a statement reading goes on from it
  pub past-separator : Reads s o (token t.start (mark 59)) t.next.at → reading_at limit s n between o ≡ reading_at limit s n between t.next.at
  unfolding read_from
  past-separator r = ap (read_from limit (length s) n between) r.tokens

  pub ended-separator :
      Reads s o (token t.start (mark 59)) t.next.at → reading_at limit s n Where.ended o ≡ reading_at limit s n between t.next.at
  unfolding read_from
  ended-separator r = ap (read_from limit (length s) n Where.ended) r.tokens

  -- the text's end, in both places
  pub at_finish : tokens_from s o ≡ finish → reading_at limit s n between o ≡ accepted []
  unfolding read_from
  at_finish e = ap (read_from limit (length s) n between) e

  pub ended-finish :
      tokens_from s o ≡ finish → t.next.at ≡ length s → reading_at limit s n Where.ended o ≡ reading_at limit s n between t.next.at
  unfolding read_from
  ended-finish e l =
      ap (read_from limit (length s) n Where.ended) e ∙ sym (ap (read_from limit (length s) n between) (at_end s t.next.at (omega arith)))

-- the cursor behind the text's end stands at its length
pub ends_at : {s : List ℕ} {o : ℕ} {t : lexer.Token} → Known s o t → t.kind ≡ 3 → t.next.at ≡ length s
ends_at (a_word e r) k = absurd (omega arith)
ends_at (a_number e r) k = absurd (omega arith)
ends_at (a_mark e r) k = absurd (omega arith)
ends_at (a_stray e r q) k = absurd (omega arith)
ends_at (the_end e r l q) k = q

-- A statement that ends behind an offset ends behind an earlier one.
pub from_sooner : (s : List ℕ) (o p : ℕ) (r : Result (Option Next) Refusal) → NextFrom s p r → o ≤ p → NextFrom s o r
unfolding NextFrom
from_sooner s o p (Ok (Some f)) h q = (omega (arith, h.0, q), h.1)
from_sooner s o p (Ok None) h q = tt
from_sooner s o p (Err r) h q = tt

pub from_further : (s : List ℕ) (n o p : ℕ) (r : Result (Option Next) Refusal) → NextFrom s p r → o < p → n < 256 → NextFurther s n o r
unfolding NextFrom NextFurther
from_further s n o p (Ok (Some f)) h q k = (omega (arith, h.0, q), h.1, k)
from_further s n o p (Ok None) h q k = tt
from_further s n o p (Err r) h q k = tt

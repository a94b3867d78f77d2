-- Document 01, Faults by cause: a value, or a refusal by its number and its place. The faults of reading, 1 to 11; and document
-- 02, P1: "A ceiling above 256 is number 21, before 1."
use Rattle.std.specs.Prelude.{ℕ, Bool, cond}

infixl 20 ◌>>=◌
pub data Answer (A : Type 0) : Type 0 where
  accepted : A → Answer A
  refused : ℕ → ℕ → Answer A

-- The first refusal stands; a value goes on to what comes next.
abbrev pub ◌>>=◌ : {A B : Type 0} → Answer A → (A → Answer B) → Answer B
accepted a >>= f = f a
refused n p >>= f = refused n p

module _ {A : Type 0} where
  -- a refusal by a test; what passes it goes on
  abbrev pub refused_if : Bool → ℕ → ℕ → Answer A → Answer A
  refused_if t n p a = cond t (refused n p) a

  -- ceiling for counts above 256
  abbrev pub too_high : Answer A
  too_high = refused 21 0

  -- text over 16,384 bytes
  abbrev pub too_long : Answer A
  too_long = refused 1 0

  -- byte that starts no token
  abbrev pub bad_byte : ℕ → Answer A
  bad_byte o = refused 2 o

  -- token not allowed, or end of text
  abbrev pub unexpected : ℕ → Answer A
  unexpected o = refused 3 o

  -- count not a whole 32-bit number, or above the ceiling
  abbrev pub bad_count : ℕ → Answer A
  bad_count o = refused 4 o

  -- range backwards
  abbrev pub backwards : ℕ → Answer A
  backwards o = refused 5 o

  abbrev pub unknown_keyword : ℕ → Answer A
  unknown_keyword o = refused 6 o

  -- `?` on a feature without it
  abbrev pub not_optional : ℕ → Answer A
  not_optional o = refused 7 o

  -- number of arguments
  abbrev pub wrong_number : ℕ → Answer A
  wrong_number o = refused 8 o

  -- argument of a wrong kind, empty array, word in an array of counts, second argument after N, mandatory `*` effect
  abbrev pub wrong_argument : ℕ → Answer A
  wrong_argument o = refused 9 o

  abbrev pub unknown_mode : ℕ → Answer A
  unknown_mode o = refused 10 o

  -- a token but a separator after 256 statements; a 65th word or number in an array
  abbrev pub too_many : ℕ → Answer A
  too_many o = refused 11 o

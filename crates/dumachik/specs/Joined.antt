-- Document 01, Holding the calls to their word, 3: "Joined, .. Statement gives A's values, then B's with the offsets of their names and symbols
-- raised." Of the exported Statement: the numbers of the joined text's statements are A's, then B's with their offsets raised.
use Rattle.std.specs.Prelude.{ℕ, ◌+◌, ◌<◌, List, ◌∷◌, ◌++◌, ◌≡◌, length}
use Rattle.reading.specs.Statement.{Statement}
use Rattle.reading.specs.Answer.{Answer, accepted, refused}
use Rattle.canonical.specs.Numbers.{numbers_of}
use Rattle.canonical_laws.specs.Offsets.{offsets_of, raised}
use Rattle.reading.specs.Calls.{stating}
use Rattle.numbers_statement.specs.Answers.{numbering}

-- a statement's numbers so many bytes further on in a text: those that are offsets are raised, and all others stay
abbrev pub numbers_on : ℕ → Answer Statement → Answer (List ℕ)
numbers_on d (accepted s) = accepted (raised d (offsets_of s) (numbers_of s))
numbers_on d (refused k p) = refused k (p + d)

pub record NumbersJoined (limit : ℕ) (a b : List ℕ) (n m : ℕ) : Type 0 where
  pub first : (i : ℕ) → i < n → numbering limit (a ++ 10 ∷ b) i ≡ numbering limit a i
  pub second : (i : ℕ) → i < m → numbering limit (a ++ 10 ∷ b) (n + i) ≡ numbers_on (length a + 1) (stating limit b i)

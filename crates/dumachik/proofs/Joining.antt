-- For all texts A and B that Count accepts, whose joined text is within the limits: the exported Statement gives A's numbers, then B's with
-- their offsets raised by A's length and one.
-- Assumes nothing.
use Prim.Native.Nat.{ℕ, ◌+◌, ◌≤◌}
use mathlib.Core.Path.{◌≡◌, refl, ◌∙◌, ap}
use mathlib.Core.List.{List, ◌∷◌, ◌++◌}
use lib.ListN.{length}
use Rattle.reading.specs.Statement.{Statement}
use Rattle.reading.specs.Answer.{Answer, accepted, refused}
use Rattle.canonical_laws.proofs.Offsets.{numbers-raised}
use Rattle.read_values.specs.Calls.{raised}
use Rattle.reading.specs.Calls.{counting, stating}
use Rattle.read_values.proofs.Joining.{joined}
use Rattle.numbers_statement.specs.Answers.{numbered}
use Rattle.dumachik.specs.Joined.{numbers_on, NumbersJoined}

raised-numbers : (d : ℕ) (a : Answer Statement) → numbered (raised d a) ≡ numbers_on d a
raised-numbers d (accepted s) = ap accepted (numbers-raised d s)
raised-numbers d (refused k p) = refl

pub numbers-joined :
    (limit : ℕ) (a b : List ℕ) (n m : ℕ)
    → counting limit a ≡ accepted n
    → counting limit b ≡ accepted m
    → length (a ++ 10 ∷ b) ≤ 16384
    → n + m ≤ 256
    → NumbersJoined limit a b n m
numbers-joined limit a b n m e f h g =
    let j = joined limit a b n m e f h g in
    record {
      first = λ i l. ap numbered (j.first i l);
      second = λ i l. ap numbered (j.second i l) ∙ raised-numbers (length a + 1) (stating limit b i);
    }

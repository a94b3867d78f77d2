-- The numbers of the statements of a text can be written: they are few, and each is a 32-bit number.
-- Assumes nothing.
use Prim.Native.Nat.{ℕ, ◌≤◌}
use native.Mathlib.Omega.{arith}
use mathlib.Core.Path.{◌≡◌, refl}
use mathlib.Core.Bool.{true}
use mathlib.Core.List.{List, [], ◌∷◌}
use borrow.Author.Tests.{le-leb, leb-true}
use lib.Dec.{leb}
use lib.ListN.{length}
use Rattle.text.specs.Lists.{all}
use Rattle.text.proofs.Tests.{and_left, and_right, both}
use Rattle.reading.specs.Statement.{Statement}
use Rattle.reading.specs.Answer.{accepted}
use Rattle.reading.specs.Read.{read_text}
use Rattle.text.proofs.Passing.{all_append}
use Rattle.reading_laws.proofs.Joining.{accepted-short}
use Rattle.canonical.specs.Numbers.{numbers_of, counted_numbers, all_numbers_of}
use Rattle.canonical_laws.proofs.Numbers.{few-numbers-read, small-numbers}
use Rattle.canonical_laws.proofs.Rooms.{all-numbers-room}
use Rattle.numbers_statement.specs.Ready.{is_small, Ready}

all_small :
    (ss : List Statement)
    → all (λ s. leb (length (numbers_of s)) 272) ss ≡ true
    → all (λ s. all is_small (numbers_of s)) ss ≡ true
    → all is_small (all_numbers_of ss) ≡ true
unfolding all_numbers_of
all_small [] f e = refl
all_small (s ∷ ss) f e =
    let few = leb-true (length (numbers_of s)) 272 (and_left (leb (length (numbers_of s)) 272) _ f) in
    all_append is_small (counted_numbers s) (all_numbers_of ss)
    (both (le-leb (length (numbers_of s)) 4294967295 (omega arith)) (and_left (all is_small (numbers_of s)) _ e))
    (all_small ss (and_right (leb (length (numbers_of s)) 272) _ f) (and_right (all is_small (numbers_of s)) _ e))

pub all_ready : (limit : ℕ) (s : List ℕ) (ss : List Statement) → read_text limit s ≡ accepted ss → Ready 0 (all_numbers_of ss)
all_ready limit s ss e = record {
  room = omega (arith, all-numbers-room limit s ss e, accepted-short limit s ss e);
  small = all_small ss (few-numbers-read limit s ss e) (small-numbers limit s ss e);
}

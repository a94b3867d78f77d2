-- How long a number and a refusal's line can be.
-- Assumes nothing.
use lib.Dec.{lit≤}
use Rattle.read_forms.specs.declared.Fault.{Fault}
use Rattle.read_forms.specs.declared.Fault.TheVariants.{TooLong, BadByte, Unexpected, BadCount, Backwards, UnknownKeyword, NotOptional, WrongNumber, WrongArgument, UnknownMode, TooMany, WrongContext, SecondLet, UnknownSymbol, UnknownName, WrongKind, ForcedTwice, TooLarge, TooShort, NoStatement, CeilingTooHigh, OutsideProfile, SecondStatement, CountAboveTen}
use Rattle.read_forms.specs.Faults.{number_of}
use Prim.Native.Nat.{ℕ, ◌+◌, ◌/◌, ◌≤◌}
use native.Mathlib.Omega.{arith}
use lib.ListN.{length, length-append}
use Rattle.counts.specs.Decimal.{digits_of}
use Rattle.counts.proofs.Decimal.{digits_of-small, digits_of-more, by_digits}
use Rattle.print_writing.specs.Written.{Room}
use Rattle.lines.specs.Line.{refusal_line}

-- a digit more is ten times the number
pub digits_few : (n : ℕ) → length (digits_of n) ≤ 1 + n / 10
digits_few =
    by_digits
    (λ n. length (digits_of n) ≤ 1 + n / 10)
    (λ n h. rw (digits_of-small n h) (omega arith))
    (λ n h tens. rw (digits_of-more n h, length-append) (omega (arith, tens)))

pub refusal_room : (n p : ℕ) → n ≤ 255 → p ≤ 18446744073709551615 → Room 0 (refusal_line n p)
unfolding refusal_line
refusal_room n p h l = simp length-append (omega (arith, digits_few n, digits_few p))

-- a fault has a number of two digits at most
pub few_faults : (f : Fault) → number_of f ≤ 255
few_faults TooLong = lit≤ tt
few_faults BadByte = lit≤ tt
few_faults Unexpected = lit≤ tt
few_faults BadCount = lit≤ tt
few_faults Backwards = lit≤ tt
few_faults UnknownKeyword = lit≤ tt
few_faults NotOptional = lit≤ tt
few_faults WrongNumber = lit≤ tt
few_faults WrongArgument = lit≤ tt
few_faults UnknownMode = lit≤ tt
few_faults TooMany = lit≤ tt
few_faults WrongContext = lit≤ tt
few_faults SecondLet = lit≤ tt
few_faults UnknownSymbol = lit≤ tt
few_faults UnknownName = lit≤ tt
few_faults WrongKind = lit≤ tt
few_faults ForcedTwice = lit≤ tt
few_faults TooLarge = lit≤ tt
few_faults TooShort = lit≤ tt
few_faults NoStatement = lit≤ tt
few_faults CeilingTooHigh = lit≤ tt
few_faults OutsideProfile = lit≤ tt
few_faults SecondStatement = lit≤ tt
few_faults CountAboveTen = lit≤ tt

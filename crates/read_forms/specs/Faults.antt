-- What an answer of the code means: a value by what it stands for, and a refusal by its fault's number and its place.
use Rattle.std.specs.Prelude.{ℕ, Result, Ok, Err}
use Rattle.reading.specs.Answer.{Answer, accepted, refused}
use Rattle.read_forms.specs.declared.Refusal.{Refusal}
use Rattle.read_forms.specs.declared.Fault.{Fault}
use Rattle.read_forms.specs.declared.Fault.TheVariants.{
  TooLong,
  BadByte,
  Unexpected,
  BadCount,
  Backwards,
  UnknownKeyword,
  NotOptional,
  WrongNumber,
  WrongArgument,
  UnknownMode,
  TooMany,
  WrongContext,
  SecondLet,
  UnknownSymbol,
  UnknownName,
  WrongKind,
  ForcedTwice,
  TooLarge,
  TooShort,
  NoStatement,
  CeilingTooHigh,
  OutsideProfile,
  SecondStatement,
  CountAboveTen,
}

-- the number of a fault
abbrev pub number_of : Fault → ℕ
number_of TooLong = 1
number_of BadByte = 2
number_of Unexpected = 3
number_of BadCount = 4
number_of Backwards = 5
number_of UnknownKeyword = 6
number_of NotOptional = 7
number_of WrongNumber = 8
number_of WrongArgument = 9
number_of UnknownMode = 10
number_of TooMany = 11
number_of WrongContext = 12
number_of SecondLet = 13
number_of UnknownSymbol = 14
number_of UnknownName = 15
number_of WrongKind = 16
number_of ForcedTwice = 17
number_of TooLarge = 18
number_of TooShort = 19
number_of NoStatement = 20
number_of CeilingTooHigh = 21
number_of OutsideProfile = 22
number_of SecondStatement = 23
number_of CountAboveTen = 24

abbrev pub refused_by : {A : Type 0} → Refusal → Answer A
refused_by r = refused (number_of r.fault) r.place

-- an answer that gives a value, by what the value stands for
abbrev pub answered : {A B : Type 0} → (A → B) → Result A Refusal → Answer B
answered f (Ok a) = accepted (f a)
answered f (Err r) = refused_by r

-- a number stands for itself
abbrev pub same : ℕ → ℕ
same n = n

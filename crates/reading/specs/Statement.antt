-- The statements of a text (000, `Statement`, `Feature`, `Modes`, `Counts`, `TransitCounts`, `Operand`, `CovariateOp`).
use Rattle.std.specs.Prelude.{ℕ, Bool, List}
use Rattle.std.proofs.Math.Option.{Option}

-- A name or symbol as the text writes it: the offset of its first byte, and its bytes.
pub record Name : Type 0 where
  pub place : ℕ
  pub spelling : List ℕ

pub data Kind : Type 0 where
  a_word a_number : Kind

-- An entry of an array, and a value of a LET.
pub record Item : Type 0 where
  pub kind : Kind
  pub name : Name

-- Modes are places in their family.
pub data Modes : Type 0 where
  all_modes : Modes
  modes : List ℕ → Modes

pub data Counts : Type 0 where
  count : ℕ → Counts
  range : ℕ → ℕ → Counts
  counts : List ℕ → Counts

pub data TransitCounts : Type 0 where
  estimated : TransitCounts
  counted : Counts → TransitCounts

pub data Operand : Type 0 where
  everyone : Operand
  symbol : Name → Operand
  names : List Name → Operand

pub data Operator : Type 0 where
  multiply add : Operator

-- The Bool of COVARIATE, IIV, IOV and COVARIANCE is their `?`.
pub data Feature : Type 0 where
  Absorption Elimination : Modes → Feature
  Peripherals : Counts → Option Modes → Feature
  Transits : TransitCounts → Option Modes → Feature
  Lagtime : Modes → Feature
  Covariate : Bool → Operand → Operand → Modes → Operator → Feature
  Allometry : Name → Option Name → Feature
  DirectEffect EffectComp : Modes → Feature
  IndirectEffect : Modes → Modes → Feature
  Metabolite : Modes → Feature
  Iiv Iov : Bool → Operand → Modes → Feature
  Covariance : Bool → Modes → Operand → Feature

pub data Statement : Type 0 where
  Let : Name → List Item → Statement
  feature : Feature → Statement

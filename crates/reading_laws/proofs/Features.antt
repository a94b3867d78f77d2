-- The fourteen features, moved.
-- Assumes nothing.
use Prim.Native.Nat.{ℕ}
use mathlib.Core.Path.{◌≡◌, refl}
use mathlib.Core.Bool.{Bool, true, false}
use mathlib.Core.List.{List, map}
use mathlib.Core.Option
use mathlib.Core.Option.{Option, some, none}
use Rattle.labels.specs.declared.Family.{Family}
use Rattle.labels.specs.declared.Family.TheVariants.{
  AbsorptionMode,
  EliminationMode,
  PeripheralKind,
  DepotMode,
  LagtimeMode,
  CovariateEffect,
  PdMode,
  ProductionMode,
  MetaboliteMode,
  VariabilityEffect,
  VariabilityLevel,
}
use Rattle.reading.specs.Statement.{
  Name,
  Kind,
  a_word,
  a_number,
  Modes,
  all_modes,
  modes,
  Operand,
  Feature,
  Absorption,
  Elimination,
  Peripherals,
  Transits,
  Lagtime,
  Allometry,
  DirectEffect,
  EffectComp,
  IndirectEffect,
  Metabolite,
  Iiv,
  Iov,
}
use Rattle.reading.specs.Answer.{wrong_argument}
use Rattle.reading.specs.Argument.{Arg, star, plus, symbol, single, range, array, place_of, modes_of}
use Rattle.reading.specs.Feature.{
  Keyword,
  ABSORPTION,
  ELIMINATION,
  PERIPHERALS,
  TRANSITS,
  LAGTIME,
  COVARIATE,
  ALLOMETRY,
  DIRECTEFFECT,
  EFFECTCOMP,
  INDIRECTEFFECT,
  METABOLITE,
  IIV,
  IOV,
  COVARIANCE,
  keyword_of,
  optionally,
  is_n,
  n_alone,
  transits_of,
  explicit,
  operator_of,
  alone,
  name_of,
  modes_only,
  variability,
  feature_of,
  known_feature,
  build_feature,
}
use Rattle.reading_laws.specs.Moved.{move_name, move_operand, move_feature, move_arg, same, Moves}
use Rattle.reading_laws.proofs.Bind.{
  stands,
  falls,
  bind_moved,
  cond_moved,
  one_moved,
  two_moved,
  one_or_two_moved,
  three_or_four_moved,
  mandatory_moved,
  optionally_moved,
}
use Rattle.reading_laws.proofs.Arguments.{place_moved, modes_moved, operand_moved, counts_moved}

-- an argument is refused at its place
argument_falls :
    {A B : Type 0} (to : ℕ → ℕ) (r : A → B) (a : Arg) → Moves to r (wrong_argument (place_of (move_arg to a))) (wrong_argument (place_of a))
argument_falls to r a = record { is = simp (place_moved to a) }

-- whether an argument is N is its spelling's
n_moved : (to : ℕ → ℕ) (a : Arg) → is_n (move_arg to a) ≡ is_n a
n_moved to (star o) = refl
n_moved to (plus o) = refl
n_moved to (symbol o n) = refl
n_moved to (single i) = refl
n_moved to (range o a b) = refl
n_moved to (array o is) = refl

n_alone_moved : (to : ℕ → ℕ) (b : Option Arg) → Moves to same (n_alone (Option.map (move_arg to) b)) (n_alone b)
n_alone_moved to none = stands refl
n_alone_moved to (some b) = argument_falls to same b

-- the counts of TRANSITS
transits_moved :
    (to : ℕ → ℕ) (limit : ℕ) (a : Arg) (b : Option Arg)
    → Moves to same (transits_of limit (move_arg to a) (Option.map (move_arg to) b)) (transits_of limit a b)
unfolding transits_of
transits_moved to limit a b =
    rw (n_moved to a)
    (cond_moved (is_n a) (n_alone_moved to b) (bind_moved _ (counts_moved to limit a) λ c. stands refl))

-- the mandatory `*`
explicit_moved : (to : ℕ → ℕ) (m : Bool) (a : Arg) (ms : Modes) → Moves to same (explicit m (move_arg to a) ms) (explicit m a ms)
unfolding explicit
explicit_moved to true a ms = stands refl
explicit_moved to false a all_modes = argument_falls to same a
explicit_moved to false a (modes ms) = stands refl

-- an operator
operator_moved : (to : ℕ → ℕ) (o : Option Arg) → Moves to same (operator_of (Option.map (move_arg to) o)) (operator_of o)
unfolding operator_of
operator_moved to none = stands refl
operator_moved to (some (star o)) = stands refl
operator_moved to (some (plus o)) = stands refl
operator_moved to (some (symbol o n)) = falls
operator_moved to (some (single i)) = falls
operator_moved to (some (range o a b)) = falls
operator_moved to (some (array o is)) = falls

alone_moved : (to : ℕ → ℕ) (k j : Kind) (n : Name) → Moves to (move_name to) (alone k j (move_name to n)) (alone k j n)
alone_moved to a_word a_word n = stands refl
alone_moved to a_word a_number n = falls
alone_moved to a_number a_word n = falls
alone_moved to a_number a_number n = stands refl

-- a word, or a number, alone
name_moved : (to : ℕ → ℕ) (k : Kind) (a : Arg) → Moves to (move_name to) (name_of k (move_arg to a)) (name_of k a)
unfolding name_of
name_moved to k (star o) = falls
name_moved to k (plus o) = falls
name_moved to k (symbol o n) = falls
name_moved to k (single i) = alone_moved to k i.kind i.name
name_moved to k (range o a b) = falls
name_moved to k (array o is) = falls

-- modes that may be left out have no place
optional-modes_moved :
    (to : ℕ → ℕ) (f : Family) (b : Option Arg)
    → Moves to same (optionally (modes_of f) (Option.map (move_arg to) b)) (optionally (modes_of f) b)
optional-modes_moved to f none = stands refl
optional-modes_moved to f (some b) = bind_moved _ (modes_moved to f b) λ ms. stands refl

-- a feature of modes alone, and IIV and IOV
modes_only_moved :
    (to : ℕ → ℕ) (f : Family) (make : Modes → Feature) (k : Name) (m : Bool) (args : List Arg)
    → ((ms : Modes) → make ms ≡ move_feature to (make ms))
    → Moves to (move_feature to) (modes_only f make (move_name to k) m (map (move_arg to) args)) (modes_only f make k m args)
modes_only_moved to f make k m args e =
    one_moved k _ args λ a. bind_moved _ (modes_moved to f a) λ ms. mandatory_moved k (make ms) m (e ms)

variability_moved :
    (to : ℕ → ℕ) (make : Operand → Modes → Feature) (k : Name) (args : List Arg)
    → ((ps : Operand) (es : Modes) → make (move_operand to ps) es ≡ move_feature to (make ps es))
    → Moves to (move_feature to) (variability make (move_name to k) (map (move_arg to) args)) (variability make k args)
variability_moved to make k args e =
    two_moved k _ args λ p v.
    bind_moved _ (operand_moved to p) λ ps.
    bind_moved _ (modes_moved to VariabilityEffect v) λ es.
    stands (e ps es)

-- A feature of moved arguments is the moved feature.
feature_moved :
    (to : ℕ → ℕ) (limit : ℕ) (w : Keyword) (k : Name) (m : Bool) (args : List Arg)
    → Moves to (move_feature to) (feature_of limit w (move_name to k) m (map (move_arg to) args)) (feature_of limit w k m args)
unfolding feature_of
feature_moved to limit ABSORPTION k m args = modes_only_moved to AbsorptionMode Absorption k m args λ ms. refl
feature_moved to limit ELIMINATION k m args = modes_only_moved to EliminationMode Elimination k m args λ ms. refl
feature_moved to limit PERIPHERALS k m args =
    one_or_two_moved k _ args λ a b.
    bind_moved _ (counts_moved to limit a) λ c.
    bind_moved _ (optional-modes_moved to PeripheralKind b) λ p.
    mandatory_moved k (Peripherals c p) m refl
feature_moved to limit TRANSITS k m args =
    one_or_two_moved k _ args λ a b.
    bind_moved _ (transits_moved to limit a b) λ c.
    bind_moved _ (optional-modes_moved to DepotMode b) λ p.
    mandatory_moved k (Transits c p) m refl
feature_moved to limit LAGTIME k m args = modes_only_moved to LagtimeMode Lagtime k m args λ ms. refl
feature_moved to limit COVARIATE k m args =
    three_or_four_moved k _ args λ p c e o.
    bind_moved _ (operand_moved to p) λ ps.
    bind_moved _ (operand_moved to c) λ cs.
    bind_moved _ (modes_moved to CovariateEffect e) λ fs.
    bind_moved _ (explicit_moved to m e fs) λ es.
    bind_moved _ (operator_moved to o) λ op.
    stands refl
feature_moved to limit ALLOMETRY k m args =
    one_or_two_moved k _ args λ a b.
    bind_moved _ (name_moved to a_word a) λ c.
    bind_moved _ (optionally_moved _ b (name_moved to a_number)) λ r.
    mandatory_moved k (Allometry c r) m refl
feature_moved to limit DIRECTEFFECT k m args = modes_only_moved to PdMode DirectEffect k m args λ ms. refl
feature_moved to limit EFFECTCOMP k m args = modes_only_moved to PdMode EffectComp k m args λ ms. refl
feature_moved to limit INDIRECTEFFECT k m args =
    two_moved k _ args λ a b.
    bind_moved _ (modes_moved to PdMode a) λ ms.
    bind_moved _ (modes_moved to ProductionMode b) λ ps.
    mandatory_moved k (IndirectEffect ms ps) m refl
feature_moved to limit METABOLITE k m args = modes_only_moved to MetaboliteMode Metabolite k m args λ ms. refl
feature_moved to limit IIV k m args = variability_moved to (Iiv m) k args λ ps es. refl
feature_moved to limit IOV k m args = variability_moved to (Iov m) k args λ ps es. refl
feature_moved to limit COVARIANCE k m args =
    two_moved k _ args λ l p.
    bind_moved _ (modes_moved to VariabilityLevel l) λ ls.
    bind_moved _ (operand_moved to p) λ ps.
    stands refl

-- The feature of a keyword and moved arguments is the moved feature, or the moved refusal.
pub build_moved :
    (to : ℕ → ℕ) (limit : ℕ) (k : Name) (m : Bool) (args : List Arg)
    → Moves to (move_feature to) (build_feature limit (move_name to k) m (map (move_arg to) args)) (build_feature limit k m args)
unfolding build_feature
build_moved to limit k m args = go (keyword_of k.spelling)
  where
    go :
        (w : Option Keyword)
        → Moves to (move_feature to) (known_feature limit w (move_name to k) m (map (move_arg to) args)) (known_feature limit w k m args)
    go none = falls
    go (some w) = feature_moved to limit w k m args

-- Document 01, Reading: "then come keyword, number of arguments, each argument left to right, and last the `?`." And "The arguments of
-- each feature are those of `build_feature`" (000).
use Rattle.std.specs.Prelude.{ℕ, Bool, true, false, cond, List, [], ◌∷◌}
use Rattle.std.proofs.Math.Option.{Option, some, none}
use Rattle.std.proofs.Math.ListN.{get_elem?}
use Rattle.text.specs.Bytes.{bytes}
use Rattle.labels.specs.declared.Family.{Family}
use Rattle.labels.specs.declared.Family.TheVariants.{
  AbsorptionMode,
  EliminationMode,
  PeripheralKind,
  DepotMode,
  LagtimeMode,
  CovariateEffect,
  PdMode,
  ProductionMode,
  MetaboliteMode,
  VariabilityEffect,
  VariabilityLevel,
}
use Rattle.labels.specs.Word.{same_word, find}
use Rattle.labels.specs.Label.{keywords}
use Rattle.reading.specs.Statement.{
  Name,
  Kind,
  a_word,
  a_number,
  Modes,
  all_modes,
  modes,
  Operand,
  TransitCounts,
  estimated,
  counted,
  Operator,
  multiply,
  add,
  Feature,
  Absorption,
  Elimination,
  Peripherals,
  Transits,
  Lagtime,
  Covariate,
  Allometry,
  DirectEffect,
  EffectComp,
  IndirectEffect,
  Metabolite,
  Iiv,
  Iov,
  Covariance,
}
use Rattle.reading.specs.Answer.{Answer, accepted, ◌>>=◌, unknown_keyword, not_optional, wrong_number, wrong_argument}
use Rattle.reading.specs.Argument.{Arg, star, plus, symbol, single, range, array, place_of, modes_of, operand_of, counts_of}

pub data Keyword : Type 0 where
  ABSORPTION ELIMINATION PERIPHERALS TRANSITS LAGTIME COVARIATE ALLOMETRY : Keyword
  DIRECTEFFECT EFFECTCOMP INDIRECTEFFECT METABOLITE IIV IOV COVARIANCE : Keyword

-- the features' keywords, in the order of the table of keywords, where LET stands last
abbrev pub features : List Keyword
features =
    ABSORPTION
    ∷ ELIMINATION
    ∷ PERIPHERALS
    ∷ TRANSITS
    ∷ LAGTIME
    ∷ COVARIATE
    ∷ ALLOMETRY
    ∷ DIRECTEFFECT
    ∷ EFFECTCOMP
    ∷ INDIRECTEFFECT
    ∷ METABOLITE
    ∷ IIV
    ∷ IOV
    ∷ COVARIANCE
    ∷ []

abbrev pub feature_at : Option ℕ → Option Keyword
feature_at none = none
feature_at (some i) = get_elem? features i

-- the feature that a word is the keyword of, ignoring case
unfoldable pub keyword_of : List ℕ → Option Keyword
keyword_of w = feature_at (find w keywords)

module _ {A : Type 0} (k : Name) where
  -- the number of arguments, and what is made of them
  abbrev pub one : List Arg → (Arg → Answer A) → Answer A
  one [] f = wrong_number k.place
  one (a ∷ []) f = f a
  one (a ∷ b ∷ cs) f = wrong_number k.place

  abbrev pub one_or_two : List Arg → (Arg → Option Arg → Answer A) → Answer A
  one_or_two [] f = wrong_number k.place
  one_or_two (a ∷ []) f = f a none
  one_or_two (a ∷ b ∷ []) f = f a (some b)
  one_or_two (a ∷ b ∷ c ∷ ds) f = wrong_number k.place

  abbrev pub two : List Arg → (Arg → Arg → Answer A) → Answer A
  two [] f = wrong_number k.place
  two (a ∷ []) f = wrong_number k.place
  two (a ∷ b ∷ []) f = f a b
  two (a ∷ b ∷ c ∷ ds) f = wrong_number k.place

  abbrev pub three_or_four : List Arg → (Arg → Arg → Arg → Option Arg → Answer A) → Answer A
  three_or_four [] f = wrong_number k.place
  three_or_four (a ∷ []) f = wrong_number k.place
  three_or_four (a ∷ b ∷ []) f = wrong_number k.place
  three_or_four (a ∷ b ∷ c ∷ []) f = f a b c none
  three_or_four (a ∷ b ∷ c ∷ d ∷ []) f = f a b c (some d)
  three_or_four (a ∷ b ∷ c ∷ d ∷ e ∷ es) f = wrong_number k.place

  -- a feature that takes no `?`
  abbrev pub mandatory : Bool → A → Answer A
  mandatory true f = not_optional k.place
  mandatory false f = accepted f

-- an argument that may be left out
abbrev pub optionally : {A : Type 0} → (Arg → Answer A) → Option Arg → Answer (Option A)
optionally f none = accepted none
optionally f (some a) = f a >>= λ x. accepted (some x)

-- TRANSITS(N) takes no second argument
abbrev pub is_n : Arg → Bool
is_n (star o) = false
is_n (plus o) = false
is_n (symbol o n) = false
is_n (single i) = same_word i.name.spelling (bytes "N")
is_n (range o a b) = false
is_n (array o is) = false

abbrev pub n_alone : Option Arg → Answer TransitCounts
n_alone none = accepted estimated
n_alone (some b) = wrong_argument (place_of b)

unfoldable pub transits_of : ℕ → Arg → Option Arg → Answer TransitCounts
transits_of limit a b = cond (is_n a) (n_alone b) (counts_of limit a >>= λ c. accepted (counted c))

-- "in COVARIATE the mandatory `*` before the operator"
unfoldable pub explicit : Bool → Arg → Modes → Answer Modes
explicit true a ms = accepted ms
explicit false a all_modes = wrong_argument (place_of a)
explicit false a (modes ms) = accepted (modes ms)

-- `+` or `*`, which is also meant where there is none
unfoldable pub operator_of : Option Arg → Answer Operator
operator_of none = accepted multiply
operator_of (some (star o)) = accepted multiply
operator_of (some (plus o)) = accepted add
operator_of (some (symbol o n)) = wrong_argument o
operator_of (some (single i)) = wrong_argument i.name.place
operator_of (some (range o a b)) = wrong_argument o
operator_of (some (array o is)) = wrong_argument o

-- a word, or a number, alone
abbrev pub alone : Kind → Kind → Name → Answer Name
alone a_word a_word n = accepted n
alone a_word a_number n = wrong_argument n.place
alone a_number a_word n = wrong_argument n.place
alone a_number a_number n = accepted n

unfoldable pub name_of : Kind → Arg → Answer Name
name_of k (star o) = wrong_argument o
name_of k (plus o) = wrong_argument o
name_of k (symbol o n) = wrong_argument o
name_of k (single i) = alone k i.kind i.name
name_of k (range o a b) = wrong_argument o
name_of k (array o is) = wrong_argument o

-- a feature of one argument, which is modes, and no `?`
abbrev pub modes_only : Family → (Modes → Feature) → Name → Bool → List Arg → Answer Feature
modes_only f make k m args =
    one k args λ a. do
      ms ← modes_of f a
      mandatory k m (make ms)

-- IIV and IOV
abbrev pub variability : (Operand → Modes → Feature) → Name → List Arg → Answer Feature
variability make k args =
    two k args λ p e. do
      ps ← operand_of p
      es ← modes_of VariabilityEffect e
      accepted (make ps es)

-- a feature by its keyword, with its `?` and its arguments, under a limit for counts
unfoldable pub feature_of : ℕ → Keyword → Name → Bool → List Arg → Answer Feature
feature_of limit ABSORPTION k m args = modes_only AbsorptionMode Absorption k m args
feature_of limit ELIMINATION k m args = modes_only EliminationMode Elimination k m args
feature_of limit PERIPHERALS k m args =
    one_or_two k args λ a b. do
      c ← counts_of limit a
      p ← optionally (modes_of PeripheralKind) b
      mandatory k m (Peripherals c p)
feature_of limit TRANSITS k m args =
    one_or_two k args λ a b. do
      c ← transits_of limit a b
      d ← optionally (modes_of DepotMode) b
      mandatory k m (Transits c d)
feature_of limit LAGTIME k m args = modes_only LagtimeMode Lagtime k m args
feature_of limit COVARIATE k m args =
    three_or_four k args λ p c e o. do
      ps ← operand_of p
      cs ← operand_of c
      fs ← modes_of CovariateEffect e
      es ← explicit m e fs
      op ← operator_of o
      accepted (Covariate m ps cs es op)
feature_of limit ALLOMETRY k m args =
    one_or_two k args λ a b. do
      c ← name_of a_word a
      r ← optionally (name_of a_number) b
      mandatory k m (Allometry c r)
feature_of limit DIRECTEFFECT k m args = modes_only PdMode DirectEffect k m args
feature_of limit EFFECTCOMP k m args = modes_only PdMode EffectComp k m args
feature_of limit INDIRECTEFFECT k m args =
    two k args λ a b. do
      ms ← modes_of PdMode a
      ps ← modes_of ProductionMode b
      mandatory k m (IndirectEffect ms ps)
feature_of limit METABOLITE k m args = modes_only MetaboliteMode Metabolite k m args
feature_of limit IIV k m args = variability (Iiv m) k args
feature_of limit IOV k m args = variability (Iov m) k args
feature_of limit COVARIANCE k m args =
    two k args λ l p. do
      ls ← modes_of VariabilityLevel l
      ps ← operand_of p
      accepted (Covariance m ls ps)

-- the keyword comes first
abbrev pub known_feature : ℕ → Option Keyword → Name → Bool → List Arg → Answer Feature
known_feature limit none k m args = unknown_keyword k.place
known_feature limit (some w) k m args = feature_of limit w k m args

unfoldable pub build_feature : ℕ → Name → Bool → List Arg → Answer Feature
build_feature limit k m args = known_feature limit (keyword_of k.spelling) k m args

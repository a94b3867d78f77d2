-- Document 01, Resolving: what one statement brings, given what symbols mean. Faults "14 to 16 by statement (parameters, covariates, pairs)".
use Rattle.std.specs.Prelude.{ℕ, suc, Bool, true, false, cond, ◌||◌, List, [], ◌∷◌, map, ltb, length, get_or}
use Rattle.std.proofs.Math.Option
use Rattle.text.specs.Bytes.{bytes, count_up}
use Rattle.labels.specs.declared.Family.{Family}
use Rattle.labels.specs.declared.Family.TheVariants.{
  AbsorptionMode,
  EliminationMode,
  PeripheralKind,
  DepotMode,
  LagtimeMode,
  PdMode,
  ProductionMode,
  MetaboliteMode,
  VariabilityEffect,
  VariabilityLevel,
}
use Rattle.labels.specs.Label.{labels_of}
use Rattle.reading.specs.Statement.{
  Name,
  Modes,
  all_modes,
  modes,
  Operand,
  everyone,
  symbol,
  names,
  Feature,
  Absorption,
  Elimination,
  Peripherals,
  Transits,
  Lagtime,
  Covariate,
  Allometry,
  DirectEffect,
  EffectComp,
  IndirectEffect,
  Metabolite,
  Iiv,
  Iov,
  Covariance,
  Statement,
  Let,
  feature,
}
use Rattle.reading.specs.Answer.{Answer, accepted, refused, refused_if, ◌>>=◌}
use Rattle.text.specs.Lists.{any, is_nil}
use Rattle.resolving.specs.Faults.{wrong_kind}
use Rattle.resolving.specs.Context.{Context, covariates}
use Rattle.resolving.specs.Symbols.{Meaning}
use Rattle.resolving.specs.Operands.{entry_of, parameters_of, covariates_of}
use Rattle.resolving.specs.Effects.{Effect, effects_of, against}

-- Nothing, as a LET ("LETs leave no ground statement"); nothing but the note that it is dropped; a ground statement; or effects, and whether
-- they are explicit.
pub data Brought : Type 0 where
  defining dropped : Brought
  stays : Feature → Brought
  brings : Bool → List Effect → Brought

-- "Every other mode `*` becomes its family's whole list; counts stay."
unfoldable pub whole : Family → Modes → Modes
whole f all_modes = modes (count_up 0 (length (labels_of f)))
whole f (modes ms) = modes ms

-- Names of the ground text, which stand at no place: a name that was written, and those at indexes of a list.
abbrev pub plain_name : List ℕ → Name
plain_name w = record { place = 0; spelling = w }

abbrev pub listed : List (List ℕ) → List ℕ → Operand
listed list is = names (map (λ i. plain_name (get_or list i [])) is)

-- "a COVARIATE is explicit when its parameter operand is a list of names, whichever its covariate operand"
abbrev pub is_explicit : Operand → Bool
is_explicit everyone = false
is_explicit (symbol n) = false
is_explicit (names ns) = true

abbrev pub drop_if : Bool → Brought → Brought
drop_if true b = dropped
drop_if false b = b

-- "Empty parameters or covariates drop a COVARIATE, empty parameters an IIV or IOV, fewer than two a COVARIANCE."
abbrev pub bring_feature : Context → Meaning → Feature → Answer Brought
bring_feature c look (Absorption ms) = accepted (stays (Absorption (whole AbsorptionMode ms)))
bring_feature c look (Elimination ms) = accepted (stays (Elimination (whole EliminationMode ms)))
bring_feature c look (Peripherals n ms) = accepted (stays (Peripherals n (Option.map (whole PeripheralKind) ms)))
bring_feature c look (Transits n ms) = accepted (stays (Transits n (Option.map (whole DepotMode) ms)))
bring_feature c look (Lagtime ms) = accepted (stays (Lagtime (whole LagtimeMode ms)))
bring_feature c look (Covariate m ps cs es op) = do
  is ← parameters_of c look (bytes "PK") ps
  vs ← covariates_of c look cs
  cond (is_nil is || is_nil vs)
      (accepted dropped)
      (refused_if (any (against c es) vs) wrong_kind 0 (accepted (brings (is_explicit ps) (effects_of c m es op is vs))))
bring_feature c look (Allometry n r) = do
  i ← entry_of (covariates c) n.spelling
  accepted (stays (Allometry (plain_name n.spelling) (Option.map (λ x. plain_name x.spelling) r)))
bring_feature c look (DirectEffect ms) = accepted (stays (DirectEffect (whole PdMode ms)))
bring_feature c look (EffectComp ms) = accepted (stays (EffectComp (whole PdMode ms)))
bring_feature c look (IndirectEffect ms ps) = accepted (stays (IndirectEffect (whole PdMode ms) (whole ProductionMode ps)))
bring_feature c look (Metabolite ms) = accepted (stays (Metabolite (whole MetaboliteMode ms)))
bring_feature c look (Iiv m ps es) = do
  is ← parameters_of c look (bytes "PK") ps
  accepted (drop_if (is_nil is) (stays (Iiv m (listed c.parameters is) (whole VariabilityEffect es))))
bring_feature c look (Iov m ps es) = do
  is ← parameters_of c look (bytes "IIV") ps
  accepted (drop_if (is_nil is) (stays (Iov m (listed c.parameters is) (whole VariabilityEffect es))))
bring_feature c look (Covariance m ls ps) = do
  is ← parameters_of c look (bytes "IIV") ps
  accepted (drop_if (ltb (length is) 2) (stays (Covariance m (whole VariabilityLevel ls) (listed c.parameters is))))

unfoldable pub bring : Context → Meaning → Statement → Answer Brought
bring c look (Let n is) = accepted defining
bring c look (feature f) = bring_feature c look f

-- "3. Take the features in order." The first fault stands, at its statement's index.
abbrev pub at_index : {A : Type 0} → ℕ → Answer A → Answer A
at_index i (accepted a) = accepted a
at_index i (refused n p) = refused n i

-- each of a list, whose first has this index
abbrev pub each_from : {A B : Type 0} → (A → Answer B) → ℕ → List A → Answer (List B)
each_from f i [] = accepted []
each_from f i (x ∷ xs) = do
  y ← at_index i (f x)
  ys ← each_from f (suc i) xs
  accepted (y ∷ ys)

-- The parts of a statement: moved where the statement is, well formed where it is, and what the arguments of a feature are taken for.
-- Assumes nothing.
use Prim.Native.Nat.{ℕ, zero, suc, ◌+◌, ◌≤◌}
use native.Mathlib.Omega.{arith}
use mathlib.Core.Path.{◌≡◌, refl, ap, sym, ◌∙◌}
use mathlib.Core.Bool.{Bool, true, false, cond}
use mathlib.Core.List.{List, [], ◌∷◌, map}
use mathlib.Core.Option.{Option, some, none, none-ne-some}
use lib.ListN.{length, get_elem?}
use Rattle.tokens.specs.Class.{count_up}
use Rattle.tokens.specs.Spelling.{is_word}
use Rattle.text.specs.Lists.{all}
use Rattle.text.proofs.Tests.{and_left, and_right, both}
use Rattle.labels.specs.declared.Family.{Family}
use Rattle.labels.specs.declared.Family.TheVariants.{
  AbsorptionMode,
  EliminationMode,
  PeripheralKind,
  DepotMode,
  LagtimeMode,
  CovariateEffect,
  PdMode,
  ProductionMode,
  MetaboliteMode,
  VariabilityEffect,
  VariabilityLevel,
}
use Rattle.labels.specs.Word.{find}
use Rattle.labels.specs.Label.{labels_of, keywords}
use Rattle.reading.specs.Statement.{
  Name,
  a_word,
  a_number,
  Modes,
  all_modes,
  modes,
  Counts,
  TransitCounts,
  estimated,
  counted,
  Operand,
  Feature,
  Absorption,
  Elimination,
  Peripherals,
  Transits,
  Lagtime,
  Covariate,
  Allometry,
  DirectEffect,
  EffectComp,
  IndirectEffect,
  Metabolite,
  Iiv,
  Iov,
  Covariance,
  Statement,
  Let,
  feature,
}
use Rattle.reading.specs.Parts.{
  Part,
  Parts,
  modes_part,
  operand_part,
  name_part,
  operator_part,
  transits_part,
  some_part,
  taken,
  feature_parts,
  parts_of,
}
use Rattle.reading.specs.Answer.{accepted, ◌>>=◌}
use Rattle.reading.specs.Argument.{Arg, star, plus, symbol, single, range, array, modes_of, counts_of}
use Rattle.reading.specs.Feature.{
  Keyword,
  ABSORPTION,
  ELIMINATION,
  PERIPHERALS,
  TRANSITS,
  LAGTIME,
  COVARIATE,
  ALLOMETRY,
  DIRECTEFFECT,
  EFFECTCOMP,
  INDIRECTEFFECT,
  METABOLITE,
  IIV,
  IOV,
  COVARIANCE,
  features,
  feature_at,
  keyword_of,
  optionally,
  is_n,
  n_alone,
  transits_of,
  mandatory,
  explicit,
  operator_of,
  name_of,
  modes_only,
  variability,
  feature_of,
  known_feature,
  build_feature,
}
use Rattle.reading_laws.specs.Moved.{move_feature, move_statement, move_parts}
use Rattle.reading_laws.specs.WellFormed.{
  one_to64,
  spelled_as,
  well_item,
  optional,
  well_transits,
  well_effects,
  well_together,
  well_parts,
  well_formed,
  well_arg,
  Gives,
  given,
  nothing,
}
use Rattle.reading_laws.specs.Taken.{TakenAs, an_n, Others, over, next, left_out, multiplied, meant, added, Taken, first, maybe, Built}
use Rattle.reading_laws.proofs.Giving.{
  gives_bind,
  gives_more,
  one_gives,
  two_gives,
  one_or_two_gives,
  three_or_four_gives,
  mandatory_gives,
}
use Rattle.reading_laws.proofs.Taking.{modes-taken, counts-taken, operand_taken, name-taken}
use Rattle.reading_laws.proofs.WellArguments.{item-named}

feature_parts_moved : (to : ℕ → ℕ) (f : Feature) → feature_parts (move_feature to f) ≡ move_parts to (feature_parts f)
unfolding feature_parts
feature_parts_moved to (Absorption ms) = refl
feature_parts_moved to (Elimination ms) = refl
feature_parts_moved to (Peripherals c none) = refl
feature_parts_moved to (Peripherals c (some ms)) = refl
feature_parts_moved to (Transits estimated none) = refl
feature_parts_moved to (Transits estimated (some ms)) = refl
feature_parts_moved to (Transits (counted c) none) = refl
feature_parts_moved to (Transits (counted c) (some ms)) = refl
feature_parts_moved to (Lagtime ms) = refl
feature_parts_moved to (Covariate m ps cs es op) = refl
feature_parts_moved to (Allometry n none) = refl
feature_parts_moved to (Allometry n (some r)) = refl
feature_parts_moved to (DirectEffect ms) = refl
feature_parts_moved to (EffectComp ms) = refl
feature_parts_moved to (IndirectEffect ms ps) = refl
feature_parts_moved to (Metabolite ms) = refl
feature_parts_moved to (Iiv m ps es) = refl
feature_parts_moved to (Iov m ps es) = refl
feature_parts_moved to (Covariance m ls ps) = refl

-- The parts of a moved statement are its parts, moved.
pub parts_moved : (to : ℕ → ℕ) (s : Statement) → parts_of (move_statement to s) ≡ move_parts to (parts_of s)
unfolding parts_of
parts_moved to (Let n is) = refl
parts_moved to (feature f) = feature_parts_moved to f

-- The parts of a well formed statement are well formed.
pub parts_well : (limit : ℕ) (s : Statement) → well_formed limit s ≡ true → well_parts limit (parts_of s) ≡ true
unfolding parts_of
parts_well limit (Let n is) e =
    both (item-named a_word n (and_left (is_word n.spelling) (one_to64 well_item is) e))
    (both (and_right (is_word n.spelling) (one_to64 well_item is) e) refl)
parts_well limit (feature f) e = and_left (well_parts limit (feature_parts f)) (well_together f) e

-- No family has more than seven labels.
pub few_labels : (f : Family) → length (labels_of f) ≤ 7
unfolding labels_of
few_labels AbsorptionMode = omega arith
few_labels EliminationMode = omega arith
few_labels PeripheralKind = omega arith
few_labels DepotMode = omega arith
few_labels LagtimeMode = omega arith
few_labels CovariateEffect = omega arith
few_labels PdMode = omega arith
few_labels ProductionMode = omega arith
few_labels MetaboliteMode = omega arith
few_labels VariabilityEffect = omega arith
few_labels VariabilityLevel = omega arith

-- What the arguments of a feature are taken for.

-- a keyword's place among the features
abbrev keyword_place : Keyword → ℕ
keyword_place ABSORPTION = 0
keyword_place ELIMINATION = 1
keyword_place PERIPHERALS = 2
keyword_place TRANSITS = 3
keyword_place LAGTIME = 4
keyword_place COVARIATE = 5
keyword_place ALLOMETRY = 6
keyword_place DIRECTEFFECT = 7
keyword_place EFFECTCOMP = 8
keyword_place INDIRECTEFFECT = 9
keyword_place METABOLITE = 10
keyword_place IIV = 11
keyword_place IOV = 12
keyword_place COVARIANCE = 13

module _ (limit : ℕ) where
  -- arguments that may be left out
  some_modes-taken :
      (f : Family) (b : Option Arg) → Gives (λ ms. Others limit (maybe b) (some_part (modes_part f) ms ∷ [])) (optionally (modes_of f) b)
  some_modes-taken f none = given left_out
  some_modes-taken f (some a) = gives_bind (modes-taken limit f a) λ ms h. given (next h over)

  abbrev Reference : List Arg → Option Name → Type 0
  Reference bs r = Others limit bs (some_part name_part r ∷ []) × (all (well_arg limit) bs ≡ true → optional (spelled_as a_number) r ≡ true)

  reference_taken : (b : Option Arg) → Gives (Reference (maybe b)) (optionally (name_of a_number) b)
  reference_taken none = given (left_out, λ w. refl)
  reference_taken (some b) =
      gives_bind (name-taken limit a_number b) λ n h. given (next h.0 over, λ w. h.1 (and_left (well_arg limit b) true w))

  -- the counts of TRANSITS, and modes after them, of which N has none
  abbrev After : Option Arg → TransitCounts → Type 0
  After none c = well_transits c none ≡ true
  After (some b) c = (ms : Modes) → well_transits c (some ms) ≡ true

  after_counts : (b : Option Arg) (c : Counts) → After b (counted c)
  after_counts none c = refl
  after_counts (some b) c = λ ms. refl

  n_alone-taken : (b : Option Arg) {a : Arg} → is_n a ≡ true → Gives (λ c. TakenAs limit a (transits_part c) × After b c) (n_alone b)
  n_alone-taken none e = given (an_n e, refl)
  n_alone-taken (some b) e = nothing refl

  transits-taken : (a : Arg) (b : Option Arg) → Gives (λ c. TakenAs limit a (transits_part c) × After b c) (transits_of limit a b)
  unfolding transits_of
  transits-taken a b = go (is_n a) refl
    where
      go :
          (t : Bool)
          → is_n a ≡ t
          → Gives (λ c. TakenAs limit a (transits_part c) × After b c) (cond t (n_alone b) (counts_of limit a >>= λ c. accepted (counted c)))
      go true e = n_alone-taken b e
      go false e = gives_bind (counts-taken limit a) λ c h. given (h, after_counts b c)

  -- the modes and the operator of COVARIATE
  explicit-taken :
      (m : Bool) (a : Arg) (ms : Modes)
      → TakenAs limit a (modes_part CovariateEffect ms)
      → Gives (λ es. TakenAs limit a (modes_part CovariateEffect es) × (well_effects m es ≡ true)) (explicit m a ms)
  unfolding explicit
  explicit-taken true a all_modes e = given (e, refl)
  explicit-taken true a (modes ms) e = given (e, refl)
  explicit-taken false a all_modes e = nothing refl
  explicit-taken false a (modes ms) e = given (e, refl)

  operator-taken : (o : Option Arg) → Gives (λ op. Others limit (maybe o) (operator_part op ∷ [])) (operator_of o)
  unfolding operator_of
  operator-taken none = given meant
  operator-taken (some (star o)) = given multiplied
  operator-taken (some (plus o)) = given added
  operator-taken (some (symbol o n)) = nothing refl
  operator-taken (some (single i)) = nothing refl
  operator-taken (some (range o a b)) = nothing refl
  operator-taken (some (array o is)) = nothing refl

  -- a feature by its parts
  built :
      {place : ℕ} {m : Bool} {args : List Arg} {ps : List Part} (f : Feature)
      → feature_parts f ≡ taken place m ps
      → Taken limit args ps
      → (all (well_arg limit) args ≡ true → well_together f ≡ true)
      → Built limit place m args f
  built f e t w =
      record { keyword = ap (λ (p : Parts). p.keyword) e; optional = ap (λ (p : Parts). p.optional) e; arguments = rw e t; together = w }

  -- a feature of modes alone, and IIV and IOV
  modes_only-taken :
      (place : ℕ) (f : Family) (make : Modes → Feature) (k : Name) (m : Bool) (args : List Arg)
      → ((ms : Modes) → feature_parts (make ms) ≡ taken place false (modes_part f ms ∷ []))
      → ((ms : Modes) → well_together (make ms) ≡ true)
      → Gives (Built limit place m args) (modes_only f make k m args)
  modes_only-taken place f make k m args e w =
      one_gives (Built limit place m) k args λ a.
      gives_bind (modes-taken limit f a) λ ms h.
      mandatory_gives (λ m. Built limit place m (a ∷ [])) k (make ms) m (built (make ms) (e ms) (first h over) λ u. w ms)

  variability-taken :
      (place : ℕ) (make : Operand → Modes → Feature) (k : Name) (m : Bool) (args : List Arg)
      → ((ps : Operand) (es : Modes) → feature_parts (make ps es) ≡ taken place m (operand_part ps ∷ modes_part VariabilityEffect es ∷ []))
      → ((ps : Operand) (es : Modes) → well_together (make ps es) ≡ true)
      → Gives (Built limit place m args) (variability make k args)
  variability-taken place make k m args e w =
      two_gives (Built limit place m) k args λ a b.
      gives_bind (operand_taken limit a) λ ps h.
      gives_bind (modes-taken limit VariabilityEffect b) λ es g.
      given (built (make ps es) (e ps es) (first h (next g over)) λ u. w ps es)

  transits_built :
      (k : Name) (m : Bool) (a : Arg) (b : Option Arg)
      → Gives (Built limit 3 m (a ∷ maybe b))
      (transits_of limit a b >>= λ c. optionally (modes_of DepotMode) b >>= λ d. mandatory k m (Transits c d))
  unfolding feature_parts
  transits_built k m a none =
      gives_bind (transits-taken a none) λ c h.
      mandatory_gives (λ m. Built limit 3 m (a ∷ [])) k (Transits c none) m
      (built (Transits c none) refl (first h.0 left_out) λ u. h.1)
  transits_built k m a (some b) =
      gives_bind (transits-taken a (some b)) λ c h.
      gives_bind {P = λ d. Built limit 3 false (a ∷ b ∷ []) (Transits c d)}
      (gives_bind (modes-taken limit DepotMode b) λ ms e.
      given (built (Transits c (some ms)) refl (first h.0 (next e over)) λ u. h.1 ms)) λ d e.
      mandatory_gives (λ m. Built limit 3 m (a ∷ b ∷ [])) k (Transits c d) m e

  -- A feature has the place of its keyword, its `?`, and what its arguments are taken for.
  feature-taken :
      (w : Keyword) (k : Name) (m : Bool) (args : List Arg) → Gives (Built limit (keyword_place w) m args) (feature_of limit w k m args)
  unfolding feature_of feature_parts
  feature-taken ABSORPTION k m args = modes_only-taken 0 AbsorptionMode Absorption k m args (λ ms. refl) λ ms. refl
  feature-taken ELIMINATION k m args = modes_only-taken 1 EliminationMode Elimination k m args (λ ms. refl) λ ms. refl
  feature-taken PERIPHERALS k m args =
      one_or_two_gives (Built limit 2 m) k args λ a b.
      gives_bind (counts-taken limit a) λ c h.
      gives_bind (some_modes-taken PeripheralKind b) λ p t.
      mandatory_gives (λ m. Built limit 2 m (a ∷ maybe b)) k (Peripherals c p) m
      (built (Peripherals c p) refl (first h t) λ u. refl)
  feature-taken TRANSITS k m args = one_or_two_gives (Built limit 3 m) k args (transits_built k m)
  feature-taken LAGTIME k m args = modes_only-taken 4 LagtimeMode Lagtime k m args (λ ms. refl) λ ms. refl
  feature-taken COVARIATE k m args =
      three_or_four_gives (Built limit 5 m) k args λ a b c o.
      gives_bind (operand_taken limit a) λ ps h.
      gives_bind (operand_taken limit b) λ cs g.
      gives_bind (modes-taken limit CovariateEffect c) λ fs e.
      gives_bind (explicit-taken m c fs e) λ es q.
      gives_bind (operator-taken o) λ op t.
      given (built (Covariate m ps cs es op) refl (first h (next g (next q.0 t))) λ u. q.1)
  feature-taken ALLOMETRY k m args =
      one_or_two_gives (Built limit 6 m) k args λ a b.
      gives_bind (name-taken limit a_word a) λ n h.
      gives_bind (reference_taken b) λ r t.
      mandatory_gives (λ m. Built limit 6 m (a ∷ maybe b)) k (Allometry n r) m
      (built (Allometry n r) refl (first h.0 t.0)
      λ u. both (h.1 (and_left (well_arg limit a) _ u)) (t.1 (and_right (well_arg limit a) _ u)))
  feature-taken DIRECTEFFECT k m args = modes_only-taken 7 PdMode DirectEffect k m args (λ ms. refl) λ ms. refl
  feature-taken EFFECTCOMP k m args = modes_only-taken 8 PdMode EffectComp k m args (λ ms. refl) λ ms. refl
  feature-taken INDIRECTEFFECT k m args =
      two_gives (Built limit 9 m) k args λ a b.
      gives_bind (modes-taken limit PdMode a) λ ms h.
      gives_bind (modes-taken limit ProductionMode b) λ ps g.
      mandatory_gives (λ m. Built limit 9 m (a ∷ b ∷ [])) k (IndirectEffect ms ps) m
      (built (IndirectEffect ms ps) refl (first h (next g over)) λ u. refl)
  feature-taken METABOLITE k m args = modes_only-taken 10 MetaboliteMode Metabolite k m args (λ ms. refl) λ ms. refl
  feature-taken IIV k m args = variability-taken 11 (Iiv m) k m args (λ ps es. refl) λ ps es. refl
  feature-taken IOV k m args = variability-taken 12 (Iov m) k m args (λ ps es. refl) λ ps es. refl
  feature-taken COVARIANCE k m args =
      two_gives (Built limit 13 m) k args λ a b.
      gives_bind (modes-taken limit VariabilityLevel a) λ ls h.
      gives_bind (operand_taken limit b) λ ps g.
      given (built (Covariance m ls ps) refl (first h (next g over)) λ u. refl)

-- The keyword.

-- the keyword at a place of the features has that place
place_at :
    (fs : List Keyword) (o i : ℕ) (w : Keyword)
    → map keyword_place fs ≡ count_up o (length fs)
    → get_elem? fs i ≡ some w
    → keyword_place w ≡ i + o
place_at [] o i w p e = absurd (none-ne-some w e)
place_at (f ∷ fs) o zero w p e =
    let same : f ≡ w = cc in
    let here : keyword_place f ≡ o = cc in
    sym (ap keyword_place same) ∙ here ∙ omega arith
place_at (f ∷ fs) o (suc i) w p e =
    let rest : map keyword_place fs ≡ count_up (suc o) (length fs) = cc in
    place_at fs (suc o) i w rest e ∙ omega arith

-- The feature of a keyword and arguments has the place where the keyword is found, its `?`, and what its arguments are taken for.
pub build_taken :
    (limit : ℕ) (k : Name) (m : Bool) (args : List Arg)
    → Gives (λ f. (i : ℕ) × (find k.spelling keywords ≡ some i) × Built limit i m args f) (build_feature limit k m args)
unfolding build_feature keyword_of
build_taken limit k m args = go (find k.spelling keywords) refl
  where
    known :
        (i : ℕ)
        → find k.spelling keywords ≡ some i
        → (w : Option Keyword)
        → get_elem? features i ≡ w
        → Gives (λ f. (i : ℕ) × (find k.spelling keywords ≡ some i) × Built limit i m args f) (known_feature limit w k m args)
    known i e none h = nothing refl
    known i e (some w) h =
        gives_more (feature-taken limit w k m args) λ f b.
        (keyword_place w, e ∙ ap some (sym (place_at features 0 i w refl h ∙ omega arith)), b)

    go :
        (r : Option ℕ)
        → find k.spelling keywords ≡ r
        → Gives (λ f. (i : ℕ) × (find k.spelling keywords ≡ some i) × Built limit i m args f) (known_feature limit (feature_at r) k m args)
    go none e = nothing refl
    go (some i) e = known i e (get_elem? features i) refl

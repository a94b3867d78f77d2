-- What a feature other than COVARIATE comes to.
use Rattle.read_forms.specs.declared.Fault.{Fault}
use Rattle.read_forms.specs.Faults.{number_of}
use Rattle.std.specs.Prelude.{ℕ, ◌≤◌, ◌<◌, Bool, true, false, cond, List, [], ◌++◌, ◌≡◌, ltb, length, get_or}
use Rattle.std.proofs.Math.Option.{Option, some, none}
use Rattle.text.specs.Bytes.{bytes}
use Rattle.tokens.specs.Spelling.{spell_all}
use Rattle.labels.specs.declared.Family.{Family}
use Rattle.labels.specs.Label.{keywords}
use Rattle.reading.specs.Answer.{Answer, accepted, refused}
use Rattle.reading.specs.Statement as statement
use Rattle.reading.specs.Statement.{feature}
use Rattle.canonical.specs.Canonical.{modes_shapes, statement_shapes}
use Rattle.read_forms.specs.declared.Feature.{Feature}
use Rattle.read_forms.specs.declared.Feature.TheVariants as form
use Rattle.read_forms.specs.declared.Modes.{Modes}
use Rattle.read_forms.specs.declared.Operand.{Operand}
use Rattle.read_forms.specs.Forms.{modes_in, feature_in}
use Rattle.read_parts.specs.Apart.{one, feature_apart}
use Rattle.print_writing.specs.Written.{Written}
use Rattle.print_statements.specs.Bytes.{head_of}
use Rattle.canonical.specs.Lines.{joint_of, piece_of}
use Rattle.resolving.specs.Brought.{Brought, dropped, stays, whole}
use Rattle.resolving.specs.Handed.{handed_context}
use Rattle.resolve_operands.specs.Entries.{parameters_in}
use Rattle.resolve_grounding.specs.Listed.{variable_bytes}
use Rattle.std.specs.Prelude as prelude

abbrev pub is_covariate : Feature → Bool
is_covariate (form.Absorption m) = false
is_covariate (form.Elimination m) = false
is_covariate (form.Peripherals c k) = false
is_covariate (form.Transits c d) = false
is_covariate (form.Lagtime m) = false
is_covariate (form.Covariate o p c e op) = true
is_covariate (form.Allometry n r) = false
is_covariate (form.DirectEffect m) = false
is_covariate (form.EffectComp m) = false
is_covariate (form.IndirectEffect m p) = false
is_covariate (form.Metabolite m) = false
is_covariate (form.Iiv o p e) = false
is_covariate (form.Iov o p e) = false
is_covariate (form.Covariance o l p) = false

-- a feature of modes alone has these parts; of others nothing is told
abbrev pub AloneAs : Feature → prelude.Option (ℕ × Family × Modes) → Type 0
AloneAs f (prelude.Some a) = (feature_apart f ≡ one a.0 a.1 a.2) × (a.0 < length keywords)
AloneAs f prelude.None = Unit {0}

-- its bytes, with the modes made whole
abbrev pub alone_bytes : ℕ → Family → Modes → List ℕ
alone_bytes k f m = head_of (get_or keywords k []) false ++ (spell_all (modes_shapes f (whole f (modes_in m))) ++ bytes ")")

abbrev pub is_some : {A : Type 0} → Option A → Bool
is_some none = false
is_some (some a) = true

-- a statement of a text that is not too long
abbrev pub Short : List ℕ → Feature → Type 0
Short s f = length (spell_all (statement_shapes (feature (feature_in s f)))) ≤ 16384

-- a ground statement was printed, where so many stay before it
pub record Stood (a : Answer Brought) (n : ℕ) (before : List ℕ) (at : ℕ) (after : List ℕ) (r : ℕ) : Type 0 where
  pub left : statement.Feature
  pub brought : a ≡ accepted (stays left)
  pub written : Written before at (piece_of n (feature left)) after r
  pub small : length (piece_of n (feature left)) ≤ 20001

unfoldable pub StayAs : Answer Brought → ℕ → List ℕ → ℕ → List ℕ → prelude.Result (prelude.Option ℕ) Fault → Type 0
StayAs a n before at after (prelude.Ok (prelude.Some r)) = Stood a n before at after r
StayAs a n before at after (prelude.Ok prelude.None) = (a ≡ accepted dropped) × (after ≡ before)
StayAs a n before at after (prelude.Err k) = (a ≡ refused (number_of k) 0) × (after ≡ before)

-- The same for a statement of parameters and modes, by its bytes.
module _ (s b l lets : List ℕ) (n : ℕ) (star : List ℕ) (least : ℕ) (k : ℕ) (m : Bool) (ps : Operand) (f : Family) (ms : Modes) (named : Bool) where
  pub record VariablesStood (before : ℕ) (old : List ℕ) (at : ℕ) (new : List ℕ) (r : ℕ) : Type 0 where
    pub indexes : List ℕ
    pub found : parameters_in s lets n b l star ps ≡ accepted indexes
    pub enough : ltb (length indexes) least ≡ false
    pub written :
        Written old at (joint_of before ++ variable_bytes k m (handed_context b l).parameters indexes f (whole f (modes_in ms)) named) new r
    pub small : length (joint_of before ++ variable_bytes k m (handed_context b l).parameters indexes f (whole f (modes_in ms)) named) ≤ 20001

  pub record VariablesDropped (old new : List ℕ) : Type 0 where
    pub indexes : List ℕ
    pub found : parameters_in s lets n b l star ps ≡ accepted indexes
    pub tooFew : ltb (length indexes) least ≡ true
    pub same : new ≡ old

  unfoldable pub VariablesAs : ℕ → List ℕ → ℕ → List ℕ → prelude.Result (prelude.Option ℕ) Fault → Type 0
  VariablesAs before old at new (prelude.Ok (prelude.Some r)) = VariablesStood before old at new r
  VariablesAs before old at new (prelude.Ok prelude.None) = VariablesDropped old new
  VariablesAs before old at new (prelude.Err q) = (parameters_in s lets n b l star ps ≡ refused (number_of q) 0) × (new ≡ old)

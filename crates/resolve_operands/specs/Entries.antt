-- What an operand answers: the indexes of its names, or 14 or 15.
use Rattle.std.specs.Prelude as prelude
use Rattle.std.specs.Prelude.{ℕ, ◌≡◌, Bool, cond, List, map}
use Rattle.std.proofs.Math.Option.{some}
use Rattle.reading.specs.Answer.{Answer, accepted, refused}
use Rattle.resolving.specs.Context.{Context, covariates}
use Rattle.resolving.specs.Symbols.{Meaning, look_up}
use Rattle.resolving.specs.Operands.{known, names_of, parameters_of, covariates_of}
use Rattle.resolving.specs.Handed.{handed_context}
use Rattle.read_forms.specs.declared.Operand.{Operand}
use Rattle.read_forms.specs.declared.Fault.{Fault}
use Rattle.read_forms.specs.Faults.{number_of}
use Rattle.read_forms.specs.Forms.{operand_in}
use Rattle.resolve_context.specs.declared.Names.{Names}
use Rattle.resolve_context.specs.declared.Layout.{Layout}
use Rattle.resolve_context.specs.Lists as layout
use Rattle.resolve_symbols.specs.declared.Source.{Source}
use Rattle.resolve_symbols.specs.Lets.{definitions_in}
use Rattle.resolve_symbols.specs.Sources.{looked_as, Marked}
use Rattle.resolve_operands.specs.Picked.{Picked}

-- an answer as it is given, with the array that was lent for the indexes of a list with n entries
abbrev pub EntriesAs : ℕ → Answer (List ℕ) → List ℕ → prelude.Result ℕ Fault → Type 0
EntriesAs n a is (prelude.Ok k) = Picked n a is k
EntriesAs n a is (prelude.Err f) = a ≡ refused (number_of f) 0

-- the list that names are held to: that of covariates, or the parameters
abbrev pub target_of : Layout → Bool → Names
target_of y every = cond every (layout.covariates_of y) y.parameters

-- what symbols mean in a context where a text has so many LETs in the run
abbrev pub meaning_in : List ℕ → List ℕ → ℕ → Context → Meaning
meaning_in s l n c = look_up c (map some (definitions_in s l n))

-- in every context with the layout's marks, what was looked up has these names
abbrev pub StandsFor : List ℕ → Layout → prelude.Option Source → (Context → Answer (List (List ℕ))) → Type 0
StandsFor s y r f = (c : Context) → Marked c y → known (looked_as c s r) ≡ f c

module _ (s l : List ℕ) (n : ℕ) where
  -- the names of `*`: every covariate, or those of a word that is looked up
  abbrev pub star_names : List ℕ → Bool → Context → Answer (List (List ℕ))
  star_names star every c = cond every (accepted (covariates c)) (known (meaning_in s l n c star))

  abbrev pub operand_names : List ℕ → Bool → Operand → Context → Answer (List (List ℕ))
  operand_names star every o c = names_of (meaning_in s l n c) (star_names star every c) (operand_in s o)

  -- the indexes of an operand, in the context of a block and a run
  abbrev pub parameters_in : List ℕ → List ℕ → List ℕ → Operand → Answer (List ℕ)
  parameters_in b r star o = parameters_of (handed_context b r) (meaning_in s l n (handed_context b r)) star (operand_in s o)

  abbrev pub covariates_in : List ℕ → List ℕ → Operand → Answer (List ℕ)
  covariates_in b r o = covariates_of (handed_context b r) (meaning_in s l n (handed_context b r)) (operand_in s o)

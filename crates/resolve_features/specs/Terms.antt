-- What a COVARIATE comes to: the terms of its effects.
use Rattle.read_forms.specs.declared.Fault.{Fault}
use Rattle.read_forms.specs.Faults.{number_of}
use Rattle.std.specs.Prelude.{ℕ, ◌≤◌, Bool, true, List, map, ◌≡◌, ltb, length}
use Rattle.text.specs.Bytes.{every}
use Rattle.reading.specs.Answer.{Answer, accepted, refused}
use Rattle.reading.specs.Statement.{Modes, all_modes, modes}
use Rattle.print_writing.specs.Written.{Written}
use Rattle.resolving.specs.Effects.{Effect}
use Rattle.resolving.specs.Brought.{Brought, dropped, brings}
use Rattle.resolving_laws.specs.Flat.{term}
use Rattle.resolve_merging.specs.Packing.{term_of}
use Rattle.std.specs.Prelude as prelude

-- forms are places of their family, of which there are seven
abbrev pub SmallForms : Modes → Type 0
SmallForms all_modes = Unit {0}
SmallForms (modes fs) = every (λ f. ltb f 8) fs ≡ true

-- terms of effects were written
pub record Termed (a : Answer Brought) (i : ℕ) (before : List ℕ) (at : ℕ) (after : List ℕ) (r : ℕ) : Type 0 where
  pub explicit : Bool
  pub effects : List Effect
  pub numbers : List ℕ
  pub brought : a ≡ accepted (brings explicit effects)
  pub mean : map term_of numbers ≡ map (term i explicit) effects
  pub written : Written before at numbers after r
  pub few : length numbers ≤ 32768

unfoldable pub CovariateAs : Answer Brought → ℕ → List ℕ → ℕ → List ℕ → prelude.Result (prelude.Option ℕ) Fault → Type 0
CovariateAs a i before at after (prelude.Ok (prelude.Some r)) = Termed a i before at after r
CovariateAs a i before at after (prelude.Ok prelude.None) = (a ≡ accepted dropped) × (after ≡ before)
CovariateAs a i before at after (prelude.Err k) = (a ≡ refused (number_of k) 0) × (after ≡ before)

-- What can be written again: effects, and what statements bring.
-- Assumes nothing.
use Prim.Native.Nat.{ℕ}
use mathlib.Core.Path.{◌≡◌}
use mathlib.Core.Bool.{Bool, true}
use mathlib.Core.List.{List}
use Rattle.reading.specs.Statement.{Feature}
use Rattle.reading.specs.Answer.{accepted}
use Rattle.resolving.specs.Context.{Context, covariates, kind_at}
use Rattle.resolving.specs.Symbols.{Meaning}
use Rattle.resolving.specs.Effects.{Effect, suits, operator_number, optional_number}
use Rattle.resolving.specs.Brought.{Brought, defining, dropped, stays, brings, bring_feature}
use Rattle.resolving.specs.Ground.{Group, group_of, operator_as, is_optional}
use Rattle.text.proofs.All.{All}
use Rattle.resolving_laws.proofs.Entries.{FirstAt}

-- what can be written in a ground COVARIATE, but for the form
pub record Written (c : Context) (g : Group) : Type 0 where
  pub parameter-first : FirstAt c.parameters g.parameter
  pub covariate-first : FirstAt (covariates c) g.covariate
  pub operator-known : operator_number (operator_as g.operator) ≡ g.operator
  pub mark-known : optional_number (is_optional g.optional) ≡ g.optional

abbrev pub Suited : Context → Effect → Type 0
Suited c e = suits (kind_at c e.covariate) e.form ≡ true

pub data Stands (c : Context) : Brought → Type 0 where
  stands-defining : Stands c defining
  stands-dropped : Stands c dropped
  stands_itself : {f : Feature} → ((look : Meaning) → bring_feature c look f ≡ accepted (stays f)) → Stands c (stays f)
  -- effects of one operator
  stands-effects :
      {x : Bool} {es : List Effect} (op : ℕ)
      → All (λ e. Written c (group_of e) × Suited c e × (e.operator ≡ op)) es
      → Stands c (brings x es)

-- Resolved effects are below 64: each is told by indexes of entries, of which a list has at most 64.
-- Assumes nothing.
use Prim.Native.Nat.{◌<◌}
use native.Mathlib.Omega.{arith}
use mathlib.Core.Path.{◌≡◌, sym, subst}
use mathlib.Core.List.{List}
use Rattle.reading.specs.Statement.{Statement}
use Rattle.reading.specs.Answer.{accepted}
use Rattle.resolving.specs.Context.{Context, covariates}
use Rattle.resolving.specs.Symbols.{lets, look_up}
use Rattle.resolving.specs.Effects.{Effect}
use Rattle.resolving.specs.Resolve.{Resolved, resolve}
use Rattle.text.proofs.All.{All, all_weaker}
use Rattle.resolving_laws.proofs.Fewness.{place-below}
use Rattle.resolving_laws.proofs.Passed.{gives_accepted}
use Rattle.resolving_laws.proofs.Stands.{Written}
use Rattle.resolving_laws.proofs.Standing.{all-stand}
use Rattle.resolving_laws.proofs.Settling.{resolved_as}
use Rattle.resolving_laws.proofs.Reresolving.{merged-fit}
use Rattle.resolving.specs.Ground.{group_of}
use Rattle.resolving_laws.proofs.WellGround.{Readable}

abbrev pub Below64 : Effect → Type 0
Below64 e = (e.parameter < 64) × (e.covariate < 64)

module _ (c : Context) (good : Readable c) where
  written_below : (e : Effect) → Written c (group_of e) → Below64 e
  written_below e w =
      let p = place-below _ c.parameters e.parameter w.parameter-first in
      let v = place-below _ (covariates c) e.covariate w.covariate-first in
      (omega (arith, p, good.parameters-few), omega (arith, v, good.covariates-few))

  pub resolved_below : (ss : List Statement) (r : Resolved) → resolve c ss ≡ accepted r → All Below64 r.effects
  resolved_below ss r e =
      let a = resolved_as c ss r e in
      let s = a.settled in
      let stands = gives_accepted (all-stand c (look_up c (lets ss)) 0 ss) a.each in
      subst
      (λ (x : Resolved). All Below64 x.effects)
      (sym s.equals)
      (all_weaker (λ e k. written_below e k.0) (merged-fit c a.brought stands s.held.peace).known)

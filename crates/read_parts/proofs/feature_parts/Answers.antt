-- `read_parts::feature_parts` meets its contract: the definition has a clause for each arm. Assumes nothing.
use mathlib.Core.Path.{sym}
use Rattle.read_parts.specs.Apart.{feature_apart}
use Rattle.read_parts.proofs.feature_parts.Goals as goal

pub returns-in-Absorption : goal.returns-in-Absorption
unfolding feature_apart
returns-in-Absorption c = rw c.in-Absorption.is c.one.ensures

pub returns-in-Elimination : goal.returns-in-Elimination
unfolding feature_apart
returns-in-Elimination c = rw c.in-Elimination.is c.one-in-Elimination.ensures

pub returns-in-Peripherals : goal.returns-in-Peripherals
unfolding feature_apart
returns-in-Peripherals c = rw (c.in-Peripherals.is, sym c.some_modes.ensures) c.two.ensures

pub returns-in-Transits : goal.returns-in-Transits
unfolding feature_apart
returns-in-Transits c = rw (c.in-Transits.is, sym c.some_modes-in-Transits.ensures, sym c.transits.ensures) c.two-in-Transits.ensures

pub returns-in-Lagtime : goal.returns-in-Lagtime
unfolding feature_apart
returns-in-Lagtime c = rw c.in-Lagtime.is c.one-in-Lagtime.ensures

pub returns-in-Covariate : goal.returns-in-Covariate
unfolding feature_apart
returns-in-Covariate c = rw c.in-Covariate.is

pub returns-in-Allometry : goal.returns-in-Allometry
unfolding feature_apart
returns-in-Allometry c = rw (c.in-Allometry.is, sym c.some_name.ensures) c.two-in-Allometry.ensures

pub returns-in-DirectEffect : goal.returns-in-DirectEffect
unfolding feature_apart
returns-in-DirectEffect c = rw c.in-DirectEffect.is c.one-in-DirectEffect.ensures

pub returns-in-EffectComp : goal.returns-in-EffectComp
unfolding feature_apart
returns-in-EffectComp c = rw c.in-EffectComp.is c.one-in-EffectComp.ensures

pub returns-in-IndirectEffect : goal.returns-in-IndirectEffect
unfolding feature_apart
returns-in-IndirectEffect c = rw c.in-IndirectEffect.is c.two-in-IndirectEffect.ensures

pub returns-in-Metabolite : goal.returns-in-Metabolite
unfolding feature_apart
returns-in-Metabolite c = rw c.in-Metabolite.is c.one-in-Metabolite.ensures

pub returns-in-Iiv : goal.returns-in-Iiv
unfolding feature_apart
returns-in-Iiv c = rw c.in-Iiv.is c.two-in-Iiv.ensures

pub returns-in-Iov : goal.returns-in-Iov
unfolding feature_apart
returns-in-Iov c = rw c.in-Iov.is c.two-in-Iov.ensures

pub returns-in-Covariance : goal.returns-in-Covariance
unfolding feature_apart
returns-in-Covariance c = rw c.in-Covariance.is c.two-in-Covariance.ensures

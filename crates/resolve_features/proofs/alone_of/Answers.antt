-- `resolve_features::alone_of` meets its contract: in each arm the parts of the feature are those of its modes alone.
-- Assumes nothing.
use mathlib.Core.Path.{refl}
use native.Mathlib.Omega.{arith}
use Rattle.labels.specs.Label.{keywords}
use Rattle.read_parts.specs.Apart.{feature_apart}
use Rattle.resolve_features.proofs.alone_of.Goals as goal

pub returns-in-Absorption : goal.returns-in-Absorption
unfolding feature_apart keywords
returns-in-Absorption c = rw c.in-Absorption.is (refl, omega arith)

pub returns-in-Elimination : goal.returns-in-Elimination
unfolding feature_apart keywords
returns-in-Elimination c = rw c.in-Elimination.is (refl, omega arith)

pub returns-in-Lagtime : goal.returns-in-Lagtime
unfolding feature_apart keywords
returns-in-Lagtime c = rw c.in-Lagtime.is (refl, omega arith)

pub returns-in-DirectEffect : goal.returns-in-DirectEffect
unfolding feature_apart keywords
returns-in-DirectEffect c = rw c.in-DirectEffect.is (refl, omega arith)

pub returns-in-EffectComp : goal.returns-in-EffectComp
unfolding feature_apart keywords
returns-in-EffectComp c = rw c.in-EffectComp.is (refl, omega arith)

pub returns-in-Metabolite : goal.returns-in-Metabolite
unfolding feature_apart keywords
returns-in-Metabolite c = rw c.in-Metabolite.is (refl, omega arith)

pub returns-in_default : goal.returns-in_default
returns-in_default c = tt

-- `read_features::feature_with` meets its contract. Assumes nothing.
use Rattle.read_forms.specs.Forms.{feature_in}
use Rattle.read_features.proofs.feature_with.Goals as goal

pub returns-in-Absorption : goal.returns-in-Absorption
unfolding feature_in
returns-in-Absorption c = λ s. rw c.in-Absorption.is

pub returns-in-Elimination : goal.returns-in-Elimination
unfolding feature_in
returns-in-Elimination c = λ s. rw c.in-Elimination.is

pub returns-in-Lagtime : goal.returns-in-Lagtime
unfolding feature_in
returns-in-Lagtime c = λ s. rw c.in-Lagtime.is

pub returns-in-DirectEffect : goal.returns-in-DirectEffect
unfolding feature_in
returns-in-DirectEffect c = λ s. rw c.in-DirectEffect.is

pub returns-in-EffectComp : goal.returns-in-EffectComp
unfolding feature_in
returns-in-EffectComp c = λ s. rw c.in-EffectComp.is

pub returns-in-Metabolite : goal.returns-in-Metabolite
unfolding feature_in
returns-in-Metabolite c = λ s. rw c.in-Metabolite.is

-- Document 01, Merging: "An effect of a statement that is not explicit loses to an explicit one on the same pair. A mandatory pair that
-- remains from two statements is refused. An optional effect equal to a mandatory one in pair, effect and operator goes; repeats go."
use Rattle.std.specs.Prelude.{ℕ, Bool, true, false, not, ◌&&◌, List, [], eqb}
use Rattle.std.proofs.Math.Option.{Option}
use Rattle.text.specs.Lists.{any, keep, firsts, again, gather}
use Rattle.resolving.specs.Effects.{Effect}
use Rattle.resolving.specs.Brought.{Brought, defining, dropped, stays, brings}

abbrev pub same_pair : Effect → Effect → Bool
same_pair e f = eqb e.parameter f.parameter && eqb e.covariate f.covariate

-- "equal .. in pair, effect and operator"
abbrev pub same_form : Effect → Effect → Bool
same_form e f = same_pair e f && (eqb e.form f.form && eqb e.operator f.operator)

abbrev pub same_effect : Effect → Effect → Bool
same_effect e f = same_form e f && eqb e.optional f.optional

abbrev pub is_mandatory : Effect → Bool
is_mandatory e = eqb e.optional 0

-- all of a statement's effects
abbrev pub effects_in : Brought → List Effect
effects_in defining = []
effects_in dropped = []
effects_in (stays f) = []
effects_in (brings x es) = es

-- "An effect of a statement that is not explicit loses to an explicit one on the same pair": whether there is one.
abbrev pub explicit_on : Effect → Brought → Bool
explicit_on e defining = false
explicit_on e dropped = false
explicit_on e (stays f) = false
explicit_on e (brings true es) = any (same_pair e) es
explicit_on e (brings false es) = false

abbrev pub overridden : List Brought → Effect → Bool
overridden bs e = any (explicit_on e) bs

-- what remains of a statement's effects, where those that pass this test lose
abbrev pub remains : (Effect → Bool) → Brought → List Effect
remains loses defining = []
remains loses dropped = []
remains loses (stays f) = []
remains loses (brings true es) = es
remains loses (brings false es) = keep (λ e. not (loses e)) es

abbrev pub remaining : List Brought → List Effect
remaining bs = gather (remains (overridden bs)) bs

-- 17: "lowest index that forces a pair already forced by an earlier one"
abbrev pub forces_with : Effect → Effect → Bool
forces_with e f = is_mandatory e && is_mandatory f && same_pair e f

abbrev pub both_force : (Effect → Bool) → Brought → Brought → Bool
both_force loses b d = any (λ e. any (forces_with e) (remains loses d)) (remains loses b)

abbrev pub forced_again : List Brought → Option ℕ
forced_again bs = again (both_force (overridden bs)) bs

-- "An optional effect equal to a mandatory one in pair, effect and operator goes; repeats go."
abbrev pub also_mandatory : List Effect → Effect → Bool
also_mandatory es e = not (is_mandatory e) && any (λ f. is_mandatory f && same_form e f) es

abbrev pub merge : List Effect → List Effect
merge es = firsts same_effect (keep (λ e. not (also_mandatory es e)) es)

unfoldable pub merged : List Brought → List Effect
merged bs = merge (remaining bs)

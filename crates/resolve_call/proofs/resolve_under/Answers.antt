-- `resolve_call::resolve_under` meets its contract: the effects that stand packed are put where they are to be, and the working buffer is finished.
-- Assumes nothing.
use Prim.Native.Nat.{ℕ, ◌≤◌}
use mathlib.Core.Path.{◌≡◌, ◌∙◌, ap, sym, subst}
use mathlib.Core.List.{List, ◌++◌, map}
use lib.ListN.{length, take, drop}
use Rattle.reading.specs.Answer.{Answer}
use Rattle.resolving.specs.Resolve as definition
use Rattle.resolving.specs.Call.{resolving_call, lengths_of, effect_numbers}
use Rattle.resolve_merging.specs.Packing.{effect_of}
use Rattle.resolve_settling.specs.Answers.{effects_in, lent}
use Rattle.resolve_call.proofs.Packed.{effects-fit, effects-stand, effects-put}
use Rattle.resolve_call.proofs.resolve_under.Goals.{After-effect_count-count, Start}
use Rattle.resolve_call.proofs.resolve_under.Goals as goal

abbrev start : After-effect_count-count → Start
start m = (goal.at.After-effect_count-count m).Start

-- the call's answer
abbrev answer : After-effect_count-count → Answer definition.Resolved
answer m =
    let a = (start m).args in
    resolving_call a.limit a.block.now a.lists.now a.text.now (lent a.ground.now a.effects.now a.notes.now) (length a.work.now)

-- the working buffer as it was left
abbrev left : After-effect_count-count → List ℕ
left m = m.resolve_packed-resolved.new.work

counted : (m : After-effect_count-count) → m.effect_count-count.result ≡ effects_in (lengths_of (answer m))
counted m = m.effect_count-count.ensures ∙ ap effects_in m.resolve_packed-resolved.ensures.result_value

pub put_effects-requires : goal.put_effects-requires
put_effects-requires c =
    let a = (start (goal.at.put_effects-requires c).After-effect_count-count).args in (
      subst (λ (k : ℕ). k ≤ length a.effects.now) (sym (counted (goal.at.put_effects-requires c).After-effect_count-count))
          (effects-fit a.limit a.block.now a.lists.now a.text.now (lent a.ground.now a.effects.now a.notes.now) (length a.work.now)),
      subst (λ (k : ℕ). k ≤ length (left (goal.at.put_effects-requires c).After-effect_count-count)) (sym (counted (goal.at.put_effects-requires c).After-effect_count-count)) (effects-stand (answer (goal.at.put_effects-requires c).After-effect_count-count) (left (goal.at.put_effects-requires c).After-effect_count-count) c.resolve_packed-resolved.ensures.packed.packed),
    )

pub returns : goal.returns
returns c =
    let d = c.resolve_packed-resolved.ensures in
    let n = d.packed in
    let a = (start (goal.at.returns c).After-effect_count-count).args in (
      d.result_value,
      (
        n.text,
        (
          c.put_effects.ensures
              ∙ ap (λ (k : ℕ). map effect_numbers (map effect_of (take k (left (goal.at.returns c).After-effect_count-count))) ++ drop k a.effects.now) (counted (goal.at.returns c).After-effect_count-count)
              ∙ effects-put effect_numbers (answer (goal.at.returns c).After-effect_count-count) (left (goal.at.returns c).After-effect_count-count) a.effects.now n.packed,
          (n.remarks, c.finish.ensures ∙ n.left),
        ),
      ),
    )

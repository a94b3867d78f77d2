-- `resolve_merging_few::stands_among` meets its contract.
-- Assumes nothing.
use Rattle.std.proofs.Common.{ℕ, ◌+◌, ◌-◌, ◌≡◌, sym, ◌∙◌, ap, ◌||◌, Bool, take, drop, arith, rules, tests}
use Rattle.std.proofs.Math.Seq.{slice}
use Rattle.std.proofs.lemmas.List.{drop-take}
use Rattle.std.proofs.lemmas.Iterator.{YieldsList-from_slice}
use Rattle.std.proofs.lemmas.Iterator.Search.{any_from_yields_List}
use Rattle.text.specs.Lists.{any}
use Rattle.resolve_merging.proofs.Scans.{any-list_any}
use Rattle.resolve_merging_few.proofs.stands_among.Goals.{then-any, else-any}
use Rattle.resolve_merging_few.proofs.stands_among.Goals as goal

pub returns : goal.returns
returns g c = λ p h.
    let a = c.args in
    let first = take a.at a.work.now in
    let left = slice a.i a.n a.work.now in
    let end : a.i + (a.n - a.i) ≡ a.n = omega (arith, c.requires.2) in
    let part : take (a.n - a.i) (drop a.i a.work.now) ≡ left =
    sym (drop-take a.i (a.n - a.i) a.work.now) ∙ ap (λ (k : ℕ). drop a.i (take k a.work.now)) end in
    let e : c.any.result ≡ any p first =
    any_from_yields_List p _ _ c.any.result c.any.ensures.ran (YieldsList-from_slice first c.iter.ensures.rest) (λ x b q k. search (rules, tests, h))
    ∙ sym (any-list_any p first) in
    elim c.if-any.branch [
      | then-any w ↦ w.result-is ∙ w.if-any.true ∙ ap (λ (t : Bool). t || any p left) (sym w.if-any.true ∙ e)
      | else-any w ↦
          w.result-is
          ∙ any_from_yields_List p _ _ w.any-else-any.result w.any-else-any.ensures.ran (YieldsList-from_slice left (w.iter-else-any.ensures.rest ∙ part)) (λ x b q k. search (rules, tests, h))
          ∙ sym (any-list_any p left)
          ∙ ap (λ (t : Bool). t || any p left) (sym w.if-any.false ∙ e)
    ]

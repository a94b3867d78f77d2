-- `read_checks::check_counts` meets its contract. The invariant: what is left of the list decides what the whole list does. Assumes nothing.
use Rattle.std.specs.Prelude.{Err}
use Rattle.std.proofs.Common.{rules}
use mathlib.Core.Path.{◌≡◌, refl, ◌∙◌, sym}
use Prim.Native.Nat.{◌+◌, ◌-◌}
use native.Mathlib.Nat.{sub-zero}
use native.Mathlib.Omega.{arith}
use Rattle.reading.specs.Argument.{count_list}
use Rattle.read_forms.specs.declared.Fault.TheVariants.{WrongArgument}
use Rattle.read_forms.proofs.Entries.{first-listed}
use Rattle.read_forms.proofs.Lists.{items_are}
use Rattle.read_checks.proofs.Judging.{left-none, left-refused, left-next, count_fine, count-refused, count_word}
use Rattle.read_checks.proofs.check_counts.Goals as goal

pub loop-done-init : goal.loop-done-init
loop-done-init c = record { entered = rw sub-zero c.requires.1.are; whole = λ r e. rw sub-zero at e }

pub entry_at-entry-requires : goal.entry_at-entry-requires
entry_at-entry-requires c = (c.requires.0, first-listed 1 _ _ c.loop-done.invariant.entered (omega arith))

pub returns-then-is_word : goal.returns-then-is_word
returns-then-is_word c =
    let a = c.args in
    rw (items_are _ _ c.requires.1, c.wrong.ensures)
    (sym (left-refused c.loop-done.invariant (omega arith) c.entry_at-entry.ensures (record { fault = WrongArgument; place = a.bracket })
    (count_word a.limit a.bracket a.text.now c.entry_at-entry.result (sym c.is_word.ensures ∙ c.if-is_word.true))))

pub judge_count-requires : goal.judge_count-requires
judge_count-requires c = c.entry_at-entry.ensures.inside

pub returns-in_err-judge_count : goal.returns-in_err-judge_count
returns-in_err-judge_count c =
    let a = c.args in
    let r = c.in_err-judge_count.field-0.0 in
    let e : c.from_residual.result ≡ Err r = search rules in
    rw (items_are _ _ c.requires.1, e)
    (sym (left-refused c.loop-done.invariant (omega arith) c.entry_at-entry.ensures r
    (count-refused a.limit a.bracket a.text.now c.entry_at-entry.result r (sym c.is_word.ensures ∙ c.if-is_word.false)
    (rw c.in_err-judge_count.was at c.judge_count.ensures))))

pub loop-done-preserved : goal.loop-done-preserved
loop-done-preserved c =
    let a = c.args in
    let less : a.items.count - (c.loop-done._done + 1) ≡ a.items.count - c.loop-done._done - 1 = omega arith in
    rw (less, c.after_entry-cur.ensures)
    (left-next c.loop-done.invariant (omega arith) c.entry_at-entry.ensures
    (count_fine a.limit a.bracket a.text.now c.entry_at-entry.result _ (sym c.is_word.ensures ∙ c.if-is_word.false)
    (rw c.in_ok-judge_count.was at c.judge_count.ensures)))

pub returns : goal.returns
unfolding count_list
returns c = rw (items_are _ _ c.requires.1) (sym (left-none c.loop-done.invariant (omega arith) refl))

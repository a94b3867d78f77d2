-- `labels::same_word` meets its contract. The loop's invariant: the words have one length, and are the same if what is left of them from `i`
-- on is. The measure is the number of bytes left. Assumes nothing.
use mathlib.Core.Path.{refl, sym, ap}
use native.Mathlib.Omega.{arith}
use lib.ListN.{get_or}
use Rattle.labels.specs.Word.{lower}
use Rattle.labels.proofs.Words.{lower_ascii, lengths_differ, alike-on, alike-not, alike_end}
use Rattle.labels.proofs.same_word.Goals.{else-a-b-via-then-a-b+else-to_ascii_lowercase, else-a-b-via-else-a-b}
use Rattle.labels.proofs.same_word.Goals as goal

-- the bytes' lower cases differ
pub returns-then-to_ascii_lowercase : goal.returns-then-to_ascii_lowercase
returns-then-to_ascii_lowercase c =
    let a = get_or c.args.word.now c.loop-i.i 0 in
    let b = get_or c.args.label.now c.loop-i.i 0 in
    alike-not c.loop-i.invariant c.loop-i-test.true (λ e. c.if-to_ascii_lowercase.true (cc (lower_ascii a, lower_ascii b)))

-- where a turn goes on, the bytes are equal in lower case or as they are
pub loop-i-preserved : goal.loop-i-preserved
loop-i-preserved c =
    let a = get_or c.args.word.now c.loop-i.i 0 in
    let b = get_or c.args.label.now c.loop-i.i 0 in
    alike-on c.loop-i.invariant c.loop-i-test.true
    (elim c.else-a-b.branch [
      | else-a-b-via-then-a-b+else-to_ascii_lowercase w ↦ cc (lower_ascii a, lower_ascii b)
      | else-a-b-via-else-a-b w ↦ ap lower w.if-a-b.false
    ])

pub returns-then-word-label : goal.returns-then-word-label
returns-then-word-label c = sym (lengths_differ _ _ (omega arith))

pub loop-i-init : goal.loop-i-init
loop-i-init c = record { within = omega arith; even = omega arith; same = refl }

pub bounds-word-i : goal.bounds-word-i
bounds-word-i c = omega arith

pub bounds-label-i : goal.bounds-label-i
bounds-label-i c = omega arith

pub returns : goal.returns
returns c = alike_end c.loop-i.invariant c.loop-i-test.false

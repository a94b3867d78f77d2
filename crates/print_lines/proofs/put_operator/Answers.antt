-- `print_lines::put_operator` meets its contract: its test is the definition's. Assumes nothing.
use mathlib.Core.Path.{◌≡◌}
use Prim.Native.Nat.{ℕ}
use borrow.Author.Tests.{eq-eqb, ne_eqb}
use Rattle.text.specs.Bytes.{bytes}
use Rattle.lines.specs.Effects.{operator_word}
use Rattle.print_writing.proofs.Writing.{room-same}
use Rattle.print_lines.proofs.put_operator.Goals as goal

plus : (n : ℕ) → n ≡ 1 → operator_word n ≡ bytes " + "
unfolding operator_word
plus n e = rw (eq-eqb n 1 e)

star : (n : ℕ) → (n ≡ 1 → ⊥) → operator_word n ≡ bytes " * "
unfolding operator_word
star n e = rw (ne_eqb n 1 e)

pub put_all-requires : goal.put_all-requires
put_all-requires c =
    room-same _ (plus _ c.if-operator-eq1.true) c.requires

pub returns-then-operator-eq1 : goal.returns-then-operator-eq1
returns-then-operator-eq1 c =
    rw (plus _ c.if-operator-eq1.true) c.put_all.ensures

pub put_all-requires-2 : goal.put_all-requires-2
put_all-requires-2 c =
    room-same _ (star _ c.if-operator-eq1.false) c.requires

pub returns : goal.returns
returns c =
    rw (star _ c.if-operator-eq1.false) c.put_all-2.ensures

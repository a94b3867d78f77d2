-- `print_lines::put_optional` meets its contract: its test is the definition's. Assumes nothing.
use mathlib.Core.Path.{◌≡◌}
use Prim.Native.Nat.{ℕ}
use borrow.Author.Tests.{eq-eqb, ne_eqb}
use Rattle.text.specs.Bytes.{bytes}
use Rattle.lines.specs.Effects.{optional_word}
use Rattle.print_writing.proofs.Writing.{room-same}
use Rattle.print_lines.proofs.put_optional.Goals as goal

optional-mark : (n : ℕ) → n ≡ 1 → optional_word n ≡ bytes "optional\n"
unfolding optional_word
optional-mark n e = rw (eq-eqb n 1 e)

mandatory-mark : (n : ℕ) → (n ≡ 1 → ⊥) → optional_word n ≡ bytes "mandatory\n"
unfolding optional_word
mandatory-mark n e = rw (ne_eqb n 1 e)

pub put_all-requires : goal.put_all-requires
put_all-requires c =
    room-same _ (optional-mark _ c.if-optional-eq1.true) c.requires

pub returns-then-optional-eq1 : goal.returns-then-optional-eq1
returns-then-optional-eq1 c =
    rw (optional-mark _ c.if-optional-eq1.true) c.put_all.ensures

pub put_all-requires-2 : goal.put_all-requires-2
put_all-requires-2 c =
    room-same _ (mandatory-mark _ c.if-optional-eq1.false) c.requires

pub returns : goal.returns
returns c =
    rw (mandatory-mark _ c.if-optional-eq1.false) c.put_all-2.ensures

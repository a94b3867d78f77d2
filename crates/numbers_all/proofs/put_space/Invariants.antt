-- What the loop keeps, and what it counts down.
use Prim.Native.Nat.{ℕ, ◌-◌}
use mathlib.Core.Path.{◌≡◌}
use Rattle.reading.specs.Answer.{accepted}
use Rattle.reading.specs.Read.{read_text}
use Rattle.read_statements.proofs.Keeping.{first_ones}
use Rattle.read_space.specs.declared.Form.{Form}
use Rattle.read_space.specs.Space.{form_in}
use Rattle.numbers_all.proofs.Putting.{Putting}
use Rattle.numbers_all.proofs.put_space.Given as goal

abbrev pub invariant-loop-i : goal.invariant-loop-i
invariant-loop-i l =
    (limit : ℕ)
    → read_text limit l.text ≡ accepted (first_ones (form_in l.text) l.space.count l.space.forms)
    → Putting (λ (f : Form). f.statement) limit l.text l.initial.out l.out l.space.forms l.space.count l.i l.at

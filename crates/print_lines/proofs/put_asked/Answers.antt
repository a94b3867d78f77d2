-- `print_lines::put_asked` meets its contract: each arm is one of the lines that can be asked for. Assumes nothing.
use Rattle.print_lines.specs.Asked.{lines_in}
use Rattle.print_lines.proofs.put_asked.Goals as goal

pub returns-in-Ground : goal.returns-in-Ground
unfolding lines_in
returns-in-Ground c = rw c.in-Ground.is c.put_ground.ensures

pub returns-in-Effects : goal.returns-in-Effects
unfolding lines_in
returns-in-Effects c = rw c.in-Effects.is c.put_effects.ensures

pub returns-in-Notes : goal.returns-in-Notes
unfolding lines_in
returns-in-Notes c = rw c.in-Notes.is c.put_notes.ensures

-- What the loop keeps, and what it counts down.
use Prim.Native.Nat.{◌-◌}
use mathlib.Core.Path.{◌≡◌}
use lib.ListN.{length}
use Rattle.resolving.specs.Brought.{bring}
use Rattle.resolving.specs.Handed.{handed_context}
use Rattle.resolve_operands.specs.Entries.{meaning_in}
use Rattle.resolve_taking.proofs.Reading.{Reading, Ahead, text_statements}
use Rattle.resolve_taking.proofs.Gathering.{Gathering}
use Rattle.resolve_taking.proofs.Bringing.{Bringing}
use Rattle.resolve_taking.proofs.take_text.Given as goal

abbrev pub invariant-loop-next : goal.invariant-loop-next
invariant-loop-next l = Reading l.limit l.text l.forms l.count l.cur.at l.later.at l.start l.end

abbrev pub decreases-loop-next : goal.decreases-loop-next
decreases-loop-next l = length l.text - l.cur.at

abbrev pub invariant-loop-i : goal.invariant-loop-i
invariant-loop-i l =
    Gathering l.text (text_statements l.limit l.text) l.lets l.n l.i
    × Ahead l.limit l.text (text_statements l.limit l.text) l.i l.from.at
    × (length l.lets ≡ length l.initial.lets)

abbrev pub invariant-loop-k : goal.invariant-loop-k
invariant-loop-k l =
    Bringing (bring (handed_context l.block l.lists) (meaning_in l.text l.lets l.n (handed_context l.block l.lists))) (text_statements l.limit l.text) l.k l.initial.terms l.initial.dropped l.tally
    l.terms l.dropped l.initial.out l.out
    × Ahead l.limit l.text (text_statements l.limit l.text) l.k l.later.at
    × (length l.out ≡ length l.initial.out)
    × (length l.terms ≡ length l.initial.terms)
    × (length l.dropped ≡ length l.initial.dropped)

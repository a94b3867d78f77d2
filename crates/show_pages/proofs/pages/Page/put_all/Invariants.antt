-- What the loop keeps: so many bytes are put.
use Rattle.std.proofs.Common.{take}
use Rattle.show_pages.specs.Kept.{Puts}
use Rattle.show_pages.proofs.pages.Page.put_all.Given as goal

abbrev pub invariant-loop-byte : goal.invariant-loop-byte
invariant-loop-byte l = Puts l.initial.self l.self (take l.byte-index l.bytes)

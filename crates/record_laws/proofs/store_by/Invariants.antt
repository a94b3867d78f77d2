-- So many of the records stand there, and those behind them are as they were.
use Rattle.std.proofs.Common.{◌≡◌}
use Rattle.record_laws.proofs.Stored.{stored}
use Rattle.record_laws.proofs.store_by.Given as goal

abbrev pub invariant-loop-i : goal.invariant-loop-i
invariant-loop-i g l = l.records ≡ stored g.U.Packing.unpack l.packed l.initial.records l.i

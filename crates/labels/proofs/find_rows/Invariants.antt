-- What the loop keeps.
use Rattle.labels.proofs.Scanning.{Passed}
use Rattle.labels.proofs.find_rows.Given as goal

abbrev pub invariant-loop-place : goal.invariant-loop-place
invariant-loop-place l = Passed l.word l.table l.first l.count l.place

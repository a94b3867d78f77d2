-- What the functions that read a whole text answer, as answers of the definition of reading.
use Rattle.std.specs.Prelude.{ℕ, List}
use Rattle.std.proofs.Math.Option.{Option}
use Rattle.std.proofs.Math.ListN.{get_elem?}
use Rattle.reading.specs.Statement.{Statement}
use Rattle.reading.specs.Answer.{Answer, accepted, refused}

-- the statement at an index of those that were read, if there are so many
abbrev pub indexed : ℕ → Answer (List Statement) → Answer (Option Statement)
indexed i (accepted ss) = accepted (get_elem? ss i)
indexed i (refused k p) = refused k p

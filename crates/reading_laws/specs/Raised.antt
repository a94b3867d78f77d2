-- What becomes of statements where their text stands so many bytes further on.
use Rattle.std.specs.Prelude.{ℕ, ◌+◌, List}
use Rattle.reading.specs.Statement.{Statement}
use Rattle.reading.specs.Answer.{Answer}
use Rattle.reading_laws.specs.Moved.{move_statement, move_read}

-- a place so many bytes further on
abbrev pub further : ℕ → ℕ → ℕ
further d p = p + d

abbrev pub raise_statement : ℕ → Statement → Statement
raise_statement d s = move_statement (further d) s

abbrev pub raise_read : ℕ → Answer (List Statement) → Answer (List Statement)
raise_read d r = move_read (further d) r

-- Document 01, Faults by cause: the faults of resolving by their numbers. The place of 13 and 17, and of 14 to 16, is a statement's index;
-- that of 12, 18 and 19 is 0.
use Rattle.std.specs.Prelude.{ℕ}

-- context not as the paper says
abbrev pub wrong_context : ℕ
wrong_context = 12

-- second LET of a key
abbrev pub second_let : ℕ
second_let = 13

-- unknown symbol, or one whose template or block is missing
abbrev pub unknown_symbol : ℕ
unknown_symbol = 14

-- name not in the model
abbrev pub unknown_name : ℕ
unknown_name = 15

-- effect against the covariate's kind
abbrev pub wrong_kind : ℕ
wrong_kind = 16

-- pair forced by two statements
abbrev pub forced_twice : ℕ
forced_twice = 17

-- over 2,048 effects before merging; over 256 ground statements; ground text over 16,384 bytes
abbrev pub too_large : ℕ
too_large = 18

-- an output shorter than its answer; a working buffer shorter than the call's stated length
abbrev pub too_short : ℕ
too_short = 19

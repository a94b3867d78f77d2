-- One statement alone, read to its `)`: what code that reads token by token is held to. `read_from` reads a statement in the same way.
use Rattle.std.specs.Prelude.{ℕ}
use Rattle.tokens.specs.Token.{Tokens, finish, bad, ◌▸◌}
use Rattle.reading.specs.Statement.{Statement}
use Rattle.reading.specs.Syntax.{State, Step, more, made, stop, turn}

-- The statement with the tokens after it, or the refusal.
pub data One : Type 0 where
  whole : Statement → Tokens → One
  halted : ℕ → ℕ → One

abbrev pub one_step : Step → Tokens → (State → One) → One
one_step (more s) ts f = f s
one_step (made s) ts f = whole s ts
one_step (stop k p) ts f = halted k p

-- the rest of a statement of which so much was read
unfoldable pub read_one : ℕ → ℕ → State → Tokens → One
read_one limit size s finish = halted 3 size
read_one limit size s (bad o) = halted 2 o
read_one limit size s (t ▸ ts) = one_step (turn limit s t.place t.shape) ts (λ s'. read_one limit size s' ts)

-- A test of all the tokens of a text.
use Rattle.std.specs.Prelude.{Bool, true, ◌&&◌}
use Rattle.tokens.specs.Token.{Tokens, finish, bad, ◌▸◌}
use Rattle.tokens.specs.Spelling.{is_shape}

-- every token has a shape that tokens have
abbrev pub all_shapes : Tokens → Bool
all_shapes finish = true
all_shapes (bad o) = true
all_shapes (t ▸ ts) = is_shape t.shape && all_shapes ts

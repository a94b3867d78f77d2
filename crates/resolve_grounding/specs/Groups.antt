-- A group's ground statement, by its numbers, and the bytes of its operator.
use Rattle.std.specs.Prelude.{ℕ, List}
use Rattle.tokens.specs.Spelling.{spell_all}
use Rattle.reading.specs.Statement.{Statement}
use Rattle.canonical.specs.Canonical.{operator_shapes}
use Rattle.resolving.specs.Context.{Context}
use Rattle.resolving.specs.Ground.{ground_covariate, operator_as}
use Rattle.print_statements.specs.Bytes.{behind}

abbrev pub group_statement : Context → ℕ → ℕ → List ℕ → ℕ → ℕ → Statement
group_statement c p v fs o m = ground_covariate c (record { parameter = p; covariate = v; operator = o; optional = m }) fs

-- "Of the operators only `+` prints", behind its `,`
abbrev pub sign_bytes : ℕ → List ℕ
sign_bytes o = spell_all (behind (operator_shapes (operator_as o)))

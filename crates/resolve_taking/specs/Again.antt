-- Statements that are kept, and those that are read again.
use Rattle.std.specs.Prelude.{ℕ, suc, ◌+◌, ◌<◌, ◌≤◌, cond, List, ◌∷◌, ◌≡◌, eqb}
use Rattle.tokens.specs.declared.Cursor.{Cursor}
use Rattle.reading.specs.Statement as reading
use Rattle.reading.specs.Answer.{accepted}
use Rattle.reading.specs.Read.{between}
use Rattle.read_forms.specs.declared.Statement.{Statement}
use Rattle.read_forms.specs.declared.Statement.TheVariants as form
use Rattle.read_forms.specs.Forms.{statement_in}
use Rattle.read_statements.specs.Answers.{reading_at}
use Rattle.read_space.specs.declared.Form.{Form}
use Rattle.resolve_taking.specs.declared.Again.{Again}

-- the index behind the last LET, with one statement more
unfoldable pub end_after : Statement → ℕ → ℕ → ℕ
end_after (form.Let name values) i end = i + 1
end_after (form.Feature f) i end = end

-- how many statements stand in front of the first LET, with one statement more, where the last LET stands just before `end`
abbrev pub start_after : ℕ → ℕ → ℕ → ℕ
start_after i start end = cond (eqb end 0) (i + 1) start

-- a statement that was read again: it is the one that stands here, and the others stand behind it
pub record Reread (limit : ℕ) (s : List ℕ) (at i : ℕ) (x : reading.Statement) (xs : List reading.Statement) (r : Again) : Type 0 where
  pub same : statement_in s r.statement ≡ x
  pub others : reading_at limit s (suc i) between r.next.at ≡ accepted xs
  pub further : at < r.next.at

-- The statement at an index: of the first 32 it is the one that was kept, and any other is read again.
pub record AgainAs (limit : ℕ) (s : List ℕ) (kept : Form) (later : Cursor) (i : ℕ) (r : Again) : Type 0 where
  pub near : i < 32 → (r.statement ≡ kept.statement) × (r.next ≡ later)
  pub far :
      32 ≤ i
      → (x : reading.Statement) (xs : List reading.Statement)
      → reading_at limit s i between later.at ≡ accepted (x ∷ xs)
      → Reread limit s later.at i x xs r

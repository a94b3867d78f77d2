-- What is known of the statements that a text is read as: they are well formed, their names lie in the text, and they are not longer than a
-- text may be.
use Rattle.std.specs.Prelude.{ℕ, ◌≤◌, ◌<◌, true, List, ◌≡◌, length, get_or}
use Rattle.tokens.specs.Spelling.{spell_all}
use Rattle.reading_laws.specs.Spelled.{as_read}
use Rattle.canonical.specs.Canonical.{statement_shapes}
use Rattle.read_forms.specs.declared.Statement as form
use Rattle.read_forms.specs.Forms.{statement_in}
use Rattle.read_space.specs.declared.Form.{Form}
use Rattle.read_space.specs.declared.Space.{Space}

-- a statement of a text that was read
pub record Fit (s : List ℕ) (st : form.Statement) : Type 0 where
  pub limit : ℕ
  pub read : as_read limit (length s) (statement_in s st) ≡ true
  pub short : length (spell_all (statement_shapes (statement_in s st))) ≤ 16384

abbrev pub FitAll : List ℕ → Space → Type 0
FitAll s r = (d : Form) (k : ℕ) → k < r.count → Fit s (get_or r.forms k d).statement

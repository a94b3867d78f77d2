-- What is claimed of a canonical text: Count, Statement and Print on it, beside the same calls on the text that it is the canonical text of.
use Rattle.std.specs.Prelude.{ℕ, ◌≤◌, List, ◌≡◌, length}
use Rattle.reading.specs.Statement.{Statement}
use Rattle.reading.specs.Answer.{Answer, accepted, refused}
use Rattle.canonical.specs.Print.{print_text}
use Rattle.canonical_laws.specs.Forgotten.{forget}
use Rattle.reading.specs.Calls.{counting, stating}

-- a statement with its names and symbols compared as bytes: where they stand is forgotten
abbrev pub unplaced : Answer Statement → Answer Statement
unplaced (accepted s) = accepted (forget s)
unplaced (refused n p) = refused n p

-- The canonical text is accepted with as many statements as the text, is not longer, has the same statements, and prints as itself.
pub record Canonical (limit : ℕ) (text bytes : List ℕ) : Type 0 where
  pub count : counting limit bytes ≡ counting limit text
  pub short : length bytes ≤ length text
  pub same : (i : ℕ) → unplaced (stating limit bytes i) ≡ unplaced (stating limit text i)
  pub prints : print_text limit bytes ≡ accepted bytes

-- A text's statements one after the other as they are printed, and what Print answers.
use Rattle.std.specs.Prelude.{Option, Some, None, Result, Ok, Err, ℕ, zero, suc, List, [], ◌∷◌, ◌++◌, ◌≡◌, length}
use Prim.Native.Char.{code}
use Rattle.tokens.specs.Spelling.{spell_all}
use Rattle.reading.specs.Statement.{Statement}
use Rattle.reading.specs.Answer.{accepted}
use Rattle.canonical.specs.Canonical.{statement_shapes, canonical}
use Rattle.canonical.specs.Print.{print_text, Answers}
use Rattle.print_writing.specs.Written.{Written}
use Rattle.reading.specs.Read.{between, read_text}
use Rattle.read_statements.specs.Answers.{reading_at}
use Rattle.read_forms.specs.declared.Refusal.{Refusal}
use Rattle.read_forms.specs.Faults.{refused_by}

-- a text that is read as statements
pub record Accepted (limit : ℕ) (s : List ℕ) : Type 0 where
  pub statements : List Statement
  pub read : read_text limit s ≡ accepted statements

-- the canonical text of an accepted text was written from the buffer's start on
abbrev pub Prints : ℕ → List ℕ → List ℕ → List ℕ → ℕ → Type 0
Prints limit s before after r = (ss : List Statement) → read_text limit s ≡ accepted ss → Written before 0 (canonical ss) after r

-- The answer of printing with the forms kept, of which there may be too many: nothing is written but a canonical text.
unfoldable pub KeptAs : ℕ → List ℕ → List ℕ → List ℕ → Result (Option ℕ) Refusal → Type 0
KeptAs limit s before after (Ok (Some n)) = Answers (print_text limit s) before after (accepted n)
KeptAs limit s before after (Ok None) = after ≡ before
KeptAs limit s before after (Err r) = (reading_at limit s 0 between 0 ≡ refused_by r) × (after ≡ before)

-- What the statements that are kept stand for.
use Rattle.std.specs.Prelude.{ℕ, ◌≤◌, List, map, ◌≡◌, length, take, Result}
use Rattle.reading.specs.Statement.{Statement}
use Rattle.reading.specs.Answer.{Answer}
use Rattle.read_forms.specs.Forms.{statement_in}
use Rattle.read_forms.specs.declared.Refusal.{Refusal}
use Rattle.read_forms.specs.Faults.{answered}
use Rattle.read_space.specs.declared.Form.{Form}
use Rattle.read_space.specs.declared.Space.{Space}

-- the statements, in a text
abbrev pub form_in : List ℕ → Form → Statement
form_in s f = statement_in s f.statement

abbrev pub statements_in : List ℕ → Space → List Statement
statements_in s r = map (form_in s) (take r.count r.forms)

abbrev pub ending_as : Result Unit Refusal → List Statement → Answer (List Statement)
ending_as r ss = answered (λ (_ : Unit). ss) r

unfoldable pub space_as : List ℕ → Space → Answer (List Statement)
space_as s r = ending_as r.ending (statements_in s r)

-- there are at most 256, in an array of so many
pub record Whole (r : Space) : Type 0 where
  pub wide : length r.forms ≡ 256
  pub few : r.count ≤ 256

-- What the functions that judge arguments answer, beside what `answered` says of all of them.
use Rattle.std.specs.Prelude.{ℕ, ◌+◌, ◌≤◌, Bool, true, false, cond, List, eqb}
use Rattle.tokens.specs.Next.{token_at}
use Rattle.labels.specs.declared.Family.{Family}
use Rattle.reading.specs.Statement.{Name, Item}
use Rattle.reading.specs.Statement as statement
use Rattle.reading.specs.Answer.{Answer, accepted, ◌>>=◌}
use Rattle.reading.specs.Argument.{firsts, mode_list}
use Rattle.read_forms.specs.declared.Kind as kinds
use Rattle.read_forms.specs.declared.Kind.TheVariants as kind
use Rattle.read_forms.specs.Items.{tokens_from, name_in, kind_as, Entered}
use Rattle.read_forms.specs.Fits.{InText}
use Rattle.read_checks.specs.declared

-- modes of an array, repeats gone
abbrev pub modes_listed : Family → List Item → Answer statement.Modes
modes_listed f is = mode_list f is >>= λ ms. accepted (statement.modes (firsts ms))

-- what a token of a list is as an entry
abbrev pub kind_of : ℕ → kinds.Kind
kind_of k = cond (eqb k 1) kind.Number kind.Word

abbrev pub of_word : kinds.Kind → Bool
of_word kind.Word = true
of_word kind.Number = false

-- the entry as the definition of reading has it
abbrev pub entry_in : List ℕ → declared.Entry.Entry → Item
entry_in s r = record { kind = kind_as r.kind; name = name_in s r.name }

-- where the entry behind an entry is read from: behind the token that follows it, which is a `,` or stands at the list's end
unfoldable pub goes_on : List ℕ → declared.Entry.Entry → ℕ
goes_on s r = (token_at s r.next.at).next.at

-- The entry of a list that stands at an offset or after it: its name lies in the text, and what is left of the list is read from behind it and the
-- token that follows it.
pub record NextEntry (s : List ℕ) (o : ℕ) (r : declared.Entry.Entry) : Type 0 where
  pub inside : InText s r.name
  pub here : Entered (tokens_from s o) (entry_in s r) (tokens_from s (goes_on s r))
  pub ahead : o ≤ r.name.offset
  pub behind : r.name.offset + r.name.length ≤ goes_on s r

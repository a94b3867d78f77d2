-- What a text's statements bring, with all that was known on the way: the statements, what their symbols mean, and the ground statements of those
-- that stay. And what is answered where there is a fault: the definition's refusal.
use Rattle.read_forms.specs.Faults.{refused_by}
use Rattle.std.specs.Prelude.{ℕ, ◌≤◌, ◌<◌, true, List, ◌≡◌, length}
use Rattle.reading.specs.Statement.{Statement}
use Rattle.reading.specs.Answer.{accepted, refused}
use Rattle.reading.specs.Read.{read_text}
use Rattle.print_writing.specs.Written.{Written}
use Rattle.canonical.specs.Lines.{rest_of}
use Rattle.text.specs.Lists.{gather}
use Rattle.resolving.specs.Brought.{bring, each_from}
use Rattle.resolving.specs.Ground.{staying}
use Rattle.resolving.specs.Handed.{is_handed, handed_context, resolve_handed}
use Rattle.resolve_operands.specs.Entries.{meaning_in}
use Rattle.resolve_statements.specs.declared.Tally.{Tally}
use Rattle.resolve_statements.specs.Tallies.{AllBrings}
use Rattle.read_forms.specs.declared.Refusal.{Refusal}
use Rattle.std.specs.Prelude as prelude
use Rattle.resolve_taking.specs.Collected.{CollectedAll}

pub record TextBrings (limit : ℕ) (s b l : List ℕ) (ts ds out : List ℕ) (ts' ds' out' : List ℕ) (u : Tally) : Type 0 where
  pub handed : is_handed b l ≡ true
  pub statements : List Statement
  pub read : read_text limit s ≡ accepted statements
  pub most : length statements ≤ 256
  pub run : List ℕ
  pub n : ℕ
  pub collected : CollectedAll s statements run n
  pub brought : AllBrings (each_from (bring (handed_context b l) (meaning_in s run n (handed_context b l))) 0 statements) ts ds u ts' ds'
  pub text : Written out 0 (rest_of 0 (gather staying brought.what)) out' u.ground

-- A text has at most 256 statements, so 1,024 numbers have room for its LETs.
unfoldable pub TakenAs : ℕ → List ℕ → List ℕ → List ℕ → List ℕ → List ℕ → List ℕ → List ℕ → List ℕ → List ℕ → List ℕ → prelude.Option (prelude.Result Tally Refusal) → Type 0
TakenAs limit s b l lets ts ds out ts' ds' out' (prelude.Some (prelude.Ok u)) = TextBrings limit s b l ts ds out ts' ds' out' u
TakenAs limit s b l lets ts ds out ts' ds' out' (prelude.Some (prelude.Err r)) = resolve_handed limit b l s ≡ refused_by r
TakenAs limit s b l lets ts ds out ts' ds' out' prelude.None = length lets < 1024

-- `text_lines::answer_statement` is safe and ends: the lists of a value have at most 64 entries. Assumes nothing.
use Prim.Native.Nat.{◌≤◌}
use mathlib.Core.Path.{subst}
use Rattle.std.specs.Prelude.{Result}
use Rattle.read_forms.specs.declared.Statement.{Statement}
use Rattle.read_forms.specs.declared.Refusal.{Refusal}
use Rattle.read_values.specs.Lists.{found_lists}
use Rattle.replay_requests.proofs.text_lines.answer_statement.Goals as goal

abbrev Few : Result Statement Refusal → Type 0
Few x = ((found_lists x).first.count ≤ 64) × ((found_lists x).second.count ≤ 64) × ((found_lists x).counts.count ≤ 64)

pub put_statement-requires : goal.put_statement-requires
put_statement-requires c =
    let u = c.value_under-value.ensures.1 in
    subst Few c.in-Ok.is (u.few-first, u.few-second, u.few-counts)

-- `replay_requests::statements::put_statement` is safe and ends: its keyword is one of the table, and its lists have at most 64 entries. Assumes nothing.
use mathlib.Core.Path.{sym, subst}
use Rattle.replay_requests.proofs.Short.{Short, short}
use Rattle.replay_requests.proofs.statements.put_statement.Goals.{After-parts_of-parts}
use Rattle.replay_requests.proofs.statements.put_statement.Goals as goal

told : (c : After-parts_of-parts) → Short c.parts_of-parts.result
told c =
    subst Short (sym c.parts_of-parts.ensures) (short c.args.statement c.requires)

pub put_keyword-requires : goal.put_keyword-requires
put_keyword-requires c = (told (goal.at.put_keyword-requires c).After-parts_of-parts).known

pub put_part-requires : goal.put_part-requires
put_part-requires c = (told (goal.at.put_part-requires c).After-parts_of-parts).first

pub put_part-requires-2 : goal.put_part-requires-2
put_part-requires-2 c = (told (goal.at.put_part-requires-2 c).After-parts_of-parts).second

pub put_part-requires-3 : goal.put_part-requires-3
put_part-requires-3 c = (told (goal.at.put_part-requires-3 c).After-parts_of-parts).third

pub put_part-requires-4 : goal.put_part-requires-4
put_part-requires-4 c = (told (goal.at.put_part-requires-4 c).After-parts_of-parts).fourth

-- `numbers_statement::put_parts` meets its contract: the keyword, and the four parts. Assumes nothing.
use mathlib.Core.List.{◌++◌}
use Rattle.canonical.specs.Numbers.{head_numbers}
use Rattle.print_writing.proofs.Going.{going, further, finished}
use Rattle.numbers_statement.specs.Ready.{Ready}
use Rattle.numbers_statement.specs.Entries.{numbers_in}
use Rattle.numbers_statement.proofs.Pieces.{ready_same, ready_left, ready_first}
use Rattle.numbers_statement.proofs.Whole.{pieces, parts_numbers_lem}
use Rattle.numbers_statement.proofs.put_parts.Goals.{Start}
use Rattle.numbers_statement.proofs.put_parts.Goals as goal

ready : (a : Start) → Ready a.args.at (pieces a.args.text.now a.args.parts)
ready a = ready_same (parts_numbers_lem a.args.text.now a.args.parts) a.requires.2

pub put_head-first-requires : goal.put_head-first-requires
put_head-first-requires c =
    let r = c.args.parts in
    let s = c.args.text.now in
    ready_first (head_numbers r.keyword r.optional)
    (numbers_in s r.first ++ (numbers_in s r.second ++ (numbers_in s r.third ++ numbers_in s r.fourth)))
    (ready (goal.at.put_head-first-requires c).Start) (going c.args.out.now _ _)

pub put_part-second-requires : goal.put_part-second-requires
put_part-second-requires c =
    let r = c.args.parts in
    let s = c.args.text.now in (
      c.requires.0,
      c.requires.1.first,
      ready_first (numbers_in s r.first) (numbers_in s r.second ++ (numbers_in s r.third ++ numbers_in s r.fourth)) (ready (goal.at.put_part-second-requires c).Start)
          (further (going _ _ _) c.put_head-first.ensures),
    )

pub put_part-third-requires : goal.put_part-third-requires
put_part-third-requires c =
    let r = c.args.parts in
    let s = c.args.text.now in (
      c.requires.0,
      c.requires.1.second,
      ready_first (numbers_in s r.second) (numbers_in s r.third ++ numbers_in s r.fourth) (ready (goal.at.put_part-third-requires c).Start)
          (further (further (going _ _ _) c.put_head-first.ensures) c.put_part-second.ensures),
    )

pub put_part-fourth-requires : goal.put_part-fourth-requires
put_part-fourth-requires c =
    let r = c.args.parts in
    let s = c.args.text.now in (
      c.requires.0,
      c.requires.1.third,
      ready_first (numbers_in s r.third) (numbers_in s r.fourth) (ready (goal.at.put_part-fourth-requires c).Start)
          (further (further (further (going _ _ _) c.put_head-first.ensures) c.put_part-second.ensures) c.put_part-third.ensures),
    )

pub put_part-requires : goal.put_part-requires
put_part-requires c = (
  c.requires.0,
  c.requires.1.fourth,
  ready_left (ready (goal.at.put_part-requires c).Start)
      (further (further (further (further (going _ _ _) c.put_head-first.ensures) c.put_part-second.ensures) c.put_part-third.ensures)
      c.put_part-fourth.ensures),
)

pub returns : goal.returns
returns c =
    rw (parts_numbers_lem c.args.text.now c.args.parts)
    (finished
    (further (further (further (further (going _ _ _) c.put_head-first.ensures) c.put_part-second.ensures) c.put_part-third.ensures)
    c.put_part-fourth.ensures)
    c.put_part.ensures)

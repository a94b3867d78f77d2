-- `print_statements::put_statement` meets its contract: a form's parts are its statement's. Assumes nothing.
use mathlib.Core.Path.{sym}
use Rattle.read_parts.proofs.Meaning.{taken}
use Rattle.print_writing.proofs.Writing.{room-same}
use Rattle.print_statements.proofs.Bytes.{statement-bytes}
use Rattle.print_statements.proofs.put_statement.Goals as goal

pub put_parts-requires : goal.put_parts-requires
put_parts-requires c =
    let t = taken c.args.text.now c.args.statement in
    rw c.parts_of.ensures (
      c.requires.0,
      c.requires.1,
      c.requires.2,
      c.requires.3,
      t.written,
      t.known,
      room-same c.args.at (statement-bytes c.args.text.now c.args.statement) c.requires.4,
    )

pub returns : goal.returns
returns c =
    rw (statement-bytes c.args.text.now c.args.statement, sym c.parts_of.ensures) c.put_parts.ensures

-- `resolve_symbols::has_let` meets its contract: there is a last LET of the key, or none. Assumes nothing.
use mathlib.Core.Path.{◌∙◌, ap}
use Rattle.std.specs.Option.{is_some}
use Rattle.resolve_symbols.proofs.Lets.{has_told}
use Rattle.resolve_symbols.proofs.has_let.Goals as goal

pub returns : goal.returns
returns c =
    let a = c.args in
    rw (← c.spelling.ensures)
    (c.is_some.ensures ∙ ap is_some c.find_let.ensures ∙ has_told a.text.now a.lets.now c.spelling.result.now a.n)

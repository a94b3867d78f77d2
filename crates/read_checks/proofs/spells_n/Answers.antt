-- `read_checks::spells_n` meets its contract, by the length and the byte. Assumes nothing.
use mathlib.Core.Path.{◌≡◌, ◌∙◌, sym}
use lib.Dec.{eqb}
use lib.ListN.{get_or, take, drop}
use Rattle.text.specs.Bytes.{bytes}
use Rattle.labels.specs.Word.{lower, same_word}
use Rattle.read_checks.proofs.Arguments.{no_n, n_byte, lower-n}
use Rattle.read_checks.proofs.spells_n.Goals.{Else-name-ne1}
use Rattle.read_checks.proofs.spells_n.Goals as goal

-- a name of one byte, by that byte
here :
    (c : Else-name-ne1)
    → same_word (take c.args.name.length (drop c.args.name.offset c.args.text.now))
    (bytes "N")
    ≡ eqb (lower (get_or c.args.text.now c.args.name.offset 0)) 110
here c =
    let a = c.args in
    n_byte a.text.now a.name.offset a.name.length c.requires c.if-name-ne1.false

pub returns-then-name-ne1 : goal.returns-then-name-ne1
returns-then-name-ne1 c = let a = c.args in sym (no_n a.text.now a.name.offset a.name.length c.requires c.if-name-ne1.true)

pub returns-then-b-eq78 : goal.returns-then-b-eq78
returns-then-b-eq78 c = sym (here (goal.at.returns-then-b-eq78 c).Else-name-ne1 ∙ rw c.if-b-eq78.true)

pub returns : goal.returns
returns c = sym (here (goal.at.returns c).Else-name-ne1 ∙ lower-n _ c.if-b-eq78.false)

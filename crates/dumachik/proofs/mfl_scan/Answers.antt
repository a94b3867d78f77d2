-- `dumachik::mfl_scan` meets its contract: the scan's answer, as a number. Assumes nothing.
use mathlib.Core.Path.{◌∙◌, ap, sym}
use lib.ListN.{length}
use Rattle.dumachik.specs.Scan.{stray_at}
use Rattle.dumachik.proofs.mfl_scan.Goals as goal

pub returns-in-None : goal.returns-in-None
returns-in-None c =
    let text = c.args.text.now in
    ap (stray_at (length text)) (sym c.in-None.is ∙ c.scan_text.ensures)

pub returns-in-Some : goal.returns-in-Some
returns-in-Some c =
    let text = c.args.text.now in
    ap (stray_at (length text)) (sym c.in-Some.is ∙ c.scan_text.ensures)

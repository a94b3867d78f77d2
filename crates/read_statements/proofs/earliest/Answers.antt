-- `read_statements::earliest` meets its contract: a byte that starts no token comes before what the statements are refused for. Assumes nothing.
use mathlib.Core.Path.{◌∙◌, sym}
use Rattle.read_statements.proofs.Texts.{stray-text, whole-text}
use Rattle.read_statements.proofs.earliest.Goals as goal

pub returns-in-Some : goal.returns-in-Some
returns-in-Some c =
    λ limit h e. stray-text limit c.args.text.now h c.in-Some.at (sym c.scan.ensures ∙ c.in-Some.is)

pub returns-in-None : goal.returns-in-None
returns-in-None c =
    λ limit h e. whole-text limit c.args.text.now h (sym c.scan.ensures ∙ c.in-None.is) ∙ e

-- `resolve_grounding::whole_modes` meets its contract.
-- Assumes nothing.
use mathlib.Core.Path.{◌∙◌, ap, sym}
use Rattle.reading.specs.Statement.{modes}
use Rattle.read_forms.specs.Forms.{modes_in}
use Rattle.resolving.specs.Brought.{whole}
use Rattle.resolve_grounding.proofs.whole_modes.Goals as goal

pub returns-in-Wildcard : goal.returns-in-Wildcard
unfolding modes_in whole
returns-in-Wildcard c =
    ap modes c.whole_family.ensures ∙ sym (ap (λ m. whole c.args.family (modes_in m)) c.in-Wildcard.is)

pub returns-in-List : goal.returns-in-List
unfolding modes_in whole
returns-in-List c =
    sym (ap (λ m. whole c.args.family (modes_in m)) c.in-List.is)

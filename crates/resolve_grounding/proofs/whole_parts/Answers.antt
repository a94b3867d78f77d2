-- `resolve_grounding::whole_parts` meets its contract, part by part.
-- Assumes nothing.
use Rattle.resolve_grounding.proofs.Wholes.{parts_whole}
use Rattle.resolve_grounding.proofs.whole_parts.Goals as goal

pub returns : goal.returns
returns c =
    parts_whole c.args.parts c.whole_part.ensures c.whole_part-2.ensures c.whole_part-3.ensures c.whole_part-4.ensures

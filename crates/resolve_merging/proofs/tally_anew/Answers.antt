-- `resolve_merging::tally_anew` meets its contract: cleared, and then as the run leaves it.
-- Assumes nothing.
use Rattle.resolve_merging.specs.Passes.{step_of}
use Rattle.resolve_merging.proofs.TableLaws.{anew}
use Rattle.resolve_merging.proofs.tally_anew.Goals as goal

pub returns : goal.returns
returns g c = anew (step_of g.S.Step.which) c.requires c.tally.ensures c.tally-2.ensures

-- `resolve_merging::group` meets its contract: the table is cleared, the groups listed, and then their forms.
-- Assumes nothing.
use Rattle.resolve_merging.proofs.Settling.{ready_cleared}
use Rattle.resolve_merging.proofs.GroupMeans.{listed_plain, listed-numbers, many-groups, all-groups}
use Rattle.resolve_merging.proofs.group.Goals as goal

pub list_groups-k-requires : goal.list_groups-k-requires
list_groups-k-requires c = (c.requires.0, ready_cleared c.requires.0 c.tally.ensures)

pub returns-then-k-gt-MOST_GROUPS : goal.returns-then-k-gt-MOST_GROUPS
returns-then-k-gt-MOST_GROUPS c =
    many-groups c.requires.0 c.tally.ensures c.list_groups-k.ensures c.if-k-gt-MOST_GROUPS.true

pub list_forms-requires : goal.list_forms-requires
list_forms-requires c =
    let p = c.requires in (
      p.0,
      c.if-k-gt-MOST_GROUPS.false,
      listed_plain p.0 c.tally.ensures c.list_groups-k.ensures p.1,
      listed-numbers p.0 c.tally.ensures c.list_groups-k.ensures c.if-k-gt-MOST_GROUPS.false,
    )

pub returns : goal.returns
returns c =
    all-groups c.requires.0 c.tally.ensures c.list_groups-k.ensures c.if-k-gt-MOST_GROUPS.false
    c.list_forms.ensures

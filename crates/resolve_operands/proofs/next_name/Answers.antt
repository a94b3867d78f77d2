-- `resolve_operands::next_name` meets its contract: a value is read where it stands, and an entry of the context brings a name of the block or none.
-- Assumes nothing.
use mathlib.Core.Path.{◌≡◌, sym, subst}
use Prim.Native.Nat.{◌<◌}
use Rattle.resolve_symbols.specs.declared.Source.{Source}
use Rattle.resolve_symbols.specs.Sources.{SourceFits}
use Rattle.resolve_operands.specs.declared.NextName.{NextName}
use Rattle.resolve_operands.specs.Named.{extent_of, EntryAt, NameHere}
use Rattle.resolve_operands.proofs.Naming.{entry-stands, entry_named, next-read}
use Rattle.resolve_operands.proofs.next_name.Goals.{After-shared_slice_known-3-1, Start}
use Rattle.resolve_operands.proofs.next_name.Goals as goal

module _ (c : After-shared_slice_known-3-1) where
  abbrev start : Start
  start = (goal.at.After-shared_slice_known-3-1 c).Start

  -- what is known of the entry, and what is answered of it, by its source
  known : {x : Source} → start.args.source ≡ x
      → let a = start.args in
      SourceFits a.text.now x × (a.index < (extent_of a.layout x).count) × EntryAt a.text.now x a.index a.cur.at
  known e =
      let a = start.args in
      subst
      (λ (x : Source). SourceFits a.text.now x × (a.index < (extent_of a.layout x).count) × EntryAt a.text.now x a.index a.cur.at)
      e
      (start.requires.2, start.requires.3, start.requires.4)

  answered : {x : Source} (r : NextName) → start.args.source ≡ x
      → let a = start.args in
      NameHere a.text.now a.block.now a.lists.now a.layout x a.index r
      → NameHere a.text.now a.block.now a.lists.now a.layout a.source a.index r
  answered r e =
      let a = start.args in
      subst (λ (x : Source). NameHere a.text.now a.block.now a.lists.now a.layout x a.index r) (sym e)

pub entry_at-entry-requires : goal.entry_at-entry-requires
entry_at-entry-requires c =
    let k = known (goal.at.entry_at-entry-requires c).After-shared_slice_known-3-1 c.in-Values.is in
    ((start (goal.at.entry_at-entry-requires c).After-shared_slice_known-3-1).requires.0, entry-stands _ c.in-Values.items _ _ k.0 k.1 k.2)

pub bring-requires : goal.bring-requires
bring-requires c =
    ((start (goal.at.bring-requires c).After-shared_slice_known-3-1).requires.1, (known (goal.at.bring-requires c).After-shared_slice_known-3-1 c.in-Given.is).1)

pub returns-in-Values : goal.returns-in-Values
returns-in-Values c =
    let a = (start (goal.at.returns-in-Values c).After-shared_slice_known-3-1).args in
    let k = known (goal.at.returns-in-Values c).After-shared_slice_known-3-1 c.in-Values.is in
    let r = c.entry_at-entry in
    let is = c.in-Values.items in
    answered (goal.at.returns-in-Values c).After-shared_slice_known-3-1 _ c.in-Values.is
    (record {
      fits = r.ensures.inside;
      same = entry_named a.text.now is a.index a.cur.at k.0 k.1 k.2 r.result r.ensures;
      behind = rw c.after_entry-next.ensures (next-read a.text.now is a.index a.cur.at k.0 k.1 k.2 r.result r.ensures);
    })

pub returns-in-Given : goal.returns-in-Given
returns-in-Given c =
    let text = (start (goal.at.returns-in-Given c).After-shared_slice_known-3-1).args.text.now in
    let y = c.bring.ensures in
    answered (goal.at.returns-in-Given c).After-shared_slice_known-3-1 _ c.in-Given.is (record { fits = y.fits text; same = y.same text; behind = tt })

-- `record_laws::store_by` meets its contract: one record more is one element set. Assumes nothing.
use Rattle.std.proofs.Common.{◌<◌, length, arith, add-one}
use Rattle.record_laws.proofs.Stored.{one_more}
use Rattle.record_laws.proofs.store_by.Goals as goal

pub loop-i-preserved : goal.loop-i-preserved
loop-i-preserved g c =
    let ps = c.args.packed.now in
    let ys = c.args.records.now in
    let i = c.loop-i.i in
    let lp : i < length ps = c.loop-i-test.true in
    let ly : i < length ys = omega (arith, lp, c.requires) in
    rw (c.loop-i.invariant, c.unpacked.ensures, add-one) (one_more g.U.Packing.unpack ps ys i lp ly)

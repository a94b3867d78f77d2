-- `read_packs::with_place` meets its contract: the list's first mode stays, and the call gives what stands behind it.
-- Assumes nothing.
use Rattle.std.proofs.Common.{◌<◌, arith, rules}
use Rattle.read_packs.proofs.Packed.{alone, same, one_shorter, rest-snug, inner-fits, joined}
use Rattle.read_packs.proofs.+with_place.Goals.{After-with_place}
use Rattle.read_packs.proofs.+with_place.Goals as goal

pub returns-then-first-eq0 : goal.returns-then-first-eq0
returns-then-first-eq0 t c = alone c.args.packed c.args.place c.if-first-eq0.true c.requires.2

pub returns-then-first-place : goal.returns-then-first-place
returns-then-first-place t c = same c.args.packed (search rules) c.if-first-eq0.false c.args.place c.if-first-place.true c.requires.0

pub with_place-requires : goal.with_place-requires
with_place-requires t c =
    let n = c.args.packed in
    let e = c.if-first-eq0.false in (
      omega (arith, c.decreases, e),
      (rest-snug n (search rules) e c.requires.0, omega (arith, one_shorter n (search rules) e, c.requires.1), c.requires.2),
    )

-- what the call gives leaves room for the first mode
inner : (t : _) (c : After-with_place t) → c.with_place.result < 268435456
inner t c = inner-fits c.args.packed (search rules) c.if-first-eq0.false c.with_place.ensures c.requires.1

pub overflow_mul-result : goal.overflow_mul-result
overflow_mul-result t c = omega (arith, inner t c)

pub overflow_add-result-2 : goal.overflow_add-result-2
overflow_add-result-2 t c = omega (arith, inner t c)

pub returns : goal.returns
returns t c =
    joined c.args.packed (search rules) c.if-first-eq0.false c.with_place.ensures c.requires.1 c.if-first-place.false

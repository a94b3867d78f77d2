-- `resolve_context::read_layout` meets its contract: with at most 64 entries each, no start is beyond the numbers. Assumes nothing.
use native.Mathlib.Omega.{arith}
use borrow.Author.Rules.{rules}
use Rattle.resolve_context.specs.Lists.{layout_of}
use Rattle.resolve_context.proofs.Heads.{Heads, heads_of}
use Rattle.resolve_context.proofs.read_layout.Goals.{Start}
use Rattle.resolve_context.proofs.read_layout.Goals as goal

-- what is known of the counts, at the start
heads : (c : Start) → Heads c.args.lists.now
heads c = heads_of _ c.requires

pub returns : goal.returns
unfolding layout_of
returns c = search rules

pub bounds-lists-0 : goal.bounds-lists-0
bounds-lists-0 c = omega (arith, heads (goal.at.bounds-lists-0 c).Start)

pub overflow_cast-parameters : goal.overflow_cast-parameters
overflow_cast-parameters c = omega (arith, c.type_inv.lists 0)

pub bounds-lists-1 : goal.bounds-lists-1
bounds-lists-1 c = omega (arith, heads (goal.at.bounds-lists-1 c).Start)

pub overflow_cast-iiv : goal.overflow_cast-iiv
overflow_cast-iiv c = omega (arith, c.type_inv.lists 1)

pub bounds-lists-2 : goal.bounds-lists-2
bounds-lists-2 c = omega (arith, heads (goal.at.bounds-lists-2 c).Start)

pub overflow_cast-template : goal.overflow_cast-template
overflow_cast-template c = omega (arith, c.type_inv.lists 2)

pub bounds-lists-3 : goal.bounds-lists-3
bounds-lists-3 c = omega (arith, heads (goal.at.bounds-lists-3 c).Start)

pub overflow_cast-declared : goal.overflow_cast-declared
overflow_cast-declared c = omega (arith, c.type_inv.lists 3)

pub bounds-lists-4 : goal.bounds-lists-4
bounds-lists-4 c = omega (arith, heads (goal.at.bounds-lists-4 c).Start)

pub overflow_cast-columns : goal.overflow_cast-columns
overflow_cast-columns c = omega (arith, c.type_inv.lists 4)

pub overflow_mul-second : goal.overflow_mul-second
overflow_mul-second c = omega (arith, heads (goal.at.overflow_mul-second c).Start)

pub overflow_add-second : goal.overflow_add-second
overflow_add-second c = omega (arith, heads (goal.at.overflow_add-second c).Start)

pub overflow_mul-third : goal.overflow_mul-third
overflow_mul-third c = omega (arith, heads (goal.at.overflow_mul-third c).Start)

pub overflow_add-third : goal.overflow_add-third
overflow_add-third c = omega (arith, heads (goal.at.overflow_add-third c).Start)

pub overflow_mul-fourth : goal.overflow_mul-fourth
overflow_mul-fourth c = omega (arith, heads (goal.at.overflow_mul-fourth c).Start)

pub overflow_add-fourth : goal.overflow_add-fourth
overflow_add-fourth c = omega (arith, heads (goal.at.overflow_add-fourth c).Start)

pub overflow_mul-fifth : goal.overflow_mul-fifth
overflow_mul-fifth c = omega (arith, heads (goal.at.overflow_mul-fifth c).Start)

pub overflow_add-fifth : goal.overflow_add-fifth
overflow_add-fifth c = omega (arith, heads (goal.at.overflow_add-fifth c).Start)

pub bounds-lists-5 : goal.bounds-lists-5
bounds-lists-5 c = omega (arith, heads (goal.at.bounds-lists-5 c).Start)

pub bounds-lists-6 : goal.bounds-lists-6
bounds-lists-6 c = omega (arith, heads (goal.at.bounds-lists-6 c).Start)

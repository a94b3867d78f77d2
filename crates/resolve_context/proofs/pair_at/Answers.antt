-- `resolve_context::pair_at` meets its contract: an entry of a sound list lies in the run, and its name in the block. Assumes nothing.
use mathlib.Core.Path.{sym}
use Prim.Native.Nat.{ℕ, ◌+◌, ◌*◌, ◌<◌}
use native.Mathlib.Omega.{arith}
use borrow.Author.Rules.{rules}
use lib.ListN.{length}
use Rattle.resolve_context.proofs.Pairs.{Within, sound_at, name-is}
use Rattle.resolve_context.proofs.pair_at.Goals.{Start}
use Rattle.resolve_context.proofs.pair_at.Goals as goal

-- where the entry stands, and what is known of it
abbrev place : Start → ℕ
place s = s.args.names.start + s.args.names.step * s.args.index

entry-within : (s : Start) → Within s.args.block.now s.args.lists.now (place s)
entry-within s = sound_at s.args.block.now s.args.lists.now s.args.names s.requires.1 s.args.index s.requires.0

pub overflow_mul-at : goal.overflow_mul-at
overflow_mul-at c = omega (arith, entry-within (goal.at.overflow_mul-at c).Start)

pub overflow_add-at : goal.overflow_add-at
overflow_add-at c = omega (arith, entry-within (goal.at.overflow_add-at c).Start)

pub offset_bounds-lists-at : goal.offset_bounds-lists-at
offset_bounds-lists-at c = let h : place (goal.at.offset_bounds-lists-at c).Start + 1 < length c.args.lists.now = (entry-within (goal.at.offset_bounds-lists-at c).Start).inside in search rules

pub bounds-lists-at : goal.bounds-lists-at
bounds-lists-at c = omega (arith, entry-within (goal.at.bounds-lists-at c).Start)

pub overflow_cast-result : goal.overflow_cast-result
overflow_cast-result c = omega (arith, c.type_inv.lists (place (goal.at.overflow_cast-result c).Start))

pub overflow_add-result : goal.overflow_add-result
overflow_add-result c = omega (arith, entry-within (goal.at.overflow_add-result c).Start)

pub offset_bounds-lists-at-2 : goal.offset_bounds-lists-at-2
offset_bounds-lists-at-2 c = let h : place (goal.at.offset_bounds-lists-at-2 c).Start + 1 < length c.args.lists.now = (entry-within (goal.at.offset_bounds-lists-at-2 c).Start).inside in search rules

pub bounds-lists-at-2 : goal.bounds-lists-at-2
bounds-lists-at-2 c = omega (arith, entry-within (goal.at.bounds-lists-at-2 c).Start)

pub overflow_cast-result-2 : goal.overflow_cast-result-2
overflow_cast-result-2 c = omega (arith, c.type_inv.lists (place (goal.at.overflow_cast-result-2 c).Start + 1))

pub returns : goal.returns
returns c =
    ((entry-within (goal.at.returns c).Start).ends, sym (name-is c.args.block.now c.args.lists.now c.args.names c.args.index c.requires.0))

-- `print_parts::put_mode_comma` meets its contract: a mode is left where the lowest group is not 0.
-- Assumes nothing.
use mathlib.Core.Path.{◌≡◌}
use mathlib.Core.List.{[]}
use Prim.Native.Nat.{ℕ, suc, ◌<◌, ◌%◌}
use lib.ListN.{length}
use Rattle.text.specs.Bytes.{bytes}
use Rattle.read_packs.specs.Packs.{places}
use Rattle.read_packs.proofs.Packed.{no_place, next_place}
use Rattle.print_writing.proofs.Writing.{nothing_written, room-same}
use Rattle.print_parts.specs.Parts.{behind_entry}
use borrow.Author.Rules.{rules}
use Rattle.print_parts.proofs.put_mode_comma.Goals as goal

none : (n : ℕ) → n % 16 ≡ 0 → behind_entry (suc (length (places n))) ≡ []
none n e = rw (no_place n e)

some : (n : ℕ) → n < 4294967296 → (n % 16 ≡ 0 → ⊥) → behind_entry (suc (length (places n))) ≡ bytes ","
some n h e = rw (next_place n h e)

pub returns-then-left-eq0 : goal.returns-then-left-eq0
returns-then-left-eq0 c = rw (none _ c.if-left-eq0.true) (nothing_written _ _)

pub put-requires : goal.put-requires
put-requires c = room-same _ (some _ (search rules) c.if-left-eq0.false) c.requires

pub returns : goal.returns
returns c = rw (some _ (search rules) c.if-left-eq0.false) c.put.ensures

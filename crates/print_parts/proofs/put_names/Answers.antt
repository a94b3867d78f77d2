-- `print_parts::put_names` meets its contract: one name bare, all others in their brackets.
-- Assumes nothing.
use mathlib.Core.Path.{◌≡◌, ◌∙◌, ap, sym}
use mathlib.Core.List.{List, map}
use Prim.Native.Nat.{ℕ}
use Rattle.tokens.specs.Spelling.{spell_all}
use Rattle.canonical.specs.Canonical.{name_shape, item_shape, entry_shapes, bare_one, bracketed}
use Rattle.read_forms.specs.declared.Items.{Items}
use Rattle.read_forms.specs.Items.{items_in}
use Rattle.read_forms.specs.Fits.{Listed}
use Rattle.print_writing.proofs.Writing.{room-same}
use Rattle.print_parts.specs.Parts.{shapes_as}
use Rattle.print_parts.proofs.Bytes.{bare_one_lem, bare-more}
use Rattle.print_parts.proofs.Entries.{how_many}
use Rattle.print_parts.proofs.put_names.Goals as goal

bare :
    (s : List ℕ) (is : Items)
    → Listed s is
    → is.count ≡ 1
    → spell_all (bare_one (map item_shape (items_in s is))) ≡ spell_all (entry_shapes (shapes_as name_shape (items_in s is)))
bare s is l e = ap spell_all (bare_one_lem (shapes_as name_shape (items_in s is)) (how_many name_shape s is l ∙ e))

in_brackets :
    (s : List ℕ) (is : Items)
    → Listed s is
    → (is.count ≡ 1 → ⊥)
    → spell_all (bare_one (map item_shape (items_in s is))) ≡ spell_all (bracketed (shapes_as name_shape (items_in s is)))
in_brackets s is l n = ap spell_all (bare-more (shapes_as name_shape (items_in s is)) (λ k. n (sym (how_many name_shape s is l) ∙ k)))

pub put_entries-requires : goal.put_entries-requires
put_entries-requires c =
    let a = c.args in
    (c.requires.0, c.requires.1, room-same a.at (bare a.text.now a.items c.requires.1 c.if-items-eq1.true) c.requires.2)

pub returns-then-items-eq1 : goal.returns-then-items-eq1
returns-then-items-eq1 c =
    let a = c.args in
    rw (bare a.text.now a.items c.requires.1 c.if-items-eq1.true) c.put_entries.ensures

pub put_bracketed-requires : goal.put_bracketed-requires
put_bracketed-requires c =
    let a = c.args in
    (c.requires.0, c.requires.1, room-same a.at (in_brackets a.text.now a.items c.requires.1 c.if-items-eq1.false) c.requires.2)

pub returns : goal.returns
returns c =
    let a = c.args in
    rw (in_brackets a.text.now a.items c.requires.1 c.if-items-eq1.false) c.put_bracketed.ensures

-- `resolve_context::is_name` meets its contract: the bytes are one name where the first token ends with them. Assumes nothing.
use mathlib.Core.Path.{◌≡◌, sym, ap, ◌∙◌}
use Prim.Native.Nat.{ℕ, ◌<◌}
use mathlib.Core.Bool.{false}
use native.Mathlib.Omega.{arith}
use borrow.Author.Tests.{eqb-true, eqb-false}
use lib.Dec.{eqb}
use lib.ListN.{length, get_or}
use Rattle.tokens.specs.Class.{class_number, class_table}
use Rattle.tokens.specs.Next.{token_at}
use Rattle.tokens.specs.declared.Token.{Token}
use Rattle.tokens.specs.declared.Cursor.{Cursor}
use Rattle.tokens.proofs.Classes.{table_entry}
use mathlib.Core.List.{List}
use Rattle.resolve_context.proofs.Naming.{empty_name, no_name, name_by_end}
use Rattle.resolve_context.proofs.is_name.Goals.{then-is_empty-via-then-is_empty, then-is_empty-via-else-is_empty+then-classes-name-lt8}
use Rattle.resolve_context.proofs.is_name.Goals as goal

-- the class of a byte
class_told : (classes : List ℕ) (b : ℕ) → classes ≡ class_table → b < 256 → get_or classes b 0 ≡ class_number b
class_told classes b e h = ap (λ (l : List ℕ). get_or l b 0) e ∙ table_entry b (omega (arith, h))

some-byte : (w : List ℕ) → eqb (length w) 0 ≡ false → 0 < length w
some-byte w e = let n = eqb-false (length w) 0 e in omega (arith, n)

pub returns-then-is_empty : goal.returns-then-is_empty
returns-then-is_empty c =
    let w = c.args.name.now in
    elim c.then-is_empty.branch [
      | then-is_empty-via-then-is_empty x ↦ sym (empty_name w (eqb-true (length w) 0 (sym x.if-is_empty.ensures)))
      | then-is_empty-via-else-is_empty+then-classes-name-lt8 x ↦
          sym (no_name w (some-byte w (sym x.if-is_empty.ensures)) (omega (arith, class_told c.args.classes.now (get_or w 0 0) c.requires (omega (arith, c.type_inv.name 0)), x.if-classes-name-lt8.true)))
    ]

pub returns : goal.returns
returns c =
    let a = c.args in
    let w = a.name.now in
    ap (λ (t : Token). eqb t.next.at (length w))
    (c.token-token.ensures ∙ ap (λ (k : Cursor). token_at w k.at) c.new-c.ensures)
    ∙ name_by_end w (some-byte w (sym c.if-is_empty.ensures)) (omega (arith, class_told a.classes.now (get_or w 0 0) c.requires (omega (arith, c.type_inv.name 0)), c.if-classes-name-lt8.false))

-- The bytes of shapes that are printed: one after the other, a list's entries, and a list in its brackets or bare.
-- Assumes nothing.
use mathlib.Core.Path.{◌≡◌, refl, ap}
use mathlib.Core.Bool.{Bool, true, false, cond}
use mathlib.Core.List.{List, [], ◌∷◌, ◌++◌, append-nil}
use Prim.Native.Nat.{ℕ, zero, suc, ◌≤◌, ◌<◌}
use native.Mathlib.Omega.{arith}
use lib.ListN.{length}
use Rattle.text.specs.Bytes.{bytes}
use Rattle.tokens.specs.Token.{Shape, word, number}
use Rattle.tokens.specs.Spelling.{is_number, spell, spell_all}
use Rattle.tokens.proofs.Spelling.{spell-append}
use Rattle.reading.specs.Statement.{Name}
use Rattle.canonical.specs.Canonical.{sign, name_shape, entry_shapes, bracketed, bare_one}
use Rattle.print_parts.specs.Parts.{behind_entry}

-- one shape alone
pub spell_one : (x : Shape) → spell_all (x ∷ []) ≡ spell x
spell_one x = append-nil (spell x)

-- a name's bytes are its spelling, be it a word or a number
pub spell-name : (n : Name) → spell (name_shape n) ≡ n.spelling
spell-name n = either (is_number n.spelling)
  where
    either : (b : Bool) → spell (cond b (number n.spelling) (word n.spelling)) ≡ n.spelling
    either true = refl
    either false = refl

-- what stands behind the last entry, and behind one before it
pub behind-last : (left : ℕ) → left < 2 → behind_entry left ≡ []
behind-last zero h = refl
behind-last (suc zero) h = refl
behind-last (suc (suc n)) h = absurd (omega arith)

pub behind_more : (left : ℕ) → 2 ≤ left → behind_entry left ≡ bytes ","
behind_more zero h = absurd (omega arith)
behind_more (suc zero) h = absurd (omega arith)
behind_more (suc (suc n)) h = refl

-- the first entry of a list, what stands behind it, and the others
pub entry_first :
    (x : Shape) (xs : List Shape)
    → spell_all (entry_shapes (x ∷ xs)) ≡ spell x ++ (behind_entry (suc (length xs)) ++ spell_all (entry_shapes xs))
entry_first x [] = refl
entry_first x (y ∷ ys) = refl

pub spell-bracketed : (xs : List Shape) → spell_all (bracketed xs) ≡ bytes "[" ++ (spell_all (entry_shapes xs) ++ bytes "]")
spell-bracketed xs = ap (λ l. bytes "[" ++ l) (spell-append (entry_shapes xs) (sign "]" ∷ []))

pub bare_one_lem : (xs : List Shape) → length xs ≡ 1 → bare_one xs ≡ entry_shapes xs
bare_one_lem [] e = absurd (omega arith)
bare_one_lem (x ∷ []) e = refl
bare_one_lem (x ∷ y ∷ ys) e = absurd (omega arith)

pub bare-more : (xs : List Shape) → (length xs ≡ 1 → ⊥) → bare_one xs ≡ bracketed xs
bare-more [] n = refl
bare-more (x ∷ []) n = absurd (n refl)
bare-more (x ∷ y ∷ ys) n = refl

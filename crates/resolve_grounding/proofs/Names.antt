-- The names of a list at indexes, one after the other: the bytes of those that are left.
-- Assumes nothing.
use Prim.Native.Nat.{ℕ, suc, ◌+◌, ◌-◌, ◌<◌}
use mathlib.Core.Path.{◌≡◌, refl, ◌∙◌, ap, sym}
use mathlib.Core.List.{List, [], ◌∷◌, ◌++◌, map}
use native.Mathlib.Numerals.{add-one}
use native.Mathlib.Omega.{arith}
use lib.ListN.{length, get_or, drop, length-map, length-drop}
use lib.Seq.{drop-cons, drop-length}
use Rattle.print_parts.specs.Parts.{behind_entry}
use Rattle.text.specs.Bytes.{bytes}
use Rattle.tokens.specs.Spelling.{spell_all}
use Rattle.canonical.specs.Canonical.{name_shape, operand_shapes}
use Rattle.print_parts.proofs.Bytes.{entry_first, spell-name, spell-bracketed, bare_one_lem, bare-more}
use Rattle.resolving.specs.Brought.{plain_name, listed}
use Rattle.print_writing.specs.Written.{Room, Written}
use Rattle.print_writing.proofs.Going.{Going, told, further, no_more, room-first}
use Rattle.resolve_grounding.specs.Listed.{shape_at, listed_bytes}

-- a name, what stands behind it, and the others
name_by_name :
    (list : List (List ℕ)) (i : ℕ) (is : List ℕ)
    → listed_bytes list (i ∷ is) ≡ get_or list i [] ++ (behind_entry (suc (length is)) ++ listed_bytes list is)
name_by_name list i is =
    entry_first (shape_at list i) (map (shape_at list) is)
    ∙ ap (λ (w : List ℕ). w ++ (behind_entry (suc (length (map (shape_at list) is))) ++ listed_bytes list is)) (spell-name (plain_name (get_or list i [])))
    ∙ ap (λ (n : ℕ). get_or list i [] ++ (behind_entry (suc n) ++ listed_bytes list is)) (length-map is (shape_at list))

module _ (list : List (List ℕ)) (xs : List ℕ) (i : ℕ) {before : List ℕ} {at : ℕ} {all now : List ℕ} {next : ℕ} where
  pub none_left : i ≡ length xs → Going before at all now next (listed_bytes list (drop i xs)) → Written before at all now next
  none_left e g = no_more (told (ap (λ (k : ℕ). listed_bytes list (drop k xs)) e ∙ ap (listed_bytes list) (drop-length xs)) g)

  module _ (h : i < length xs) (g : Going before at all now next (listed_bytes list (drop i xs))) where
    abbrev first : List ℕ
    first = get_or list (get_or xs i 0) []

    abbrev others : List ℕ
    others = listed_bytes list (drop (i + 1) xs)

    left : suc (length (drop (i + 1) xs)) ≡ length xs - i
    left = omega (arith, length-drop (i + 1) xs)

    at_name : Going before at all now next (first ++ (behind_entry (length xs - i) ++ others))
    at_name =
        told
        (ap (listed_bytes list) (drop-cons xs i 0 h ∙ ap (λ (k : ℕ). get_or xs i 0 ∷ drop k xs) (sym (add-one i)))
        ∙ name_by_name list (get_or xs i 0) (drop (i + 1) xs)
        ∙ ap (λ (k : ℕ). first ++ (behind_entry k ++ others)) left)
        g

    pub name-room : Room at all → Room next (get_or list (get_or xs i 0) [])
    name-room r = room-first first (behind_entry (length xs - i) ++ others) r at_name

    module _ {now' : List ℕ} {next' : ℕ} (v : Written now next (get_or list (get_or xs i 0) []) now' next') where
      pub comma-room : Room at all → Room next' (behind_entry (length xs - i))
      comma-room r = room-first (behind_entry (length xs - i)) others r (further at_name v)

      pub name-put :
          {now'' : List ℕ} {next'' : ℕ}
          → Written now' next' (behind_entry (length xs - i)) now'' next''
          → Going before at all now'' next'' (listed_bytes list (drop (i + 1) xs))
      name-put u = further (further at_name v) u

-- one name stands bare, all others in their brackets
pub shapes_at : (list : List (List ℕ)) (is : List ℕ) → map name_shape (map (λ i. plain_name (get_or list i [])) is) ≡ map (shape_at list) is
shapes_at list [] = refl
shapes_at list (i ∷ is) = ap (λ l. shape_at list i ∷ l) (shapes_at list is)

module _ (list : List (List ℕ)) (is : List ℕ) where
  pub one-listed : length is ≡ 1 → spell_all (operand_shapes (listed list is)) ≡ listed_bytes list is
  one-listed e =
      rw (shapes_at list is) (ap spell_all (bare_one_lem (map (shape_at list) is) (length-map is (shape_at list) ∙ e)))

  pub more-listed : (length is ≡ 1 → ⊥) → spell_all (operand_shapes (listed list is)) ≡ bytes "[" ++ (listed_bytes list is ++ bytes "]")
  more-listed n =
      rw (shapes_at list is)
      (ap spell_all (bare-more (map (shape_at list) is) (λ e. n (sym (length-map is (shape_at list)) ∙ e))) ∙ spell-bracketed (map (shape_at list) is))

-- The entries of a list: each stands in the text where its pair says, and ends before the next one starts.
-- Assumes nothing.
use mathlib.Core.Path.{◌≡◌, refl, ◌∙◌, ap, sym, subst}
use mathlib.Core.Bool.{true}
use mathlib.Core.List.{List, [], ◌∷◌, map}
use Prim.Native.Nat.{ℕ, zero, suc, ◌+◌, ◌≤◌}
use native.Mathlib.Omega.{arith}
use borrow.Author.Tests.{le-leb}
use lib.ListN.{length}
use Rattle.reading.specs.Statement.{Item}
use Rattle.read_forms.specs.declared.Items.{Items}
use Rattle.read_forms.specs.Items.{tokens_from, name_in, item_in, entries, listed, items_in}
use Rattle.read_forms.specs.Fits.{Listed}
use Rattle.read_forms.proofs.Entries.{entries-ahead, listed-ahead, first-listed}
use Rattle.read_forms.proofs.Lists.{items_are}
use Rattle.read_checks.specs.Answers.{goes_on}
use Rattle.read_checks.proofs.Entries.{entry_from}
use Rattle.read_lists.specs.Lists.{item_for, items_for, in_order}
use Rattle.read_lists.proofs.Filling.{own-item, own-length}

-- Entries from an offset on, each in the text where its pair says.
pub data Ordered (s : List ℕ) : ℕ → List Item → Type 0 where
  none : {o : ℕ} → Ordered s o []
  next :
      {o : ℕ} {i : Item} {is : List Item}
      → o ≤ i.name.place
      → i.name.place + length i.name.spelling ≤ length s
      → item_in s (item_for i) ≡ i
      → Ordered s (i.name.place + length i.name.spelling) is
      → Ordered s o (i ∷ is)

earlier : {s : List ℕ} {o p : ℕ} {is : List Item} → p ≤ o → Ordered s o is → Ordered s p is
earlier h none = none
earlier {p = p} h (next {i = i} a w e r) = let b : p ≤ i.name.place = omega arith in next b w e r

-- The entries of a list are in order.
pub entries_ordered : (n : ℕ) (s : List ℕ) (o : ℕ) → listed n (tokens_from s o) ≡ true → Ordered s o (entries n (tokens_from s o))
unfolding entries
entries_ordered zero s o h = none
entries_ordered (suc n) s o h =
    let k : 1 ≤ suc n = omega arith in
    let f = entry_from s o (first-listed 1 (suc n) (tokens_from s o) h k) in
    let r = f.found in
    let e = f.next in
    let size = own-length s r.name e.inside in
    let within : r.name.offset + length (name_in s r.name).spelling ≤ length s = omega (arith, size, e.inside) in
    let past : r.name.offset + length (name_in s r.name).spelling ≤ goes_on s r = omega (arith, size, e.behind) in
    subst (Ordered s o) (sym (entries-ahead e.here n))
    (next e.ahead within (ap (item_in s) (own-item s r e.inside))
    (earlier past (entries_ordered n s (goes_on s r) (sym (listed-ahead e.here n) ∙ h))))

-- What follows for the entries in an array: they are in order within the text, and stand for those of the list.
pub ordered_within : {s : List ℕ} {o : ℕ} {is : List Item} → Ordered s o is → in_order (length s) (items_for is) ≡ true
ordered_within none = refl
ordered_within {s = s} (next {i = i} a w e none) = le-leb (i.name.place + length i.name.spelling) (length s) w
ordered_within (next {i = i} a w e (next {i = j} b v f r)) =
    simp (le-leb (i.name.place + length i.name.spelling) j.name.place b) (ordered_within (next b v f r))

pub ordered_items : {s : List ℕ} {o : ℕ} {is : List Item} → Ordered s o is → map (item_in s) (items_for is) ≡ is
ordered_items none = refl
ordered_items {s = s} (next {i = i} {is = is} a w e r) =
    ap (λ (x : Item). x ∷ map (item_in s) (items_for is)) e ∙ ap (λ (l : List Item). i ∷ l) (ordered_items r)

-- A list that can be read again.
pub items_ordered : (s : List ℕ) (is : Items) → Listed s is → Ordered s is.first.at (items_in s is)
items_ordered s is l = subst (Ordered s is.first.at) (sym (items_are s is l)) (entries_ordered is.count s is.first.at l.are)

-- Arguments whose entries stay in the text: a word or a number alone is a list of one entry, and an array is a list that may be empty.
-- Assumes nothing.
use Rattle.std.specs.Prelude.{Option, Some, None}
use mathlib.Core.Path.{◌≡◌, refl, ◌∙◌, sym}
use mathlib.Core.Bool.{Bool, true, false, cond, and-true}
use mathlib.Core.List.{List, [], ◌∷◌, map}
use Prim.Native.Nat.{ℕ, ◌+◌, ◌<◌, ◌≤◌}
use native.Mathlib.Omega.{arith}
use lib.Dec.{eqb, leb}
use lib.ListN.{length, take, drop, get_or, length-drop}
use lib.Seq.{drop-cons, length-take-le}
use borrow.Author.Tests.{leb-true, ne_eqb}
use Rattle.text.specs.Bytes.{bytes, between}
use Rattle.labels.specs.declared.Family.{Family}
use Rattle.labels.specs.Word.{lower, same_word, find}
use Rattle.labels.specs.Label.{labels_of}
use Rattle.labels.specs.Table.{found_as}
use Rattle.labels.proofs.Words.{halves, lengths_differ}
use Rattle.reading.specs.Statement.{a_word, Item, counts, names}
use Rattle.reading.specs.Answer.{accepted, refused, ◌>>=◌}
use Rattle.reading.specs.Argument.{lone_mode, count_list, modes_of, counts_of, operand_of, items_of, array}
use Rattle.read_forms.specs.declared.Name as forms
use Rattle.read_forms.specs.declared.Modes.TheVariants as formModes
use Rattle.read_forms.specs.Items.{name_in}
use Rattle.read_forms.specs.Forms.{modes_in}
use Rattle.read_checks.specs.Answers.{modes_listed}
use Rattle.read_packs.proofs.Packed.{no_place, alone}
use Rattle.read_checks.proofs.Judging.{found_some, found_none}
use Rattle.read_checks.proofs.Modes.{found-small}

-- a word alone as a mode: it is looked up, and stands alone in its number
module _ (f : Family) (s : List ℕ) (n : forms.Name) where
  abbrev Looked : Option ℕ → Type 0
  Looked r = r ≡ found_as (find (name_in s n).spelling (labels_of f))

  pub lone_found :
      (m : ℕ) → Looked (Some m) → accepted (modes_in (formModes.List (m + 1))) ≡ lone_mode f a_word (name_in s n)
  unfolding modes_in
  lone_found m e =
      let g = found_some (find (name_in s n).spelling (labels_of f)) m e in
      let h = found-small f (name_in s n).spelling m g in
      rw (g, (alone 0 m refl (omega arith)).all, no_place 0 refl)

  pub lone_unknown : Looked None → refused 10 n.offset ≡ lone_mode f a_word (name_in s n)
  lone_unknown e = rw (found_none (find (name_in s n).spelling (labels_of f)) e)

module _ (f : Family) where
  pub modes-array : {is : List Item} → (is ≡ [] → ⊥) → (o : ℕ) → modes_of f (array o is) ≡ modes_listed f is
  unfolding modes_of
  modes-array {is = []} h o = absurd (h refl)
  modes-array {is = i ∷ is} h o = refl

pub counts-array :
    {is : List Item}
    → (is ≡ [] → ⊥)
    → (limit o : ℕ)
    → counts_of limit (array o is) ≡ (count_list limit o is >>= λ cs. accepted (counts cs))
unfolding counts_of
counts-array {is = []} h limit o = absurd (h refl)
counts-array {is = i ∷ is} h limit o = refl

pub operand_array : {is : List Item} → (is ≡ [] → ⊥) → (o : ℕ) → operand_of (array o is) ≡ accepted (names (map (λ i. i.name) is))
unfolding operand_of
operand_array {is = []} h o = absurd (h refl)
operand_array {is = i ∷ is} h o = refl

pub items_array : {is : List Item} → (is ≡ [] → ⊥) → (o : ℕ) → items_of (array o is) ≡ accepted is
unfolding items_of
items_array {is = []} h o = absurd (h refl)
items_array {is = i ∷ is} h o = refl

-- the word N, by its one byte
pub no_n : (s : List ℕ) (o k : ℕ) → o + k ≤ length s → (k ≡ 1 → ⊥) → same_word (take k (drop o s)) (bytes "N") ≡ false
no_n s o k h n =
    lengths_differ (take k (drop o s)) (bytes "N")
    (λ e. n (sym (length-take-le k (drop o s) (simp length-drop (omega arith))) ∙ e))

pub n_byte :
    (s : List ℕ) (o k : ℕ) → o + k ≤ length s → k ≡ 1 → same_word (take k (drop o s)) (bytes "N") ≡ eqb (lower (get_or s o 0)) 110
unfolding same_word
n_byte s o k h e =
    let l : o < length s = omega arith in
    rw (e, drop-cons s o 0) (and-true (eqb (lower (get_or s o 0)) 110))

-- of the bytes with the lower case of `n`, one is `N`
pub lower-n : (b : ℕ) → (b ≡ 78 → ⊥) → eqb (lower b) 110 ≡ eqb b 110
lower-n b n = go (between "A" "Z" b) refl
  where
    go : (t : Bool) → between "A" "Z" b ≡ t → eqb (cond t (b + 32) b) 110 ≡ eqb b 110
    go true e =
        let m = leb-true b 90 (halves (leb 65 b) (leb b 90) e).1 in
        ne_eqb (b + 32) 110 (λ k. n (omega arith)) ∙ sym (ne_eqb b 110 (λ k. omega arith))
    go false e = refl

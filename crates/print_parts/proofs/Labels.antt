-- The labels of modes, printed one after the other: the bytes of those that are left.
-- Assumes nothing.
use mathlib.Core.Path.{◌≡◌, ◌∙◌, ap}
use mathlib.Core.List.{List, [], ◌∷◌, ◌++◌, map}
use Prim.Native.Nat.{ℕ, suc, ◌-◌, ◌/◌, ◌%◌, ◌<◌}
use lib.ListN.{length, get_or, length-map}
use Rattle.tokens.specs.Spelling.{spell_all}
use Rattle.labels.specs.declared.Family.{Family}
use Rattle.labels.specs.Label.{labels_of}
use Rattle.canonical.specs.Canonical.{label_shape, entry_shapes}
use Rattle.read_packs.specs.Packs.{places}
use Rattle.read_packs.proofs.Packed.{no_place, next_place}
use Rattle.print_writing.specs.Written.{Room, Written}
use Rattle.print_writing.proofs.Going.{Going, told, further, no_more, room-first}
use Rattle.print_parts.specs.Parts.{behind_entry}
use Rattle.print_parts.proofs.Bytes.{entry_first}

abbrev pub labels_in : Family → List ℕ → List ℕ
labels_in f ms = spell_all (entry_shapes (map (label_shape f) ms))

-- a label, what stands behind it, and the others
label_by_label :
    (f : Family) (m : ℕ) (ms : List ℕ)
    → labels_in f (m ∷ ms) ≡ get_or (labels_of f) m [] ++ (behind_entry (suc (length ms)) ++ labels_in f ms)
label_by_label f m ms =
    entry_first (label_shape f m) (map (label_shape f) ms)
    ∙ ap (λ (n : ℕ). get_or (labels_of f) m [] ++ (behind_entry (suc n) ++ labels_in f ms)) (length-map ms (label_shape f))

module _ (f : Family) (n : ℕ) {before : List ℕ} {at : ℕ} {all now : List ℕ} {next : ℕ} where
  pub none_left : n % 16 ≡ 0 → Going before at all now next (labels_in f (places n)) → Written before at all now next
  none_left e g = no_more (told (ap (labels_in f) (no_place n e)) g)

  module _ (b : n < 4294967296) (h : n % 16 ≡ 0 → ⊥) (g : Going before at all now next (labels_in f (places n))) where
    abbrev first : List ℕ
    first = get_or (labels_of f) (n % 16 - 1) []

    abbrev others : List ℕ
    others = labels_in f (places (n / 16))

    at_label : Going before at all now next (first ++ (behind_entry (suc (length (places (n / 16)))) ++ others))
    at_label = told (ap (labels_in f) (next_place n b h) ∙ label_by_label f (n % 16 - 1) (places (n / 16))) g

    pub label-room : Room at all → Room next (get_or (labels_of f) (n % 16 - 1) [])
    label-room r = room-first first (behind_entry (suc (length (places (n / 16)))) ++ others) r at_label

    module _ {now' : List ℕ} {next' : ℕ} (w : Written now next (get_or (labels_of f) (n % 16 - 1) []) now' next') where
      pub comma-room : Room at all → Room next' (behind_entry (suc (length (places (n / 16)))))
      comma-room r = room-first (behind_entry (suc (length (places (n / 16))))) others r (further at_label w)

      pub label-put :
          {now'' : List ℕ} {next'' : ℕ}
          → Written now' next' (behind_entry (suc (length (places (n / 16))))) now'' next''
          → Going before at all now'' next'' (labels_in f (places (n / 16)))
      label-put v = further (further at_label w) v

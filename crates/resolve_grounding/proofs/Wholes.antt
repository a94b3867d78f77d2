-- Parts with their modes made whole.
-- Assumes nothing.
use Prim.Native.Nat.{ℕ}
use mathlib.Core.Path.{◌≡◌, refl, ap}
use mathlib.Core.List.{List, [], ◌∷◌, ◌++◌, map, map-append}
use denote.Enum.Declared.{tag_of}
use types.Run.{OneOf, miss}
use Rattle.labels.specs.declared.Family.{Family}
use Rattle.reading.specs.Statement as statement
use Rattle.reading.specs.Parts as reading
use Rattle.reading.specs.Parts.{modes_part}
use Rattle.read_forms.specs.declared.Modes as form
use Rattle.read_forms.specs.Forms.{modes_in}
use Rattle.resolving.specs.Brought.{whole}
use Rattle.read_parts.specs.declared.Part.{Part}
use Rattle.read_parts.specs.declared.Part.TheVariants.{Absent, Modes, Counts, N, Operand, Name, Values, Op, Omitted}
use Rattle.read_parts.specs.declared.Parts.{Parts}
use Rattle.read_parts.specs.Meaning.{part_in, parts_in}
use Rattle.read_parts.specs.contracts.Part.{the_type}
use Rattle.resolve_grounding.specs.Whole.{with_whole, WholePart, WholeParts}

pub modes-whole : (f : Family) (m n : form.Modes) → modes_in n ≡ whole f (modes_in m) → WholePart (Modes f m) (Modes f n)
modes-whole f m n e = record {
  mean = λ s. ap (λ (x : statement.Modes). modes_part f x ∷ []) e;
  fit = λ s h. tt;
  written = refl;
}

same_whole : (p : Part) → ((s : List ℕ) → part_in s p ≡ map with_whole (part_in s p)) → WholePart p p
same_whole p e = record { mean = e; fit = λ s h. h; written = refl }

-- what no arm takes has no modes
pub others-whole : (p : Part) → OneOf (0 ∷ 2 ∷ 3 ∷ 4 ∷ 5 ∷ 6 ∷ 7 ∷ 8 ∷ []) (tag_of the_type p) → WholePart p p
others-whole Absent k = same_whole Absent (λ s. refl)
others-whole (Modes f m) k = absurd (miss (0 ∷ 2 ∷ 3 ∷ 4 ∷ 5 ∷ 6 ∷ 7 ∷ 8 ∷ []) 1 tt k)
others-whole (Counts c) k = same_whole (Counts c) (λ s. refl)
others-whole N k = same_whole N (λ s. refl)
others-whole (Operand p) k = same_whole (Operand p) (λ s. refl)
others-whole (Name n) k = same_whole (Name n) (λ s. refl)
others-whole (Values is) k = same_whole (Values is) (λ s. refl)
others-whole (Op op) k = same_whole (Op op) (λ s. refl)
others-whole Omitted k = same_whole Omitted (λ s. refl)

module _ (r : Parts) {p q u v : Part}
    (a : WholePart r.first p) (b : WholePart r.second q) (c : WholePart r.third u) (d : WholePart r.fourth v) where
  abbrev made : Parts
  made = record { keyword = r.keyword; optional = r.optional; first = p; second = q; third = u; fourth = v }

  arguments : (s : List ℕ) → ◌≡◌ {A = List reading.Part}
      (part_in s p ++ (part_in s q ++ (part_in s u ++ part_in s v)))
      (map with_whole (part_in s r.first ++ (part_in s r.second ++ (part_in s r.third ++ part_in s r.fourth))))
  arguments s =
      rw (
        map-append with_whole (part_in s r.first) (part_in s r.second ++ (part_in s r.third ++ part_in s r.fourth)),
        map-append with_whole (part_in s r.second) (part_in s r.third ++ part_in s r.fourth),
        map-append with_whole (part_in s r.third) (part_in s r.fourth),
        a.mean s,
        b.mean s,
        c.mean s,
        d.mean s,
      )
      refl

  pub parts_whole : WholeParts r (record { keyword = r.keyword; optional = r.optional; first = p; second = q; third = u; fourth = v })
  unfolding parts_in
  parts_whole = record {
    mean = λ s. ap (λ (l : List reading.Part). record { keyword = r.keyword; optional = r.optional; arguments = l }) (arguments s);
    fit = λ s h. record { first = a.fit s h.first; second = b.fit s h.second; third = c.fit s h.third; fourth = d.fit s h.fourth };
    written = a.written;
    keyword = refl;
  }

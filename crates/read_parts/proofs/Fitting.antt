-- The lists of a statement that was read can be read again: a list that cannot has no entries, and a well formed one is not empty. Its names
-- lie in the text: they end before it, so none was cut at its end.
-- Assumes nothing.
use Prim.Native.Nat.{ℕ}
use native.Mathlib.Omega.{arith}
use mathlib.Core.Path.{◌≡◌, refl, ◌∙◌, ap, sym}
use mathlib.Core.Bool.{Bool, true, false, ◌&&◌, false≢true}
use mathlib.Core.List.{List, [], ◌∷◌, map}
use borrow.Author.Tests.{ltb-true}
use lib.ListN.{length, drop, length-take, length-drop}
use Rattle.text.specs.Lists.{all}
use Rattle.text.proofs.Tests.{and_left, and_right}
use Rattle.reading.specs.Statement.{Item}
use Rattle.reading_laws.specs.WellFormed.{one_to64, within_limit, well_named, well_item, well_part, well_parts, well_formed}
use Rattle.reading_laws.specs.Spelled.{end_of, ends_before, placed_part, as_read}
use Rattle.text.proofs.Passing.{all_left, all_right}
use Rattle.reading_laws.proofs.Parts.{parts_well}
use Rattle.read_forms.specs.declared.Counts.TheVariants as counts
use Rattle.read_forms.specs.declared.Operand.TheVariants as operand
use Rattle.read_forms.specs.declared.Items.{Items}
use Rattle.read_forms.specs.declared.Name as form
use Rattle.read_forms.specs.declared.Statement.{Statement}
use Rattle.read_forms.specs.Items.{name_in, items_in}
use Rattle.read_forms.specs.Forms.{values_in, counts_in, operand_in, statement_in}
use Rattle.read_forms.specs.Fits.{InText, Listed}
use Rattle.read_forms.proofs.Lists.{has_entries}
use Rattle.read_parts.specs.declared.Part.{Part}
use Rattle.read_parts.specs.declared.Part.TheVariants.{Absent, Modes, Counts, N, Operand, Name, Values, Op, Omitted}
use Rattle.read_parts.specs.declared.Parts.{Parts}
use Rattle.read_parts.specs.Apart.{apart}
use Rattle.read_parts.specs.Meaning.{part_in, parts_in, PartFits, PartsFit}
use Rattle.read_parts.proofs.Meaning.{taken}

module _ (limit : ℕ) where
  module _ (s : List ℕ) where
    -- a list whose entries pass a test that no empty list passes
    entries-listed : (is : Items) (p : List Item → Bool) → p [] ≡ false → p (items_in s is) ≡ true → Listed s is
    entries-listed is p f e = has_entries s is (λ q. false≢true (sym f ∙ sym (ap p q) ∙ e))

    -- a name that stands for bytes before the text's end
    name-fits : (n : form.Name) → all (all (ends_before (length s))) ((name_in s n ∷ []) ∷ []) ≡ true → InText s n
    name-fits n e =
        let b = ltb-true (end_of (name_in s n)) (length s) (and_left _ _ (and_left _ _ e)) in
        omega (arith, b, length-take n.length (drop n.offset s), length-drop n.offset s)

    part-fits :
        (p : Part) → all (well_part limit) (part_in s p) ≡ true → all (placed_part (length s)) (part_in s p) ≡ true → PartFits s p
    unfolding counts_in operand_in
    part-fits Absent e h = tt
    part-fits (Modes f m) e h = tt
    part-fits (Counts (counts.Single v)) e h = tt
    part-fits (Counts (counts.Range a b)) e h = tt
    part-fits (Counts (counts.List is)) e h = entries-listed is (λ l. one_to64 (within_limit limit) (values_in l) && true) refl e
    part-fits N e h = tt
    part-fits (Operand operand.Wildcard) e h = tt
    part-fits (Operand (operand.Symbol n)) e h = name-fits n h
    part-fits (Operand (operand.Names is)) e h = entries-listed is (λ l. one_to64 well_named (map (λ i. i.name) l) && true) refl e
    part-fits (Name n) e h = name-fits n h
    part-fits (Values is) e h = entries-listed is (λ l. one_to64 well_item l && true) refl e
    part-fits (Op op) e h = tt
    part-fits Omitted e h = tt

    parts-fit : (r : Parts) → well_parts limit (parts_in s r) ≡ true → all (placed_part (length s)) (parts_in s r).arguments ≡ true → PartsFit s r
    unfolding parts_in
    parts-fit r e h =
        let w = well_part limit in
        let q = placed_part (length s) in
        let b = all_right w (part_in s r.first) _ e in
        let c = all_right w (part_in s r.second) _ b in
        let k = all_right q (part_in s r.first) _ h in
        let l = all_right q (part_in s r.second) _ k in
        record {
          first = part-fits r.first (all_left w (part_in s r.first) _ e) (all_left q (part_in s r.first) _ h);
          second = part-fits r.second (all_left w (part_in s r.second) _ b) (all_left q (part_in s r.second) _ k);
          third = part-fits r.third (all_left w (part_in s r.third) _ c) (all_left q (part_in s r.third) _ l);
          fourth = part-fits r.fourth (all_right w (part_in s r.third) _ c) (all_right q (part_in s r.third) _ l);
        }

    -- The names of a statement that was read lie in the text, and its lists can be read again.
    pub statement-fits : (st : Statement) → as_read limit (length s) (statement_in s st) ≡ true → PartsFit s (apart st)
    statement-fits st e =
        parts-fit (apart st)
        (rw (taken s st).mean (parts_well limit (statement_in s st) (and_left (well_formed limit (statement_in s st)) _ e)))
        (rw (taken s st).mean (and_right (well_formed limit (statement_in s st)) _ e))

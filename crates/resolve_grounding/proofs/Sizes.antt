-- How long ground statements can be: short enough that their indexes can be told.
-- Assumes nothing.
use Prim.Native.Nat.{ℕ, zero, suc, ◌+◌, ◌*◌, ◌-◌, ◌/◌, ◌%◌, ◌≤◌}
use native.Mathlib.Omega.{arith}
use mathlib.Core.Path.{◌≡◌, refl, ap}
use mathlib.Core.Bool.{Bool, true, false, cond, not}
use mathlib.Core.List.{List, [], ◌∷◌, ◌++◌, map}
use borrow.Author.Tests.{leb-true}
use lib.Dec.{eqb, leb}
use lib.ListN.{length, get_or, length-append}
use Rattle.text.specs.Bytes.{bytes, every, count_up}
use Rattle.text.proofs.Tests.{and_left, and_right}
use Rattle.tokens.specs.Token.{Shape}
use Rattle.tokens.specs.Spelling.{spell, spell_all}
use Rattle.labels.specs.declared.Family.{Family}
use Rattle.labels.specs.declared.Family.TheVariants.{
  AbsorptionMode,
  EliminationMode,
  PeripheralKind,
  DepotMode,
  LagtimeMode,
  CovariateEffect,
  PdMode,
  ProductionMode,
  MetaboliteMode,
  VariabilityEffect,
  VariabilityLevel,
}
use Rattle.labels.specs.Label.{labels_of, keywords}
use Rattle.reading.specs.Statement.{Modes, all_modes, modes, multiply, add}
use Rattle.reading.specs.Parts.{
  Part,
  modes_part,
  counts_part,
  estimated_part,
  operand_part,
  name_part,
  values_part,
  operator_part,
  omitted,
  Parts,
}
use Rattle.read_packs.specs.Packs.{unpack, places}
use Rattle.read_forms.specs.declared.Modes as formModes
use Rattle.read_forms.specs.declared.Modes.TheVariants as form
use Rattle.read_forms.specs.Forms.{modes_in}
use Rattle.read_parts.specs.declared.Part as parts
use Rattle.read_parts.specs.declared.Part.TheVariants as part
use Rattle.read_parts.specs.declared.Parts as forms
use Rattle.read_parts.specs.Meaning.{part_in, parts_in}
use Rattle.canonical.specs.Canonical.{
  sign,
  label_shape,
  entry_shapes,
  argument_shapes,
  bare_one,
  modes_shapes,
  question_mark,
  part_shapes,
  parts_shapes,
  taken_shapes,
}
use Rattle.print_parts.proofs.Bytes.{spell-bracketed, spell-name}
use Rattle.tokens.proofs.Spelling.{spell-append}
use Rattle.resolving.specs.Brought.{whole, plain_name}
use Rattle.print_statements.specs.Bytes.{head_of}
use Rattle.print_statements.proofs.Bytes.{call_bytes}
use Rattle.resolve_grounding.specs.Whole.{with_whole, all_whole}
use Rattle.resolve_grounding.specs.Listed.{shape_at, either_bytes, variable_bytes}
use Rattle.resolve_grounding.proofs.Names.{shapes_at}

-- Words of at most 32 bytes.

at_most : (ws : List (List ℕ)) (i : ℕ) → every (λ n. leb n 32) (map length ws) ≡ true → length (get_or ws i []) ≤ 32
at_most [] i e = omega arith
at_most (w ∷ ws) zero e = leb-true (length w) 32 (and_left (leb (length w) 32) _ e)
at_most (w ∷ ws) (suc i) e = at_most ws i (and_right (leb (length w) 32) _ e)

labels_short : (f : Family) → every (λ n. leb n 32) (map length (labels_of f)) ≡ true
unfolding labels_of
labels_short AbsorptionMode = refl
labels_short EliminationMode = refl
labels_short PeripheralKind = refl
labels_short DepotMode = refl
labels_short LagtimeMode = refl
labels_short CovariateEffect = refl
labels_short PdMode = refl
labels_short ProductionMode = refl
labels_short MetaboliteMode = refl
labels_short VariabilityEffect = refl
labels_short VariabilityLevel = refl

keywords-short : every (λ n. leb n 32) (map length keywords) ≡ true
unfolding keywords
keywords-short = refl

-- Lists of them.

module _ (shape : ℕ → Shape) (short : (i : ℕ) → length (spell (shape i)) ≤ 32) where
  entries-short : (is : List ℕ) → length (spell_all (entry_shapes (map shape is))) ≤ 33 * length is
  entries-short [] = omega arith
  entries-short (i ∷ []) = omega (arith, short i, length-append (spell (shape i)) [])
  entries-short (i ∷ j ∷ is) =
      omega (
        arith,
        short i,
        length-append (spell (shape i)) (spell_all (sign "," ∷ entry_shapes (map shape (j ∷ is)))),
        entries-short (j ∷ is),
      )

  bare-short : (is : List ℕ) → length (spell_all (bare_one (map shape is))) ≤ 33 * length is + 2
  bare-short [] = omega arith
  bare-short (i ∷ []) = omega (arith, entries-short (i ∷ []))
  bare-short (i ∷ j ∷ is) =
      omega (
        arith,
        entries-short (i ∷ j ∷ is),
        ap length (spell-bracketed (map shape (i ∷ j ∷ is))),
        length-append (spell_all (entry_shapes (map shape (i ∷ j ∷ is)))) (bytes "]"),
      )

-- Modes, of which there are few.

abbrev pub mode_count : Modes → ℕ
mode_count all_modes = 0
mode_count (modes xs) = length xs

modes-short : (f : Family) (ms : Modes) → length (spell_all (modes_shapes f ms)) ≤ 33 * mode_count ms + 2
modes-short f all_modes = omega arith
modes-short f (modes xs) = bare-short (label_shape f) (λ i. at_most (labels_of f) i (labels_short f)) xs

unpack-few : (k n : ℕ) → length (unpack k n) ≤ k
unfolding unpack
unpack-few zero n = omega arith
unpack-few (suc k) n = by_end (eqb (n % 16) 0) (unpack-few k (n / 16))
  where
    by_end : (t : Bool) → length (unpack k (n / 16)) ≤ k → length (cond t [] ((n % 16 - 1) ∷ unpack k (n / 16))) ≤ suc k
    by_end true h = omega arith
    by_end false h = omega arith

whole_family_few : (f : Family) → length (count_up 0 (length (labels_of f))) ≤ 8
unfolding labels_of
whole_family_few AbsorptionMode = omega arith
whole_family_few EliminationMode = omega arith
whole_family_few PeripheralKind = omega arith
whole_family_few DepotMode = omega arith
whole_family_few LagtimeMode = omega arith
whole_family_few CovariateEffect = omega arith
whole_family_few PdMode = omega arith
whole_family_few ProductionMode = omega arith
whole_family_few MetaboliteMode = omega arith
whole_family_few VariabilityEffect = omega arith
whole_family_few VariabilityLevel = omega arith

pub whole-few : (f : Family) (m : formModes.Modes) → mode_count (whole f (modes_in m)) ≤ 8
unfolding modes_in whole places
whole-few f form.Wildcard = whole_family_few f
whole-few f (form.List n) = unpack-few 8 n

-- A keyword with its `?` and its `(`.
head_short : (k : ℕ) (m : Bool) → length (head_of (get_or keywords k []) m) ≤ 34
head_short k true =
    omega (arith, at_most keywords k keywords-short, length-append (get_or keywords k []) (spell_all (question_mark true) ++ bytes "("))
head_short k false =
    omega (arith, at_most keywords k keywords-short, length-append (get_or keywords k []) (spell_all (question_mark false) ++ bytes "("))

-- A statement of names of a list and modes.
module _ (list : List (List ℕ)) (short : (i : ℕ) → length (get_or list i []) ≤ 32) (is : List ℕ) (few : length is ≤ 64) (f : Family) (ms : Modes) (count : mode_count ms ≤ 8) where
  spelled-short : (i : ℕ) → length (spell (shape_at list i)) ≤ 32
  spelled-short i = omega (arith, short i, ap length (spell-name (plain_name (get_or list i []))))

  either_short : (t : Bool) → length (either_bytes list is f ms t) ≤ 2200
  either_short true = omega (arith, few, bare-short (shape_at list) spelled-short is, ap (λ l. length (spell_all (bare_one l))) (shapes_at list is))
  either_short false = omega (arith, count, modes-short f ms)

  pub variables_short : (k : ℕ) (m t : Bool) → length (variable_bytes k m list is f ms t) ≤ 8192
  variables_short k m t =
      omega (
        arith,
        head_short k m,
        either_short t,
        either_short (not t),
        length-append (head_of (get_or keywords k []) m) (either_bytes list is f ms t ++ (bytes "," ++ (either_bytes list is f ms (not t) ++ bytes ")"))),
        length-append (either_bytes list is f ms t) (bytes "," ++ (either_bytes list is f ms (not t) ++ bytes ")")),
        length-append (either_bytes list is f ms (not t)) (bytes ")"),
      )

-- Parts with their modes made whole.

abbrev argument_sizes : List (List Shape) → ℕ
argument_sizes [] = 0
argument_sizes (x ∷ xs) = length (spell_all x) + argument_sizes xs

sizes_append : (xs ys : List (List Shape)) → argument_sizes (xs ++ ys) ≡ argument_sizes xs + argument_sizes ys
sizes_append [] ys = omega arith
sizes_append (x ∷ xs) ys = omega (arith, sizes_append xs ys)

arguments-most : (xs : List (List Shape)) → length (spell_all (argument_shapes xs)) ≤ argument_sizes xs + length xs
arguments-most [] = omega arith
arguments-most (x ∷ []) = omega arith
arguments-most (x ∷ y ∷ ys) =
    omega (
      arith,
      arguments-most (y ∷ ys),
      ap length (spell-append x (sign "," ∷ argument_shapes (y ∷ ys))),
      length-append (spell_all x) (spell_all (sign "," ∷ argument_shapes (y ∷ ys))),
    )

arguments-least : (xs : List (List Shape)) → argument_sizes xs ≤ length (spell_all (argument_shapes xs))
arguments-least [] = omega arith
arguments-least (x ∷ []) = omega arith
arguments-least (x ∷ y ∷ ys) =
    omega (
      arith,
      arguments-least (y ∷ ys),
      ap length (spell-append x (sign "," ∷ argument_shapes (y ∷ ys))),
      length-append (spell_all x) (spell_all (sign "," ∷ argument_shapes (y ∷ ys))),
    )

abbrev FewPart : Part → Type 0
FewPart (modes_part f ms) = mode_count (whole f ms) ≤ 8
FewPart (counts_part c) = Unit {0}
FewPart estimated_part = Unit {0}
FewPart (operand_part p) = Unit {0}
FewPart (name_part n) = Unit {0}
FewPart (values_part is) = Unit {0}
FewPart (operator_part op) = Unit {0}
FewPart omitted = Unit {0}

abbrev pub FewParts : List Part → Type 0
FewParts [] = Unit {0}
FewParts (p ∷ ps) = FewPart p × FewParts ps

part-most : (p : Part) → FewPart p → argument_sizes (part_shapes (with_whole p)) ≤ argument_sizes (part_shapes p) + 266
part-most (modes_part f ms) h = omega (arith, h, modes-short f (whole f ms))
part-most (counts_part c) h = omega arith
part-most estimated_part h = omega arith
part-most (operand_part p) h = omega arith
part-most (name_part n) h = omega arith
part-most (values_part is) h = omega arith
part-most (operator_part op) h = omega arith
part-most omitted h = omega arith

parts_most : (ps : List Part) → FewParts ps → argument_sizes (parts_shapes (map with_whole ps)) ≤ argument_sizes (parts_shapes ps) + 266 * length ps
parts_most [] h = omega arith
parts_most (p ∷ ps) h =
    omega (
      arith,
      part-most p h.0,
      parts_most ps h.1,
      sizes_append (part_shapes (with_whole p)) (parts_shapes (map with_whole ps)),
      sizes_append (part_shapes p) (parts_shapes ps),
    )

one-shape : (p : Part) → length (part_shapes p) ≤ 1
one-shape (modes_part f ms) = omega arith
one-shape (counts_part c) = omega arith
one-shape estimated_part = omega arith
one-shape (operand_part p) = omega arith
one-shape (name_part n) = omega arith
one-shape (values_part is) = omega arith
one-shape (operator_part multiply) = omega arith
one-shape (operator_part add) = omega arith
one-shape omitted = omega arith

shapes_few : (ps : List Part) → length (parts_shapes (map with_whole ps)) ≤ length ps
shapes_few [] = omega arith
shapes_few (p ∷ ps) =
    omega (arith, one-shape (with_whole p), shapes_few ps, length-append (part_shapes (with_whole p)) (parts_shapes (map with_whole ps)))

pub whole-short :
    (p : Parts)
    → FewParts p.arguments
    → length p.arguments ≤ 4
    → length (spell_all (taken_shapes p)) ≤ 16384
    → length (spell_all (taken_shapes (all_whole p))) ≤ 20000
whole-short p few four short =
    let k = get_or keywords p.keyword [] in
    let xs = parts_shapes p.arguments in
    let ys = parts_shapes (map with_whole p.arguments) in
    omega (
      arith,
      four,
      short,
      ap length (call_bytes k p.optional xs),
      length-append (head_of k p.optional) (spell_all (argument_shapes xs) ++ bytes ")"),
      length-append (spell_all (argument_shapes xs)) (bytes ")"),
      ap length (call_bytes k p.optional ys),
      length-append (head_of k p.optional) (spell_all (argument_shapes ys) ++ bytes ")"),
      length-append (spell_all (argument_shapes ys)) (bytes ")"),
      arguments-least xs,
      arguments-most ys,
      parts_most p.arguments few,
      shapes_few p.arguments,
    )

-- The parts of a form are at most four, and have few modes.
part-few : (s : List ℕ) (p : parts.Part) → FewParts (part_in s p) × (length (part_in s p) ≤ 1)
part-few s part.Absent = (tt, omega arith)
part-few s (part.Modes f m) = ((whole-few f m, tt), omega arith)
part-few s (part.Counts c) = ((tt, tt), omega arith)
part-few s part.N = ((tt, tt), omega arith)
part-few s (part.Operand p) = ((tt, tt), omega arith)
part-few s (part.Name n) = ((tt, tt), omega arith)
part-few s (part.Values is) = ((tt, tt), omega arith)
part-few s (part.Op op) = ((tt, tt), omega arith)
part-few s part.Omitted = ((tt, tt), omega arith)

few-append : (ps qs : List Part) → FewParts ps → FewParts qs → FewParts (ps ++ qs)
few-append [] qs a b = b
few-append (p ∷ ps) qs a b = (a.0, few-append ps qs a.1 b)

pub form-short :
    (s : List ℕ) (r : forms.Parts)
    → length (spell_all (taken_shapes (parts_in s r))) ≤ 16384
    → length (spell_all (taken_shapes (all_whole (parts_in s r)))) ≤ 20000
unfolding parts_in
form-short s r h =
    let a = part-few s r.first in
    let b = part-few s r.second in
    let c = part-few s r.third in
    let d = part-few s r.fourth in
    whole-short (parts_in s r)
    (few-append (part_in s r.first) _ a.0 (few-append (part_in s r.second) _ b.0 (few-append (part_in s r.third) _ c.0 d.0)))
    (omega (
      arith,
      a.1,
      b.1,
      c.1,
      d.1,
      length-append (part_in s r.first) (part_in s r.second ++ (part_in s r.third ++ part_in s r.fourth)),
      length-append (part_in s r.second) (part_in s r.third ++ part_in s r.fourth),
      length-append (part_in s r.third) (part_in s r.fourth),
    ))
    h

-- Measured, compared and written: the numbers if there is room for all of them, and else nothing but the refusal.
-- Assumes nothing.
use mathlib.Core.Path.{◌≡◌, refl, ◌∙◌, ap, sym, subst}
use mathlib.Core.List.{List, [], ◌++◌}
use Prim.Native.Nat.{ℕ, ◌≤◌, ◌<◌}
use native.Mathlib.Omega.{arith}
use lib.ListN.{length}
use Rattle.text.specs.Lists.{all}
use Rattle.reading.specs.Answer.{accepted, refused}
use Rattle.reading.specs.Read.{read_text}
use Rattle.canonical.specs.Print.{Answers}
use Rattle.canonical.specs.Numbers.{part_numbers, parts_numbers, head_numbers, numbers_of, taken_numbers}
use Rattle.canonical_laws.proofs.Numbers.{few-numbers, small-numbers}
use Rattle.reading.specs.Parts.{Part}
use Rattle.read_forms.specs.declared.Statement as form
use Rattle.read_forms.specs.Forms.{statement_in}
use Rattle.read_parts.specs.declared.Parts.{Parts}
use Rattle.read_parts.specs.Apart.{apart}
use Rattle.read_parts.specs.Meaning.{part_in, parts_in}
use Rattle.read_parts.proofs.Meaning.{taken}
use Rattle.reading.specs.Calls.{nth_of}
use Rattle.reading_laws.proofs.Calls.{found_passes, found_well}
use Rattle.print_writing.specs.Written.{Written}
use Rattle.print_writing.proofs.Answering.{none_lent, room_answers, short-answers}
use Rattle.numbers_statement.specs.Ready.{is_small, Ready}
use Rattle.numbers_statement.specs.Entries.{numbers_in, taken_in}
use mathlib.Core.List.{◌∷◌, append_assoc}

-- The numbers of a statement are those of its keyword and of its parts.

all_more : (ps qs : List Part) → parts_numbers (ps ++ qs) ≡ parts_numbers ps ++ parts_numbers qs
all_more [] qs = refl
all_more (p ∷ ps) qs =
    ap (λ (l : List ℕ). part_numbers p ++ l) (all_more ps qs) ∙ sym (append_assoc (part_numbers p) (parts_numbers ps) (parts_numbers qs))

module _ (s : List ℕ) (r : Parts) where
  abbrev pub pieces : List ℕ
  pieces =
      head_numbers r.keyword r.optional
      ++ (numbers_in s r.first ++ (numbers_in s r.second ++ (numbers_in s r.third ++ numbers_in s r.fourth)))

  pub parts_numbers_lem : taken_in s r ≡ pieces
  unfolding parts_in
  parts_numbers_lem =
      ap (λ (l : List ℕ). head_numbers r.keyword r.optional ++ l)
      (rw (
        all_more (part_in s r.first) (part_in s r.second ++ (part_in s r.third ++ part_in s r.fourth)),
        all_more (part_in s r.second) (part_in s r.third ++ part_in s r.fourth),
        all_more (part_in s r.third) (part_in s r.fourth),
      ))

-- The numbers of a form are those of the statement that it stands for.
pub statement-numbers : (s : List ℕ) (st : form.Statement) → taken_in s (apart st) ≡ numbers_of (statement_in s st)
unfolding numbers_of
statement-numbers s st = ap taken_numbers (taken s st).mean

-- What was found at an index of a text can be written.
pub numbers_ready :
    (limit : ℕ) (s : List ℕ) (i : ℕ) (st : form.Statement)
    → accepted (statement_in s st) ≡ nth_of i (read_text limit s)
    → Ready 0 (taken_in s (apart st))
numbers_ready limit s i st e =
    let w = found_well limit s i (statement_in s st) e in
    rw (statement-numbers s st) (
    record {
      room = omega (arith, few-numbers limit (statement_in s st) w);
      small = found_passes (λ x. all is_small (numbers_of x)) i (statement_in s st) (read_text limit s) (small-numbers limit s) e;
    }
    )

module _ (out ns none : List ℕ) (size : ℕ) (measured : Written [] 0 ns none size) where
  -- measuring writes nothing
  unchanged : none ++ out ≡ out
  unchanged = none_lent out [] none ns size refl measured

  pub too_short : length out < size → Answers (accepted ns) out (none ++ out) (refused 19 0)
  too_short h = short-answers out (accepted ns) ns refl (none ++ out) (omega (arith, measured.next)) unchanged

  pub long_enough : (after : List ℕ) (r : ℕ) → size ≤ length out → Written (none ++ out) 0 ns after r → Answers (accepted ns) out after (accepted r)
  long_enough after r h w =
      room_answers out (accepted ns) ns refl after r (omega (arith, measured.next))
      (subst (λ (l : List ℕ). Written l 0 ns after r) unchanged w)

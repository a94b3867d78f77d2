-- Statements that are kept as they are read, and printed one after the other once all are there.
-- Assumes nothing.
use mathlib.Core.Path.{◌≡◌, refl, ◌∙◌, ap, sym, subst}
use mathlib.Core.Bool.{true}
use mathlib.Core.List.{List, [], ◌∷◌, ◌++◌, map, map-append}
use Prim.Native.Nat.{ℕ, suc, ◌+◌, ◌≤◌, ◌<◌}
use native.Mathlib.Numerals.{add-one}
use native.Mathlib.Omega.{arith}
use lib.ListN.{length, take, set, get_or, length-set}
use lib.Seq.{take-suc-set, slice, slice-cons, slice_empty}
use Rattle.text.specs.Lists.{all}
use Rattle.text.proofs.Tests.{and_left, and_right}
use Rattle.reading.specs.Statement.{Statement}
use Rattle.reading.specs.Answer.{Answer, accepted, refused}
use Rattle.reading.specs.Read.{between, prepend, read_text}
use Rattle.reading_laws.specs.Admitted.{Admitted}
use Rattle.reading_laws.specs.Reads.{prepend_all}
use Rattle.reading_laws.specs.Spelled.{as_read}
use Rattle.reading_laws.proofs.Joining.{accepted-text}
use Rattle.reading_laws.proofs.Spelled.{text-as_read}
use Rattle.canonical.specs.Canonical.{canonical}
use Rattle.canonical.specs.Print.{print_text, Answers}
use Rattle.canonical_laws.proofs.Shorter.{not_longer}
use Rattle.read_forms.specs.declared.Statement as form
use Rattle.read_forms.specs.Forms.{statement_in}
use Rattle.read_statements.specs.Answers.{FirstFault}
use Rattle.read_statements.proofs.Keeping.{first_ones}
use Rattle.read_parts.specs.Apart.{apart}
use Rattle.read_parts.specs.Meaning.{PartsFit}
use Rattle.read_parts.proofs.Fitting.{statement-fits}
use Rattle.print_writing.specs.Written.{Room, Written}
use Rattle.print_writing.proofs.Going.{Going, going, told, further, no_more, room-first}
use Rattle.read_forms.specs.declared.Refusal.{Refusal}
use Rattle.std.specs.Prelude.{Option as Option·rust, Some, None, Result, Ok, Err}
use Rattle.read_forms.specs.Faults.{refused_by}
use Rattle.print_render.specs.Text.{KeptAs}
use Rattle.canonical.specs.Lines.{piece_of, rest_of}
use Rattle.canonical.proofs.Lines.{canonical_pieces}
use Rattle.print_render.proofs.Loop.{canonical-short}
use Rattle.print_render.proofs.Answering.{refused_answers, room_answers}

-- Of the statements that are kept so many are printed, and the others are left.
pub record Putting (limit : ℕ) (s before now : List ℕ) (forms : List form.Statement) (n i at : ℕ) : Type 0 where
  pub read : read_text limit s ≡ accepted (first_ones (statement_in s) n forms)
  pub fit : all (as_read limit (length s)) (map (statement_in s) (slice i n forms)) ≡ true
  pub gone : Going before 0 (canonical (first_ones (statement_in s) n forms)) now at (rest_of i (map (statement_in s) (slice i n forms)))
  pub held : n ≤ length forms
  pub most : i ≤ n

pub none-put :
    (limit : ℕ) (s before : List ℕ) (forms : List form.Statement) (n : ℕ)
    → read_text limit s ≡ accepted (first_ones (statement_in s) n forms)
    → n ≤ length forms
    → Putting limit s before before forms n 0 0
none-put limit s before forms n e h =
    record {
      read = e;
      fit = text-as_read limit s (first_ones (statement_in s) n forms) e;
      gone = told (canonical_pieces (first_ones (statement_in s) n forms)) (going before 0 (canonical (first_ones (statement_in s) n forms)));
      held = h;
      most = omega arith;
    }

module _ {limit : ℕ} {s before now : List ℕ} {forms : List form.Statement} {n i at : ℕ} (g : Putting limit s before now forms n i at) where
  module _ (d : form.Statement) (h : i < n) where
    abbrev this : form.Statement
    this = get_or forms i d

    left : map (statement_in s) (slice i n forms) ≡ statement_in s this ∷ map (statement_in s) (slice (suc i) n forms)
    left = ap (map (statement_in s)) (slice-cons i n forms d h g.held)

    fit-left : all (as_read limit (length s)) (statement_in s this ∷ map (statement_in s) (slice (suc i) n forms)) ≡ true
    fit-left = sym (ap (all (as_read limit (length s))) left) ∙ g.fit

    gone-left :
        Going before 0 (canonical (first_ones (statement_in s) n forms)) now at
        (piece_of i (statement_in s this) ++ rest_of (suc i) (map (statement_in s) (slice (suc i) n forms)))
    gone-left = told (ap (rest_of i) left) g.gone

    pub this-fits : PartsFit s (apart (get_or forms i d))
    this-fits = statement-fits limit s this (and_left (as_read limit (length s) (statement_in s this)) _ fit-left)

    pub this-room : Room at (piece_of i (statement_in s (get_or forms i d)))
    this-room = room-first (piece_of i (statement_in s this)) _ (canonical-short limit s (first_ones (statement_in s) n forms) g.read) gone-left

    pub one-put :
        {now' : List ℕ} {at' : ℕ}
        → Written now at (piece_of i (statement_in s (get_or forms i d))) now' at'
        → Putting limit s before now' forms n (i + 1) at'
    one-put {now'} {at'} w =
        subst (λ (k : ℕ). Putting limit s before now' forms n k at') (sym (add-one i))
        (record {
          read = g.read;
          fit = and_right (as_read limit (length s) (statement_in s this)) _ fit-left;
          gone = further gone-left w;
          held = g.held;
          most = omega (arith, h);
        })

  -- all are printed
  pub all-put : n ≤ i → length s ≤ length before → Answers (print_text limit s) before now (accepted at)
  all-put h q =
      let e : i ≡ n = omega (arith, h, g.most) in
      let z : rest_of i (map (statement_in s) (slice i n forms)) ≡ [] =
      ap (λ (k : ℕ). rest_of i (map (statement_in s) (slice k n forms))) e
      ∙ ap (λ (l : List form.Statement). rest_of i (map (statement_in s) l)) (slice_empty n forms) in
      room_answers limit s before now (first_ones (statement_in s) n forms) g.read at
      (omega (arith, not_longer limit s (first_ones (statement_in s) n forms) g.read, q))
      (no_more (told z g.gone))

-- where nothing was printed, the buffer is as it was, and what is printed next is the answer
module _ (limit : ℕ) (s before mid after : List ℕ) (g : KeptAs limit s before mid (Ok None)) where
  same_buffer : mid ≡ before
  unfolding KeptAs
  same_buffer = g

  pub kept_next : (r : Result (Option·rust ℕ) Refusal) → KeptAs limit s mid after r → KeptAs limit s before after r
  kept_next r h = subst (λ (b : List ℕ). KeptAs limit s b after r) same_buffer h

  pub answers_next : (r : Answer ℕ) → Answers (print_text limit s) mid after r → Answers (print_text limit s) before after r
  answers_next r h = subst (λ (b : List ℕ). Answers (print_text limit s) b after r) same_buffer h

-- a refusal of the reading is the text's, once a byte that starts no token was looked for
pub refused-next :
    (limit : ℕ) (s before after : List ℕ) (x r : Refusal)
    → KeptAs limit s before after (Err x)
    → Admitted limit s
    → FirstFault s x r
    → Answers (print_text limit s) before after (refused_by r)
unfolding KeptAs
refused-next limit s before after x r g h f =
    subst (λ (b : List ℕ). Answers (print_text limit s) before b (refused_by r)) (sym g.1)
    (refused_answers limit s before r (f limit h g.0))

-- Statements that are kept, and whose numbers are written one after the other: of all the numbers, those of the statements from an index on
-- are left.
-- Assumes nothing.
use mathlib.Core.Path.{◌≡◌, refl, ◌∙◌, ap, sym, subst}
use mathlib.Core.Bool.{true}
use mathlib.Core.List.{List, [], ◌∷◌, ◌++◌, map}
use Prim.Native.Nat.{ℕ, suc, ◌+◌, ◌≤◌, ◌<◌}
use native.Mathlib.Numerals.{add-one}
use native.Mathlib.Omega.{arith}
use lib.ListN.{length, get_or}
use lib.Seq.{slice, slice-cons, slice_empty}
use Rattle.text.specs.Lists.{all}
use Rattle.text.proofs.Tests.{and_left, and_right}
use Rattle.reading.specs.Statement.{Statement}
use Rattle.reading.specs.Answer.{accepted}
use Rattle.reading.specs.Read.{read_text}
use Rattle.reading_laws.specs.Spelled.{as_read}
use Rattle.reading_laws.proofs.Spelled.{text-as_read}
use Rattle.canonical.specs.Numbers.{counted_numbers, all_numbers_of}
use Rattle.read_forms.specs.declared.Statement as form
use Rattle.read_forms.specs.Forms.{statement_in}
use Rattle.read_parts.specs.Apart.{apart}
use Rattle.read_parts.specs.Meaning.{PartsFit}
use Rattle.read_parts.proofs.Fitting.{statement-fits}
use Rattle.read_statements.proofs.Keeping.{first_ones}
use Rattle.print_writing.specs.Written.{Written}
use Rattle.print_writing.proofs.Going.{Going, going, told, further, no_more}
use Rattle.numbers_statement.specs.Ready.{Ready}
use Rattle.numbers_statement.proofs.Pieces.{ready_first}
use Rattle.numbers_all.proofs.Ready.{all_ready}

-- what is kept of a statement, whatever it is, has its form
module _ {F : Type 0} (form_of : F → form.Statement) where
  abbrev pub meant : List ℕ → F → Statement
  meant s f = statement_in s (form_of f)

  -- So many statements are kept, and the numbers of the first so many of them are written.
  pub record Putting (limit : ℕ) (s before now : List ℕ) (forms : List F) (n i at : ℕ) : Type 0 where
    pub read : read_text limit s ≡ accepted (first_ones (meant s) n forms)
    pub fit : all (as_read limit (length s)) (map (meant s) (slice i n forms)) ≡ true
    pub gone : Going before 0 (all_numbers_of (first_ones (meant s) n forms)) now at (all_numbers_of (map (meant s) (slice i n forms)))
    pub held : n ≤ length forms
    pub most : i ≤ n

  pub none-put :
      (limit : ℕ) (s before : List ℕ) (forms : List F) (n : ℕ)
      → read_text limit s ≡ accepted (first_ones (meant s) n forms)
      → n ≤ length forms
      → Putting limit s before before forms n 0 0
  none-put limit s before forms n e h = record {
    read = e;
    fit = text-as_read limit s (first_ones (meant s) n forms) e;
    gone = going before 0 (all_numbers_of (first_ones (meant s) n forms));
    held = h;
    most = omega arith;
  }

  module _ {limit : ℕ} {s before now : List ℕ} {forms : List F} {n i at : ℕ} (g : Putting limit s before now forms n i at) where
    module _ (d : F) (h : i < n) where
      abbrev this : F
      this = get_or forms i d

      left : map (meant s) (slice i n forms) ≡ meant s this ∷ map (meant s) (slice (suc i) n forms)
      left = ap (map (meant s)) (slice-cons i n forms d h g.held)

      fit-left : all (as_read limit (length s)) (meant s this ∷ map (meant s) (slice (suc i) n forms)) ≡ true
      fit-left = sym (ap (all (as_read limit (length s))) left) ∙ g.fit

      gone-left :
          Going before 0 (all_numbers_of (first_ones (meant s) n forms)) now at
          (counted_numbers (meant s this) ++ all_numbers_of (map (meant s) (slice (suc i) n forms)))
      unfolding all_numbers_of
      gone-left = told (ap all_numbers_of left) g.gone

      pub this-fits : PartsFit s (apart (form_of (get_or forms i d)))
      this-fits = statement-fits limit s (form_of this) (and_left (as_read limit (length s) (meant s this)) _ fit-left)

      pub this-ready : Ready at (counted_numbers (statement_in s (form_of (get_or forms i d))))
      this-ready = ready_first (counted_numbers (meant s this)) _ (all_ready limit s (first_ones (meant s) n forms) g.read) gone-left

      pub one-put :
          {now' : List ℕ} {at' : ℕ}
          → Written now at (counted_numbers (statement_in s (form_of (get_or forms i d)))) now' at'
          → Putting limit s before now' forms n (i + 1) at'
      one-put {now'} {at'} w =
          subst (λ (k : ℕ). Putting limit s before now' forms n k at') (sym (add-one i))
          (record {
            read = g.read;
            fit = and_right (as_read limit (length s) (meant s this)) _ fit-left;
            gone = further gone-left w;
            held = g.held;
            most = omega (arith, h);
          })

    -- all are written
    pub all-put : n ≤ i → Written before 0 (all_numbers_of (first_ones (meant s) n forms)) now at
    unfolding all_numbers_of
    all-put h =
        let e : i ≡ n = omega (arith, h, g.most) in
        let z : all_numbers_of (map (meant s) (slice i n forms)) ≡ [] =
        ap (λ (k : ℕ). all_numbers_of (map (meant s) (slice k n forms))) e
        ∙ ap (λ (l : List F). all_numbers_of (map (meant s) l)) (slice_empty n forms) in
        no_more (told z g.gone)

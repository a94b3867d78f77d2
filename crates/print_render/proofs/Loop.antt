-- Printing a text's statements one after the other: what was printed, and what is left.
-- Assumes nothing.
use mathlib.Core.Path.{◌≡◌, refl, ◌∙◌, ap, sym, subst}
use mathlib.Core.Bool.{true}
use mathlib.Core.List.{List, [], ◌∷◌, ◌++◌}
use Prim.Native.Nat.{ℕ, suc, ◌+◌, ◌≤◌}
use native.Mathlib.Numerals.{add-one}
use native.Mathlib.Omega.{arith}
use lib.ListN.{length}
use Rattle.text.specs.Lists.{all}
use Rattle.text.proofs.Tests.{and_left, and_right}
use Rattle.reading.specs.Statement.{Statement}
use Rattle.reading.specs.Answer.{Answer, accepted}
use Rattle.reading.specs.Read.{between, prepend, read_text}
use Rattle.reading_laws.specs.Spelled.{as_read}
use Rattle.reading.proofs.Answers.{not-refused}
use Rattle.reading_laws.proofs.Joining.{accepted-short, text-accepted}
use Rattle.reading_laws.proofs.Spelled.{text-as_read}
use Rattle.canonical.specs.Canonical.{canonical}
use Rattle.canonical_laws.proofs.Shorter.{not_longer}
use Rattle.read_forms.specs.declared.Statement as form
use Rattle.read_forms.specs.Forms.{statement_in}
use Rattle.read_statements.specs.Answers.{reading_at}
use Rattle.reading_laws.proofs.Calls.{in_front}
use Rattle.read_parts.specs.Apart.{apart}
use Rattle.read_parts.specs.Meaning.{PartsFit}
use Rattle.read_parts.proofs.Fitting.{statement-fits}
use Rattle.print_writing.specs.Written.{Room, Written}
use Rattle.print_writing.proofs.Going.{Going, going, told, further, no_more, room-first}
use Rattle.print_render.specs.Text.{Accepted, Prints}
use Rattle.canonical.specs.Lines.{piece_of, rest_of}
use Rattle.canonical.proofs.Lines.{canonical_pieces}

-- an accepted text is not too long, and so its canonical text has an index behind it
pub canonical-short : (limit : ℕ) (s : List ℕ) (ss : List Statement) → read_text limit s ≡ accepted ss → Room 0 (canonical ss)
canonical-short limit s ss e = omega (arith, accepted-short limit s ss e, not_longer limit s ss e)

-- So many statements were printed, and these are left.
pub record Sofar (limit : ℕ) (s before now : List ℕ) (n cur at : ℕ) : Type 0 where
  pub statements : List Statement
  pub left : List Statement
  pub read : read_text limit s ≡ accepted statements
  pub here : reading_at limit s n between cur ≡ accepted left
  pub fit : all (as_read limit (length s)) left ≡ true
  pub gone : Going before 0 (canonical statements) now at (rest_of n left)
  pub few : n ≤ cur

pub none_yet : (limit : ℕ) (s before : List ℕ) → Accepted limit s → Sofar limit s before before 0 0 0
none_yet limit s before a =
    record {
      statements = a.statements;
      left = a.statements;
      read = a.read;
      here = text-accepted limit s a.statements a.read;
      fit = text-as_read limit s a.statements a.read;
      gone = told (canonical_pieces a.statements) (going before 0 (canonical a.statements));
      few = omega arith;
    }

module _ {limit : ℕ} {s before now : List ℕ} {n cur at : ℕ} (g : Sofar limit s before now n cur at) where
  -- there is one more
  module _
      (f : form.Statement) (p : ℕ)
      (e : reading_at limit s n between cur ≡ prepend (statement_in s f) (reading_at limit s (suc n) between p))
    where
      rest : (more : List Statement) × (reading_at limit s (suc n) between p ≡ accepted more) × (g.left ≡ statement_in s f ∷ more)
      rest = in_front (statement_in s f) (reading_at limit s (suc n) between p) g.left (sym e ∙ g.here)

      fit-more : all (as_read limit (length s)) (statement_in s f ∷ rest.0) ≡ true
      fit-more = sym (ap (all (as_read limit (length s))) rest.2) ∙ g.fit

      gone-more : Going before 0 (canonical g.statements) now at (piece_of n (statement_in s f) ++ rest_of (suc n) rest.0)
      gone-more = told (ap (rest_of n) rest.2) g.gone

      pub next_fits : PartsFit s (apart f)
      next_fits = statement-fits limit s f (and_left (as_read limit (length s) (statement_in s f)) _ fit-more)

      pub next-room : Room at (piece_of n (statement_in s f))
      next-room = room-first (piece_of n (statement_in s f)) (rest_of (suc n) rest.0) (canonical-short limit s g.statements g.read) gone-more

      pub one_more :
          {now' : List ℕ} {at' : ℕ} → n + 1 ≤ p → Written now at (piece_of n (statement_in s f)) now' at' → Sofar limit s before now' (n + 1) p at'
      one_more {now'} {at'} h w =
          subst (λ (k : ℕ). Sofar limit s before now' k p at') (sym (add-one n))
          (record {
            statements = g.statements;
            left = rest.0;
            read = g.read;
            here = rest.1;
            fit = and_right (as_read limit (length s) (statement_in s f)) _ fit-more;
            gone = further gone-more w;
            few = omega (arith, add-one n);
          })

  -- there is none
  pub all-printed : reading_at limit s n between cur ≡ accepted [] → Prints limit s before now at
  all-printed e ss r =
      let z : g.left ≡ [] = cc (sym g.here ∙ e) in
      let same : ss ≡ g.statements = cc (sym r ∙ g.read) in
      rw same (no_more (told (ap (rest_of n) z) g.gone))

  -- a refusal never comes
  pub never : (k q : ℕ) {A : Type 0} → reading_at limit s n between cur ≡ Answer.refused k q → A
  never k q e = absurd (not-refused (sym e ∙ g.here))

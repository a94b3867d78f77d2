-- For every text that Print accepts: the canonical text is accepted, with as many statements, is never longer than the text, reads as the
-- same statements (names and symbols compared as bytes), and prints as itself. The contracts of Count, Statement and Print say that their
-- answers are `counting`, `stating` and `print_text` of every text, so this is claimed of the calls.
-- Assumes nothing.
use mathlib.Core.Path.{◌≡◌, refl, ◌∙◌, ap, sym, subst}
use mathlib.Core.List.{List, [], ◌∷◌, map}
use Prim.Native.Nat.{ℕ, zero, suc, ◌+◌}
use native.Mathlib.Omega.{arith}
use lib.ListN.{length, get_elem?, length-map}
use Rattle.reading.specs.Statement.{Statement}
use Rattle.reading.specs.Answer.{Answer, accepted, refused}
use Rattle.reading.specs.Read.{read_text}
use Rattle.reading_laws.specs.Admitted.{Admitted}
use Rattle.reading.proofs.Answers.{not-refused}
use Rattle.reading_laws.proofs.Joining.{accepted_admitted}
use Rattle.reading_laws.proofs.WellRead.{text-well_formed}
use Rattle.canonical.specs.Canonical.{canonical}
use Rattle.canonical.specs.Print.{printed, print_text}
use Rattle.canonical_laws.specs.Forgotten.{forget}
use Rattle.canonical_laws.proofs.Shorter.{not_longer}
use Rattle.canonical_laws.proofs.Rereading.{rereads, prints_itself, few-statements}
use Rattle.reading.specs.Calls.{counted, chosen, nth_of}
use Rattle.print_render.specs.Laws.{unplaced, Canonical}

-- statements that are the same without their places: as many, and each the same
same_number : (ts ss : List Statement) → map forget ts ≡ map forget ss → length ts ≡ length ss
same_number ts ss e = sym (length-map ts forget) ∙ ap length e ∙ length-map ss forget

unplaced_at : (i k : ℕ) (ss : List Statement) → unplaced (chosen i (get_elem? ss k)) ≡ chosen i (get_elem? (map forget ss) k)
unplaced_at i k [] = refl
unplaced_at i zero (x ∷ xs) = refl
unplaced_at i (suc k) (x ∷ xs) = unplaced_at i k xs

same-each : (i : ℕ) (ts ss : List Statement) → map forget ts ≡ map forget ss → unplaced (nth_of i (accepted ts)) ≡ unplaced (nth_of i (accepted ss))
same-each i ts ss e = unplaced_at i i ts ∙ ap (λ (l : List Statement). chosen i (get_elem? l i)) e ∙ sym (unplaced_at i i ss)

-- for the statements of a text
of_statements :
    (limit : ℕ) (text : List ℕ) (ss : List Statement) → read_text limit text ≡ accepted ss → Canonical limit text (canonical ss)
of_statements limit text ss e =
    let well = text-well_formed limit text ss e in
    let few = few-statements limit text ss e in
    let short = not_longer limit text ss e in
    let admitted = accepted_admitted limit text ss e in
    let again : Admitted limit (canonical ss) = record { ceiling = admitted.ceiling; short = omega (arith, admitted.short) } in
    let r = rereads limit ss well few again in
    record {
      count =
          ap (counted 0) r.read
          ∙ ap (λ (n : ℕ). accepted (0 + n)) (same_number r.statements ss r.same)
          ∙ sym (ap (counted 0) e);
      short = short;
      same = λ i.
          ap (λ (a : Answer (List Statement)). unplaced (nth_of i a)) r.read
          ∙ same-each i r.statements ss r.same
          ∙ sym (ap (λ (a : Answer (List Statement)). unplaced (nth_of i a)) e);
      prints = prints_itself limit ss well few again;
    }

pub canonical_holds : (limit : ℕ) (text bytes : List ℕ) → print_text limit text ≡ accepted bytes → Canonical limit text bytes
unfolding print_text
canonical_holds limit text bytes e = go (read_text limit text) refl e
  where
    go : (a : Answer (List Statement)) → read_text limit text ≡ a → printed a ≡ accepted bytes → Canonical limit text bytes
    go (refused n p) r e = absurd (not-refused e)
    go (accepted ss) r e = let same : canonical ss ≡ bytes = cc in subst (Canonical limit text) same (of_statements limit text ss r)

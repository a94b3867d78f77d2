-- What Print and the profile answer, as the lines that are written of it. A canonical text is never longer than a text may be.
-- Assumes nothing.
use mathlib.Core.Path.{◌≡◌, refl, ◌∙◌, ap, sym, subst}
use mathlib.Core.List.{List}
use Prim.Native.Nat.{ℕ, ◌≤◌}
use native.Mathlib.Omega.{arith}
use lib.ListN.{length}
use Rattle.text.specs.Bytes.{bytes}
use Rattle.reading.specs.Statement.{Statement}
use Rattle.reading.specs.Answer.{Answer, accepted, refused}
use Rattle.reading.specs.Read.{read_text}
use Rattle.reading_laws.proofs.Joining.{accepted-short}
use Rattle.reading.proofs.Answers.{not-refused}
use Rattle.canonical.specs.Print.{printed, print_text, length_of, Answers}
use Rattle.canonical.specs.Canonical.{canonical}
use Rattle.canonical_laws.proofs.Shorter.{not_longer}
use Rattle.print_writing.specs.Written.{Written}
use Rattle.lines.specs.Line.{refusal_line, print_line}
use Rattle.print_lines.proofs.Answered.{answer-line, answer-refused, told-whole}

pub canonical-short : (limit : ℕ) (text bs : List ℕ) → print_text limit text ≡ accepted bs → length bs ≤ 16384
unfolding print_text
canonical-short limit text bs e = by_answer (read_text limit text) refl e
  where
    by_answer : (a : Answer (List Statement)) → read_text limit text ≡ a → printed a ≡ accepted bs → length bs ≤ 16384
    by_answer (accepted ss) h k =
        let q : canonical ss ≡ bs = cc in
        omega (arith, ap length q, not_longer limit text ss h, accepted-short limit text ss h)
    by_answer (refused n p) h k = absurd (not-refused k)

module _ (limit : ℕ) (text before after : List ℕ) (room : 16384 ≤ length before) where
  small : (bs : List ℕ) → print_text limit text ≡ accepted bs → length bs ≤ length before
  small bs e = omega (arith, canonical-short limit text bs e)

  pub told : {r : Answer ℕ} → Answers (print_text limit text) before after r → r ≡ length_of (print_text limit text)
  told w = told-whole (print_text limit text) small w

  pub length-small : {n : ℕ} → Answers (print_text limit text) before after (accepted n) → n ≤ 16384
  length-small {n} w = by_answer (print_text limit text) refl (told w)
    where
      by_answer : (a : Answer (List ℕ)) → print_text limit text ≡ a → accepted n ≡ length_of a → n ≤ 16384
      by_answer (accepted bs) h k = let q : n ≡ length bs = cc in omega (arith, canonical-short limit text bs h)
      by_answer (refused i p) h k = let z : ◌≡◌ {A = ℕ} 0 1 = cc in absurd (omega arith)

  pub printed-line : {done : List ℕ} {n r : ℕ}
      → Answers (print_text limit text) before after (accepted n) → Written after n (bytes "\n") done r → Written before 0 (print_line limit text) done r
  unfolding print_line
  printed-line w l = answer-line (print_text limit text) small w l

  pub refused-line : {done : List ℕ} {n p r : ℕ}
      → Answers (print_text limit text) before after (refused n p) → Written after 0 (refusal_line n p) done r → Written before 0 (print_line limit text) done r
  unfolding print_line
  refused-line w l = answer-refused (print_text limit text) small w l

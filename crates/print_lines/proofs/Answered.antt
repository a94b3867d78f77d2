-- What a call that fills an output says of its answer, where the output has room for it: the answer itself stands there, or nothing does.
-- Assumes nothing.
use mathlib.Core.Path.{◌≡◌, refl, ◌∙◌, ap, sym, subst}
use mathlib.Core.List.{List}
use Prim.Native.Nat.{ℕ, ◌≤◌}
use native.Mathlib.Nat.{zero-add}
use native.Mathlib.Omega.{arith}
use borrow.Author.Tests.{le-ltb}
use lib.ListN.{length}
use Rattle.text.specs.Bytes.{bytes}
use Rattle.reading.specs.Answer.{Answer, accepted, refused}
use Rattle.canonical.specs.Print.{length_of, fitting, output, Answers}
use Rattle.print_writing.specs.Written.{Written}
use Rattle.print_writing.proofs.Writing.{patch_front, written_on}
use Rattle.lines.specs.Line.{refusal_line, line_of}

-- an answer that is no longer than the output fits
pub all-fits : (room : ℕ) (a : Answer (List ℕ)) → ((bs : List ℕ) → a ≡ accepted bs → length bs ≤ room) → fitting room a ≡ a
all-fits room (accepted bs) h = rw (le-ltb room (length bs) (h bs refl))
all-fits room (refused k p) h = refl

-- the line behind what a call left: its bytes and a newline, or a refusal's
module _ {before after : List ℕ} (a : Answer (List ℕ)) (small : (bs : List ℕ) → a ≡ accepted bs → length bs ≤ length before) where
  pub told-whole : {r : Answer ℕ} → Answers a before after r → r ≡ length_of a
  told-whole w = w.told ∙ ap length_of (all-fits (length before) a small)

  left-whole : {r : Answer ℕ} → Answers a before after r → after ≡ output a before
  left-whole w = w.left ∙ ap (λ (x : Answer (List ℕ)). output x before) (all-fits (length before) a small)

module _ {before after : List ℕ} where
  pub answer-line : {done : List ℕ} {n r : ℕ} (a : Answer (List ℕ))
      → ((bs : List ℕ) → a ≡ accepted bs → length bs ≤ length before)
      → Answers a before after (accepted n)
      → Written after n (bytes "\n") done r
      → Written before 0 (line_of a) done r
  unfolding line_of
  answer-line {done} {n} (accepted bs) small w l =
      let t : accepted n ≡ accepted (length bs) = told-whole (accepted bs) small w in
      let m : n ≡ length bs = cc in
      let first : Written before 0 bs after n = record {
        next = m ∙ sym (zero-add (length bs));
        bytes = left-whole (accepted bs) small w ∙ sym (patch_front before bs (small bs refl));
      } in
      written_on first l
  answer-line {n = n} (refused k p) small w l =
      let t : accepted n ≡ refused k p = told-whole (refused k p) small w in
      let z : ◌≡◌ {A = ℕ} 0 1 = cc in
      absurd (omega arith)

  pub answer-refused : {done : List ℕ} {k p r : ℕ} (a : Answer (List ℕ))
      → ((bs : List ℕ) → a ≡ accepted bs → length bs ≤ length before)
      → Answers a before after (refused k p)
      → Written after 0 (refusal_line k p) done r
      → Written before 0 (line_of a) done r
  unfolding line_of
  answer-refused {k = k} {p = p} (accepted bs) small w l =
      let t : refused k p ≡ accepted (length bs) = told-whole (accepted bs) small w in
      let z : ◌≡◌ {A = ℕ} 0 1 = cc in
      absurd (omega arith)
  answer-refused {done} {k} {p} {r} (refused k' p') small w l =
      let t : refused k p ≡ refused k' p' = told-whole (refused k' p') small w in
      let e : refusal_line k p ≡ refusal_line k' p' = cc in
      subst (λ (x : List ℕ). Written before 0 x done r) e
      (subst (λ (x : List ℕ). Written x 0 (refusal_line k p) done r) (left-whole (refused k' p') small w) l)

-- What a scan finds at an offset where a blank, a comment, a mark, a separator or a word stands: what it finds after it.
-- Assumes nothing.
use mathlib.Core.Path.{◌≡◌, refl, ◌∙◌, ap, sym, fun_ext}
use mathlib.Core.Bool.{Bool}
use mathlib.Core.List.{List}
use Prim.Native.Nat.{ℕ, ◌+◌, ◌<◌, ◌≤◌}
use native.Mathlib.Nat.{add-zero}
use native.Mathlib.Omega.{arith}
use lib.ListN.{length, drop, length-drop}
use Rattle.text.specs.Bytes.{span}
use Rattle.tokens.specs.Class.{class_of, class_number, class_between}
use Rattle.tokens.specs.Lex.{front_of, follow}
use Rattle.tokens.specs.Next.{Passed, ScansOn, scanned}
use Rattle.tokens.proofs.Classes.{in_range, word-run}
use Rattle.tokens.proofs.Runs.{span-most}
use Rattle.tokens.proofs.Steps.{from, byte, after, step, at_word}

-- a blank or a comment
pub scans_passed : {s : List ℕ} {i r : ℕ} → Passed s i r → ScansOn s i r
scans_passed p = record { same = ap scanned p.same; within = λ l. p.within }

module _ (s : List ℕ) (i : ℕ) (h : i < length s) where
  -- a mark or a separator
  pub scans_mark : class_number (byte s i) ≤ 2 → ScansOn s i (i + 1)
  unfolding front_of follow scanned
  scans_mark l =
      record {
        same =
            ap scanned (step s i h)
            ∙ in_range (λ k. scanned (follow (front_of k (byte s i) (drop (i + 1) s)) i (after s i))) 0 2 (scanned (after s i 0)) refl
            (class_of (byte s i)) (omega arith) l
            ∙ ap (λ (n : ℕ). scanned (from s n)) (add-zero (i + 1));
        within = λ f. omega arith;
      }

  pub scans_word : (n : ℕ) → n ≡ i + 1 + span (class_between 7 9) (drop (i + 1) s) → class_number (byte s i) ≡ 9 → ScansOn s i n
  unfolding scanned
  scans_word n r e =
      record {
        same =
            ap scanned (at_word s i h e)
            ∙ ap (λ (p : ℕ → Bool). scanned (from s (i + 1 + span p (drop (i + 1) s)))) (sym (fun_ext word-run))
            ∙ ap (λ (m : ℕ). scanned (from s m)) (sym r);
        within = λ l. omega (arith, r, simp length-drop at (span-most (class_between 7 9) (drop (i + 1) s)));
      }

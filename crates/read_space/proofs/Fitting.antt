-- The statements of an accepted text fit: each is well formed with its names in the text, and no longer than the canonical text, which is no longer than the text.
-- Assumes nothing.
use mathlib.Core.Path.{◌≡◌, ◌∙◌, ap, subst}
use mathlib.Core.Bool.{true}
use mathlib.Core.List.{List, [], ◌∷◌, map}
use Prim.Native.Nat.{ℕ, zero, suc, ◌≤◌, ◌<◌}
use native.Mathlib.Nat.{le_of_suc-le-suc, not-suc-le-zero}
use native.Mathlib.Omega.{arith}
use lib.ListN.{length, get_or, take, length-map, get_or-map}
use lib.Seq.{get_or-take, length-take-le}
use Rattle.tokens.specs.Spelling.{spell_all}
use Rattle.text.proofs.Passing.{all_at}
use Rattle.reading.specs.Statement.{Statement}
use Rattle.reading.specs.Answer.{accepted}
use Rattle.reading.specs.Read.{read_text}
use Rattle.reading_laws.specs.Spelled.{as_read}
use Rattle.reading_laws.proofs.Joining.{accepted-short}
use Rattle.reading_laws.proofs.Spelled.{text-as_read}
use Rattle.canonical.specs.Canonical.{statement_shapes, text_shapes, canonical}
use Rattle.canonical_laws.specs.Shorter.{widths, statement_widths}
use Rattle.canonical_laws.proofs.Shorter.{not_longer}
use Rattle.canonical_laws.proofs.ShorterLists.{spelled-length, text_shapes-width}
use Rattle.read_space.specs.declared.Form.{Form}
use Rattle.read_space.specs.declared.Space.{Space}
use Rattle.read_space.specs.Space.{form_in, statements_in, Whole}
use Rattle.read_space.specs.Fit.{Fit, FitAll}

-- each statement's bytes, with the `;` behind it, are among those of all
one_width : (ss : List Statement) (k : ℕ) (d : Statement) → k < length ss → widths (statement_shapes (get_or ss k d)) < statement_widths ss
one_width [] k d h = absurd (not-suc-le-zero h)
one_width (s ∷ ss) zero d h = omega arith
one_width (s ∷ ss) (suc k) d h = omega (arith, one_width ss k d (le_of_suc-le-suc h))

-- a statement is not longer than the canonical text that it stands in
pub one_shorter :
    (ss : List Statement) (k : ℕ) (d : Statement)
    → k < length ss
    → length (spell_all (statement_shapes (get_or ss k d))) ≤ length (canonical ss)
one_shorter ss k d h =
    omega (
      arith,
      spelled-length (statement_shapes (get_or ss k d)),
      one_width ss k d h,
      text_shapes-width ss,
      spelled-length (text_shapes ss),
    )

module _ (limit : ℕ) (s : List ℕ) (forms : List Form) (count : ℕ) (held : count ≤ length forms)
    (e : read_text limit s ≡ accepted (map (form_in s) (take count forms))) where
  abbrev kept : List Statement
  kept = map (form_in s) (take count forms)

  -- the statement at an index
  this_one : (d : Form) (k : ℕ) → k < count → get_or kept k (form_in s d) ≡ form_in s (get_or forms k d)
  this_one d k h = get_or-map (form_in s) (take count forms) k d ∙ ap (form_in s) (get_or-take count forms k d h)

  as_many : length kept ≡ count
  as_many = length-map (take count forms) (form_in s) ∙ length-take-le count forms held

  pub forms-fit : (d : Form) (k : ℕ) → k < count → Fit s (get_or forms k d).statement
  forms-fit d k h =
      let q : k < length kept = omega (arith, h, as_many) in
      record {
        limit = limit;
        read =
            subst (λ (x : Statement). as_read limit (length s) x ≡ true) (this_one d k h)
            (all_at (as_read limit (length s)) kept k (form_in s d) (text-as_read limit s kept e) q);
        short =
            subst (λ (x : Statement). length (spell_all (statement_shapes x)) ≤ 16384) (this_one d k h)
            (omega (arith, one_shorter kept k (form_in s d) q, not_longer limit s kept e, accepted-short limit s kept e));
      }

pub space_fits : (limit : ℕ) (s : List ℕ) (r : Space) → Whole r → read_text limit s ≡ accepted (statements_in s r) → FitAll s r
space_fits limit s r w e = forms-fit limit s r.forms r.count (omega (arith, w.wide, w.few)) e

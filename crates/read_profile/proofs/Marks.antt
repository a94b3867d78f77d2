-- A statement's mark by its keyword's place and its first argument.
-- Assumes nothing.
use Prim.Native.Nat.{ℕ, ◌≤◌, ◌<◌}
use native.Mathlib.Omega.{arith}
use mathlib.Core.Path.{◌≡◌, refl, ◌∙◌, ap, sym}
use mathlib.Core.Bool.{Bool, false, cond, ◌&&◌}
use mathlib.Core.List.{List}
use lib.Dec.{leb}
use borrow.Author.Tests.{leb-true, le-leb, lt-leb}
use Rattle.text.proofs.Tests.{and_left, and_right, refuted}
use Rattle.profiling.specs.Profile.{Mark, outside, plain, once, mark_of}
use Rattle.read_forms.specs.declared.TransitCounts.TheVariants as transits
use Rattle.read_forms.specs.declared.Feature.TheVariants.{
  Absorption,
  Elimination,
  Peripherals,
  Transits,
  Lagtime,
  Covariate,
  Allometry,
  DirectEffect,
  EffectComp,
  IndirectEffect,
  Metabolite,
  Iiv,
  Iov,
  Covariance,
}
use Rattle.read_forms.specs.declared.Statement.{Statement}
use Rattle.read_forms.specs.declared.Statement.TheVariants as statement
use Rattle.read_forms.specs.Forms.{transits_in, feature_in, statement_in}
use Rattle.read_parts.specs.declared.Parts.{Parts}
use Rattle.read_parts.specs.Apart.{feature_apart, apart}
use Rattle.read_profile.specs.Answers.{high_part}

abbrev mark_at : ℕ → Bool → Mark
mark_at k h = cond (leb k 4) (once k h) (cond (leb 7 k && leb k 10) outside plain)

marked : (s : List ℕ) (st : Statement) → mark_at (apart st).keyword (high_part s (apart st).first) ≡ mark_of (statement_in s st)
unfolding apart feature_apart statement_in feature_in transits_in
marked s (statement.Let n is) = refl
marked s (statement.Feature (Absorption m)) = refl
marked s (statement.Feature (Elimination m)) = refl
marked s (statement.Feature (Peripherals c k)) = refl
marked s (statement.Feature (Transits transits.N d)) = refl
marked s (statement.Feature (Transits (transits.Counts c) d)) = refl
marked s (statement.Feature (Lagtime m)) = refl
marked s (statement.Feature (Covariate o p c e op)) = refl
marked s (statement.Feature (Allometry c r)) = refl
marked s (statement.Feature (DirectEffect m)) = refl
marked s (statement.Feature (EffectComp m)) = refl
marked s (statement.Feature (IndirectEffect m p)) = refl
marked s (statement.Feature (Metabolite m)) = refl
marked s (statement.Feature (Iiv o p e)) = refl
marked s (statement.Feature (Iov o p e)) = refl
marked s (statement.Feature (Covariance o l p)) = refl

at_once : (k : ℕ) (h : Bool) → k ≤ 4 → mark_at k h ≡ once k h
at_once k h a = simp (le-leb k 4 a)

at_outside : (k : ℕ) (h : Bool) → 7 ≤ k → k ≤ 10 → mark_at k h ≡ outside
at_outside k h a b =
    let c : 4 < k = omega arith in
    simp (lt-leb k 4 c, le-leb 7 k a, le-leb k 10 b)

at_plain : (k : ℕ) (h : Bool) → 4 < k → (7 ≤ k → k ≤ 10 → ⊥) → mark_at k h ≡ plain
at_plain k h a b = simp (lt-leb k 4 a, not-both)
  where
    not-both : leb 7 k && leb k 10 ≡ false
    not-both =
        refuted (leb 7 k && leb k 10)
        (λ e. b (leb-true 7 k (and_left (leb 7 k) (leb k 10) e)) (leb-true k 10 (and_right (leb 7 k) (leb k 10) e)))

-- a statement, by its parts
module _ (s : List ℕ) (st : Statement) (r : Parts) (e : r ≡ apart st) where
  by_parts : mark_at r.keyword (high_part s r.first) ≡ mark_of (statement_in s st)
  by_parts = ap (λ (p : Parts). mark_at p.keyword (high_part s p.first)) e ∙ marked s st

  pub marked-once : r.keyword ≤ 4 → once r.keyword (high_part s r.first) ≡ mark_of (statement_in s st)
  marked-once h = sym (at_once r.keyword (high_part s r.first) h) ∙ by_parts

  pub marked-outside : 7 ≤ r.keyword → r.keyword ≤ 10 → outside ≡ mark_of (statement_in s st)
  marked-outside h k = sym (at_outside r.keyword (high_part s r.first) h k) ∙ by_parts

  pub marked-plain : 4 < r.keyword → (7 ≤ r.keyword → r.keyword ≤ 10 → ⊥) → plain ≡ mark_of (statement_in s st)
  marked-plain h k = sym (at_plain r.keyword (high_part s r.first) h k) ∙ by_parts

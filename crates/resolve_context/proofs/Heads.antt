-- What is handed over, by the tests that the code makes: the definition's tests in another order.
-- Assumes nothing.
use mathlib.Core.Path.{◌≡◌, refl, ◌∙◌, sym}
use mathlib.Core.Bool.{Bool, true, false, ◌&&◌, ◌||◌, and-false}
use mathlib.Core.List.{List}
use Prim.Native.Nat.{ℕ, zero, suc, ◌≤◌, ◌<◌}
use native.Mathlib.Omega.{arith}
use borrow.Author.Tests.{leb-true, le-leb, lt-leb, ne_eqb, eq-eqb}
use lib.Dec.{leb, eqb}
use lib.ListN.{length, get_or}
use Rattle.text.proofs.Tests.{halves}
use Rattle.text.specs.Bytes.{every}
use Rattle.text.specs.Lists.{all, is_nil}
use Rattle.resolving.specs.Handed.{
  bindings_at,
  declared_at,
  iiv_start,
  template_start,
  declared_start,
  columns_start,
  past_all,
  is_run,
  given_in,
  is_handed,
}
use Rattle.resolve_context.specs.Lists.{
  layout_of,
  counts_of,
  mark_fits,
  heads_fit,
  InRun,
  order_of,
  both_of,
  kinds_in,
  kinds_fit,
  lists_of,
  lists_fit,
}
use Rattle.resolve_context.proofs.Pairs.{declared_pairs, binding_pairs, length_pairs, length-bindings, length_declared}

pub record Heads (l : List ℕ) : Type 0 where
  pub long : 7 ≤ length l
  pub parameters : get_or l 0 0 ≤ 64
  pub iiv : get_or l 1 0 ≤ 64
  pub template : get_or l 2 0 ≤ 64
  pub declared : get_or l 3 0 ≤ 64
  pub columns : get_or l 4 0 ≤ 64

pub heads_of : (l : List ℕ) → heads_fit l ≡ true → Heads l
unfolding heads_fit
heads_of l h =
    let a = halves (leb 7 (length l)) _ h in
    let b = halves (every (λ n. leb n 64) (counts_of l)) _ a.1 in
    let c = halves (leb (get_or l 0 0) 64) _ b.0 in
    let d = halves (leb (get_or l 1 0) 64) _ c.1 in
    let e = halves (leb (get_or l 2 0) 64) _ d.1 in
    let f = halves (leb (get_or l 3 0) 64) _ e.1 in
    let g = halves (leb (get_or l 4 0) 64) _ f.1 in
    record {
      long = leb-true 7 _ a.0;
      parameters = leb-true _ 64 c.0;
      iiv = leb-true _ 64 d.0;
      template = leb-true _ 64 e.0;
      declared = leb-true _ 64 f.0;
      columns = leb-true _ 64 g.0;
    }

-- each list lies in a run that is as long as it says
module _ (l : List ℕ) (h : past_all l ≡ length l) where
  pub parameters_in : InRun l (layout_of l).parameters
  unfolding layout_of
  parameters_in = record { wide = omega arith; within = omega arith }

  pub iiv_in : InRun l (layout_of l).iiv
  unfolding layout_of
  iiv_in = record { wide = omega arith; within = omega arith }

  pub both_in : InRun l (both_of (layout_of l).template)
  unfolding layout_of
  both_in = record { wide = omega arith; within = omega arith }

  pub declared_in : InRun l (layout_of l).declared
  unfolding layout_of
  declared_in = record { wide = omega arith; within = omega arith }

  pub columns_in : InRun l (layout_of l).columns
  unfolding layout_of
  columns_in = record { wide = omega arith; within = omega arith }

nil_bindings : (l : List ℕ) (i n : ℕ) → is_nil (bindings_at l i n) ≡ eqb n 0
unfolding bindings_at
nil_bindings l i zero = refl
nil_bindings l i (suc n) = sym (ne_eqb (suc n) 0 (λ e. omega arith))

nil_declared : (l : List ℕ) (i n : ℕ) → is_nil (declared_at l i n) ≡ eqb n 0
unfolding declared_at
nil_declared l i zero = refl
nil_declared l i (suc n) = sym (ne_eqb (suc n) 0 (λ e. omega arith))

-- the tests of the definition, and the same ones in the order of the code
reordered :
    (long full markT markB block counts order kinds noneT noneB : Bool)
    → ((long && (full && (markT && markB))) && (block && (counts && (order && (kinds && (noneT && noneB))))))
    ≡ (block && ((long && (counts && ((markT && noneT) && (markB && noneB)))) && (full && (order && kinds))))
reordered false full markT markB block counts order kinds noneT noneB = simp and-false
reordered true false markT markB block counts order kinds noneT noneB = simp and-false
reordered true true false markB block counts order kinds noneT noneB = simp and-false
reordered true true true false block counts order kinds noneT noneB = simp and-false
reordered true true true true false counts order kinds noneT noneB = refl
reordered true true true true true false order kinds noneT noneB = refl
reordered true true true true true true false kinds noneT noneB = simp and-false
reordered true true true true true true true false noneT noneB = simp and-false
reordered true true true true true true true true false noneB = refl
reordered true true true true true true true true true false = refl
reordered true true true true true true true true true true = refl

pub handed_by : (b l : List ℕ) → is_handed b l ≡ (leb (length b) 16384 && (heads_fit l && (eqb (past_all l) (length l) && lists_fit b l)))
unfolding is_handed is_run given_in heads_fit lists_fit mark_fits layout_of kinds_in
handed_by b l =
    rw (
      length_pairs l 7 2 (get_or l 0 0),
      length_pairs l (iiv_start l) 2 (get_or l 1 0),
      length-bindings l (template_start l) (get_or l 2 0),
      length_declared l (declared_start l) (get_or l 3 0),
      length_pairs l (columns_start l) 2 (get_or l 4 0),
      binding_pairs l (template_start l) (get_or l 2 0),
      declared_pairs l (declared_start l) (get_or l 3 0),
      nil_bindings l (template_start l) (get_or l 2 0),
      nil_declared l (declared_start l) (get_or l 3 0),
    )
    (reordered
    (leb 7 (length l))
    (eqb (past_all l) (length l))
    (leb (get_or l 5 0) 1)
    (leb (get_or l 6 0) 1)
    (leb (length b) 16384)
    (every (λ n. leb n 64) (counts_of l))
    (all (order_of b l) (lists_of (layout_of l)))
    (kinds_fit l (layout_of l).declared)
    (eqb (get_or l 5 0) 1 || eqb (get_or l 2 0) 0)
    (eqb (get_or l 6 0) 1 || eqb (get_or l 3 0) 0))

-- each answer of the code, by these tests
module _ (b l : List ℕ) where
  pub block_long : 16384 < length b → is_handed b l ≡ false
  block_long h = handed_by b l ∙ simp (lt-leb (length b) 16384 h)

  pub heads_amiss : heads_fit l ≡ false → is_handed b l ≡ false
  heads_amiss h = handed_by b l ∙ simp (h, and-false)

  pub run_amiss : (past_all l ≡ length l → ⊥) → is_handed b l ≡ false
  run_amiss h = handed_by b l ∙ simp (ne_eqb (past_all l) (length l) h, and-false)

  pub lists_decide : length b ≤ 16384 → heads_fit l ≡ true → past_all l ≡ length l → is_handed b l ≡ lists_fit b l
  lists_decide h k e = handed_by b l ∙ simp (le-leb (length b) 16384 h, k, eq-eqb (past_all l) (length l) e)

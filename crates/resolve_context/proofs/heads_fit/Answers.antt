-- `resolve_context::heads_fit` meets its contract, test by test. Assumes nothing.
use Rattle.std.proofs.Common.{rules, tests}
use mathlib.Core.Path.{◌≡◌, refl, sym, ◌∙◌, ap}
use mathlib.Core.Bool.{Bool, true, false, ◌&&◌}
use mathlib.Core.List.{List, [], ◌∷◌}
use Prim.Native.Nat.{ℕ, ◌≤◌}
use native.Mathlib.Omega.{arith}
use borrow.Author.Tests.{le-leb, lt-leb}
use lib.Dec.{leb}
use lib.ListN.{length, take, get_or}
use Rattle.std.specs.List.{list_all}
use Rattle.std.proofs.lemmas.Iterator.{YieldsList-from_slice}
use Rattle.std.proofs.lemmas.Iterator.Search.{all_from_yields_List}
use Rattle.text.specs.Bytes.{every}
use Rattle.resolve_context.specs.Lists.{counts_of, mark_fits, heads_fit}
use Rattle.resolve_context.proofs.heads_fit.Goals.{Joined-all, Joined-lists-ge7, then-lists-ge7, else-lists-ge7, then-all, else-all}
use Rattle.resolve_context.proofs.heads_fit.Goals as goal

-- the counts are the first five numbers
counted : (l : List ℕ) → 7 ≤ length l → list_all (λ n. leb n 64) (take 5 l) ≡ every (λ n. leb n 64) (counts_of l)
counted [] h = absurd (omega arith)
counted (a ∷ []) h = absurd (omega arith)
counted (a ∷ b ∷ []) h = absurd (omega arith)
counted (a ∷ b ∷ c ∷ []) h = absurd (omega arith)
counted (a ∷ b ∷ c ∷ d ∷ []) h = absurd (omega arith)
counted (a ∷ b ∷ c ∷ d ∷ e ∷ l) h = refl

chain : (a b c d : Bool) → ((a && b) && c) && d ≡ a && (b && (c && d))
chain true true c d = refl
chain true false c d = refl
chain false b c d = refl

abbrev counts : List ℕ → Bool
counts l = every (λ n. leb n 64) (counts_of l)

first-two : (c : Joined-lists-ge7) → let l = c.args.lists.now in c.if-lists-ge7.value ≡ leb 7 (length l) && counts l
first-two c =
    let l = c.args.lists.now in
    elim c.if-lists-ge7.branch [
      | then-lists-ge7 w ↦
          w.value-is
          ∙ all_from_yields_List (λ n. leb n 64) _ _ w.all.result w.all.ensures.ran (YieldsList-from_slice (take 5 l) w.iter.ensures.rest) (λ x b q k. search (rules, tests))
          ∙ counted l w.if-lists-ge7.true
          ∙ ap (λ (t : Bool). t && counts l) (sym (le-leb 7 (length l) w.if-lists-ge7.true))
      | else-lists-ge7 w ↦ w.value-is ∙ rw (lt-leb 7 (length l) w.if-lists-ge7.false)
    ]

first-three : (c : Joined-all) → let l = c.args.lists.now in c.if-all.value ≡ (leb 7 (length l) && counts l) && mark_fits (get_or l 5 0) (get_or l 2 0)
first-three c =
    let l = c.args.lists.now in
    let m = mark_fits (get_or l 5 0) (get_or l 2 0) in
    let e = first-two (goal.at.Joined-all c).Joined-lists-ge7 in
    elim c.if-all.branch [
      | then-all w ↦ w.value-is ∙ w.mark_fits.ensures ∙ ap (λ (t : Bool). t && m) (sym w.if-all.true ∙ e)
      | else-all w ↦ w.value-is ∙ w.if-all.false ∙ ap (λ (t : Bool). t && m) (sym w.if-all.false ∙ e)
    ]

last : (l : List ℕ) → ((leb 7 (length l) && counts l) && mark_fits (get_or l 5 0) (get_or l 2 0)) && mark_fits (get_or l 6 0) (get_or l 3 0) ≡ heads_fit l
unfolding heads_fit
last l = chain (leb 7 (length l)) (counts l) (mark_fits (get_or l 5 0) (get_or l 2 0)) (mark_fits (get_or l 6 0) (get_or l 3 0))

pub returns-then-mark_fits : goal.returns-then-mark_fits
returns-then-mark_fits c =
    let l = c.args.lists.now in
    let m = mark_fits (get_or l 6 0) (get_or l 3 0) in
    c.mark_fits-then-mark_fits.ensures ∙ ap (λ (t : Bool). t && m) (sym c.if-mark_fits.true ∙ first-three (goal.at.returns-then-mark_fits c).Joined-all) ∙ last l

pub returns-else-mark_fits : goal.returns-else-mark_fits
returns-else-mark_fits c =
    let l = c.args.lists.now in
    let m = mark_fits (get_or l 6 0) (get_or l 3 0) in
    c.if-mark_fits.false ∙ ap (λ (t : Bool). t && m) (sym c.if-mark_fits.false ∙ first-three (goal.at.returns-else-mark_fits c).Joined-all) ∙ last l

-- `read_text::nth` meets its contract. The invariant: the statement at the index is among those left, or it is the one that was kept.
-- Assumes nothing.
use Rattle.std.specs.Prelude.{Option, Some, None, Ok, Err}
use Rattle.std.proofs.Common.{rules}
use Prim.Native.Nat.{ℕ, suc}
use mathlib.Core.Path.{◌≡◌, ◌∙◌, ap, sym, subst}
use mathlib.Core.Option.{some}
use native.Mathlib.Omega.{arith}
use native.Mathlib.Numerals.{add-one}
use Rattle.reading.specs.Read.{between, prepend}
use Rattle.read_forms.specs.declared.Statement.{Statement}
use Rattle.read_forms.specs.Forms.{some_in, statement_in}
use Rattle.read_statements.specs.Answers.{reading_at, next_then, NextFurther}
use Rattle.read_text.proofs.Indexes.{Sought, none_passed, kept_here, passed_by, found_end, found-refused}
use Rattle.read_text.proofs.nth.Goals.{In-Some, Joined-n-index, then-n-index, else-n-index}
use Rattle.read_text.proofs.nth.Goals as goal

-- the statement that was read, and what is left behind it
told :
    (d : In-Some)
    → let a = d.args in
    let s = a.text.now in
    reading_at a.limit s d.loop-next.n between d.loop-next.cur.at
    ≡ prepend (statement_in s d.in-Some.next.statement) (reading_at a.limit s (suc d.loop-next.n) between d.in-Some.next.cursor.at)
unfolding next_then
told d =
    let a = d.args in
    d.next_statement.ensures.at_value ∙ ap (next_then a.limit a.text.now d.loop-next.n) (d.in_ok-next.was ∙ ap Ok d.in-Some.is)

further :
    (d : In-Some)
    → NextFurther d.args.text.now d.loop-next.n d.loop-next.cur.at (Ok (Some d.in-Some.next))
further d = subst (NextFurther _ _ _) (d.in_ok-next.was ∙ ap Ok d.in-Some.is) d.next_statement.ensures.next_further

-- what is sought behind it, after so many and with one kept
abbrev Behind : In-Some → ℕ → Option Statement → Type 0
Behind d k kept =
    let a = d.args in
    let s = a.text.now in
    Sought a.index k (some_in (statement_in s) kept) (reading_at a.limit s 0 between 0)
    (reading_at a.limit s k between d.in-Some.next.cursor.at)

sought_behind :
    (c : Joined-n-index)
    → Behind (goal.at.Joined-n-index c).In-Some (suc c.loop-next.n) c.if-n-index.kept
unfolding some_in
sought_behind c =
    let n = suc c.loop-next.n in
    let g = c.loop-next.invariant.sought in
    elim c.if-n-index.branch [
      | then-n-index w ↦
          subst (Behind (goal.at.Joined-n-index c).In-Some n) (sym w.kept-is)
          (kept_here g _ _ (told (goal.at.Joined-n-index c).In-Some) w.if-n-index.true)
      | else-n-index w ↦
          subst (Behind (goal.at.Joined-n-index c).In-Some n) (sym w.kept-is)
          (passed_by g _ _ (told (goal.at.Joined-n-index c).In-Some) w.if-n-index.false)
    ]

pub loop-next-init : goal.loop-next-init
unfolding some_in
loop-next-init c = record { sought = rw c.new-cur.ensures (none_passed _ _); few = omega arith }

pub overflow_add-n : goal.overflow_add-n
unfolding NextFurther
overflow_add-n c = let f = further (goal.at.overflow_add-n c).In-Some in record { fits = omega (arith, f.0, f.1, c.loop-next.invariant.few) }

pub loop-next-smaller : goal.loop-next-smaller
unfolding NextFurther
loop-next-smaller c = let f = further (goal.at.loop-next-smaller c).In-Some in omega (arith, f.0, f.1)

pub loop-next-preserved : goal.loop-next-preserved
unfolding NextFurther
loop-next-preserved c =
    let f = further (goal.at.loop-next-preserved c).In-Some in
    record {
      sought = subst (λ (k : ℕ). Behind (goal.at.loop-next-preserved c).In-Some k c.if-n-index.kept) (sym (add-one c.loop-next.n)) (sought_behind (goal.at.loop-next-preserved c).Joined-n-index);
      few = omega (arith, f.0, c.loop-next.invariant.few);
    }

pub returns : goal.returns
unfolding next_then
returns c =
    let a = c.args in
    sym
    (found_end c.loop-next.invariant.sought
    (c.next_statement.ensures.at_value ∙ ap (next_then a.limit a.text.now c.loop-next.n) (c.in_ok-next.was ∙ ap Ok c.in_default.is)))

pub returns-in_err-next : goal.returns-in_err-next
unfolding next_then
returns-in_err-next c =
    let a = c.args in
    let told-err : c.from_residual.result ≡ Err c.in_err-next.field-0.0 = search rules in
    rw told-err
    (sym
    (found-refused c.loop-next.invariant.sought _ _
    (c.next_statement.ensures.at_value ∙ ap (next_then a.limit a.text.now c.loop-next.n) c.in_err-next.was)))

-- `read_syntax::read_args` meets its contract. The invariant: arguments were read that are held, none of a LET, and reading from the first is reading
-- on from here behind them. Assumes nothing.
use Rattle.std.specs.Prelude.{Ok, Err}
use Prim.Native.Nat.{◌+◌, ◌<◌, ◌≤◌}
use mathlib.Core.Path.{◌≡◌, refl, ◌∙◌, ap, sym, subst}
use mathlib.Core.Bool.{true, false}
use mathlib.Core.List.{List, [], ◌∷◌, ◌++◌}
use native.Mathlib.Omega.{arith}
use borrow.Author.Rules.{rules}
use borrow.Author.Tests.{eq-eqb, ne_eqb}
use lib.ListN.{length}
use Rattle.reading.specs.Statement.{Name}
use Rattle.reading.specs.Argument as argument
use Rattle.reading.specs.Syntax.{Step, empty}
use Rattle.reading.specs.Syntax as syntax
use Rattle.read_forms.specs.declared.Args.{Args}
use Rattle.read_forms.specs.Forms.{arg_in}
use Rattle.read_forms.specs.Fits.{AllFit}
use Rattle.read_arguments.specs.declared.ArgRead.TheVariants as argRead
use Rattle.read_arguments.specs.Answers.{read_in, step_in, arg_then, ArgFurther, after_then, AfterFurther}
use Rattle.read_syntax.specs.Answers.{call_of, takes_one, call_then, CallFurther}
use Rattle.read_syntax.proofs.Going.{misplaced_then, comma-one, comma-more, closed-made, empty-one, empty-none, empty_some}
use Rattle.read_syntax.proofs.Held.{args_of, added_at, added, Holds, none-held, none-fit, added-fit, added-held}
use Rattle.read_syntax.proofs.read_args.Goals.{After-after_argument, After-argument, At-loop-arg, In-Arg, In-Close, In-Comma, Joined-count, in-0, in-1, in-2, in-3, in_default, then-one-2-via-then-one-2, then-one-2-via-else-one-2+then-count-ne0}
use Rattle.read_syntax.proofs.read_args.Goals as goal

-- the arguments before one is read, and where it is in its place
abbrev held_before : At-loop-arg → Args
held_before l = args_of l.loop-arg.count l.loop-arg.first l.loop-arg.second l.loop-arg.third l.loop-arg.fourth

abbrev held_now : Joined-count → Args
held_now d =
    args_of (d.loop-arg.count + 1) d.match-count.first d.match-count.second d.match-count.third d.match-count.fourth

grown :
    (d : Joined-count)
    → held_now d ≡ added (held_before (goal.at.Joined-count d).At-loop-arg) d.in-Arg.arg
unfolding added_at
grown d =
    let n = d.loop-arg.count in
    elim d.match-count.branch [
      | in-0 w ↦ simp (eq-eqb n 0 w.in-0.is, w.first-is, w.second-is, w.third-is, w.fourth-is)
      | in-1 w ↦ let k = w.in-1.is in simp (ne_eqb n 0 (λ q. omega arith), eq-eqb n 1 k, w.first-is, w.second-is, w.third-is, w.fourth-is)
      | in-2 w ↦
          let k = w.in-2.is in
          simp (ne_eqb n 0 (λ q. omega arith), ne_eqb n 1 (λ q. omega arith), eq-eqb n 2 k, w.first-is, w.second-is, w.third-is, w.fourth-is)
      | in-3 w ↦
          let k = w.in-3.is in
          simp (
            ne_eqb n 0 (λ q. omega arith),
            ne_eqb n 1 (λ q. omega arith),
            ne_eqb n 2 (λ q. omega arith),
            eq-eqb n 3 k,
            w.first-is,
            w.second-is,
            w.third-is,
            w.fourth-is,
          )
      | in_default w ↦
          let r = w.in_default.in_default-own.rest in
          simp (ne_eqb n 0 r.0.0.0.1, ne_eqb n 1 r.0.0.1, ne_eqb n 2 r.0.1, ne_eqb n 3 r.1, w.first-is, w.second-is, w.third-is, w.fourth-is)
    ]

-- how reading goes on from where an argument may start
told :
    (o : After-argument) (k : Name)
    → let a = o.args in
    let s = a.text.now in
    read_in a.limit s (syntax.argument (call_of s k a.head [])) a.cur.at
    ≡ arg_then a.limit s (call_of s k a.head o.loop-arg.invariant.before) o.argument.result
told o k =
    let a = o.args in
    o.loop-arg.invariant.same k ∙ o.argument.ensures.at_value (call_of a.text.now k a.head o.loop-arg.invariant.before)

-- and from what stands behind it
beyond :
    (e : After-after_argument) (k : Name)
    → let a = e.args in
    let s = a.text.now in
    read_in a.limit s (syntax.argument (call_of s k a.head [])) a.cur.at
    ≡ after_then a.limit s (call_of s k a.head e.loop-arg.invariant.before) (arg_in s e.in-Arg.arg) e.after_argument.result
unfolding arg_then
beyond e k =
    let a = e.args in
    let s = a.text.now in
    let call = call_of s k a.head e.loop-arg.invariant.before in
    told (goal.at.After-after_argument e).After-argument k
    ∙ ap (arg_then a.limit s call) (e.in_ok-arg.was ∙ ap Ok e.in-Arg.is)
    ∙ e.after_argument.ensures.by_index a.limit call (arg_in s e.in-Arg.arg)

further :
    (d : In-Arg)
    → ArgFurther d.args.text.now d.loop-arg.from.at (Ok (argRead.Arg d.in-Arg.arg d.in-Arg.end))
further d = subst (ArgFurther _ _) (d.in_ok-arg.was ∙ ap Ok d.in-Arg.is) d.argument.ensures.arg_further

-- what is held where the argument is in its place
abbrev read_now : Joined-count → List argument.Arg
read_now d =
    d.loop-arg.invariant.before ++ arg_in d.args.text.now d.in-Arg.arg ∷ []

held_now_lem :
    (d : Joined-count)
    → Holds d.args.text.now (held_now d) (read_now d)
held_now_lem d =
    let s = d.args.text.now in
    let g = d.loop-arg.invariant in
    subst (λ (r : Args). Holds s r (read_now d)) (sym (grown d))
    (added-held s (held_before (goal.at.Joined-count d).At-loop-arg) d.in-Arg.arg g.before g.held)

fit_now :
    (d : Joined-count)
    → AllFit d.args.text.now (held_now d)
unfolding ArgFurther
fit_now d =
    let g = d.loop-arg.invariant in
    subst (AllFit _) (sym (grown d)) (added-fit _ _ _ g.fit (further (goal.at.Joined-count d).In-Arg).2)

pub loop-arg-init : goal.loop-arg-init
loop-arg-init c =
    let s = c.args.text.now in
    record {
      before = [];
      held = none-held s;
      alone = λ q. refl;
      same = λ k. refl;
      fit = none-fit s;
      few = omega arith;
      past = omega arith;
    }

pub argument-requires : goal.argument-requires
argument-requires c = c.requires

pub overflow_add-count : goal.overflow_add-count
unfolding ArgFurther
overflow_add-count c = let f = further (goal.at.overflow_add-count c).In-Arg in search rules

pub after_argument-requires : goal.after_argument-requires
after_argument-requires c = c.requires

pub returns-then-one : goal.returns-then-one
unfolding after_then
returns-then-one c =
    let a = c.args in
    let s = a.text.now in
    let g = c.loop-arg.invariant in
    let x = arg_in s c.in-Arg.arg in
    let q = misplaced_then a.limit a.cur.at c.in-Comma.o c.in-Comma.next.at s c.misplaced_at.result c.misplaced_at.ensures in record {
      at_value = (λ k.
          beyond (goal.at.returns-then-one c).After-after_argument k
          ∙ ap (after_then a.limit s (call_of s k a.head g.before) x) (c.in_ok-o-in-Arg.was ∙ ap Ok c.in-Comma.is)
          ∙ ap (λ (t : Step). step_in a.limit s t c.in-Comma.next.at)
          (comma-one s k c.in-Comma.o a.head g.before x (sym c.takes_one-one.ensures ∙ c.if-one.true))
          ∙ q.0 k);
      call_further = q.1;
    }

-- the cursor behind a `,` is further on
past-comma :
    (d : In-Comma)
    → let n = d.in-Comma.next.at in
    (d.loop-arg.from.at < n) × (n ≤ length d.args.text.now)
unfolding ArgFurther AfterFurther
past-comma d =
    let f = further (goal.at.In-Comma d).In-Arg in
    let h = subst (AfterFurther _ _) (d.in_ok-o-in-Arg.was ∙ ap Ok d.in-Comma.is) d.after_argument.ensures.after_further in
    (omega (arith, f.0, h.0), h.1)

pub loop-arg-smaller : goal.loop-arg-smaller
loop-arg-smaller c = let f = past-comma (goal.at.loop-arg-smaller c).In-Comma in omega (arith, f.0, f.1)

pub loop-arg-preserved : goal.loop-arg-preserved
unfolding after_then
loop-arg-preserved c =
    let a = c.args in
    let s = a.text.now in
    let g = c.loop-arg.invariant in
    let x = arg_in s c.in-Arg.arg in
    let f = past-comma (goal.at.loop-arg-preserved c).In-Comma in
    let many : takes_one a.head ≡ false = sym c.takes_one-one.ensures ∙ c.if-one.false in
    record {
      before = read_now (goal.at.loop-arg-preserved c).Joined-count;
      held = held_now_lem (goal.at.loop-arg-preserved c).Joined-count;
      alone = λ q. let z : true ≡ false = sym q ∙ many in cc;
      same = λ k.
          beyond (goal.at.loop-arg-preserved c).After-after_argument k
          ∙ ap (after_then a.limit s (call_of s k a.head g.before) x) (c.in_ok-o-in-Arg.was ∙ ap Ok c.in-Comma.is)
          ∙ ap (λ (t : Step). step_in a.limit s t c.in-Comma.next.at) (comma-more s k c.in-Comma.o a.head g.before x many);
      fit = fit_now (goal.at.loop-arg-preserved c).Joined-count;
      few = omega (arith, f.0, g.few);
      past = omega (arith, f.0, g.past);
    }

pub returns-in-Close-2 : goal.returns-in-Close-2
unfolding ArgFurther after_then AfterFurther call_then CallFurther
returns-in-Close-2 c =
    let a = c.args in
    let s = a.text.now in
    let g = c.loop-arg.invariant in
    let x = c.in-Arg.arg in
    let f = further (goal.at.returns-in-Close-2 c).In-Arg in
    let h = subst (AfterFurther _ _) (c.in_ok-o-in-Arg.was ∙ ap Ok c.in-Close-2.is) c.after_argument.ensures.after_further in record {
      at_value = (λ k.
          beyond (goal.at.returns-in-Close-2 c).After-after_argument k
          ∙ ap (after_then a.limit s (call_of s k a.head g.before) (arg_in s x)) (c.in_ok-o-in-Arg.was ∙ ap Ok c.in-Close-2.is)
          ∙ ap (λ (t : Step). step_in a.limit s t c.in-Close-2.next.at)
          (closed-made s k a.limit a.head (held_now (goal.at.returns-in-Close-2 c).Joined-count) x g.before (held_now_lem (goal.at.returns-in-Close-2 c).Joined-count) g.alone));
      call_further = (omega (arith, f.0, g.past, h.0), h.1, fit_now (goal.at.returns-in-Close-2 c).Joined-count);
    }

pub returns-in_err-o-in-Arg : goal.returns-in_err-o-in-Arg
unfolding after_then call_then CallFurther
returns-in_err-o-in-Arg c =
    let a = c.args in
    let s = a.text.now in
    let x = arg_in s c.in-Arg.arg in
    let told : c.from_residual-in_err-o-in-Arg.result ≡ Err c.in_err-o-in-Arg.field-0.0 = search rules in
    rw told
    (record {
      at_value = λ k.
          beyond (goal.at.returns-in_err-o-in-Arg c).After-after_argument k
          ∙ ap (after_then a.limit s (call_of s k a.head c.loop-arg.invariant.before) x) c.in_err-o-in-Arg.was;
      call_further = tt;
    })

-- how reading goes on from a `)` in the place of an argument
shut :
    (d : In-Close) (k : Name)
    → let a = d.args in
    let s = a.text.now in
    read_in a.limit s (syntax.argument (call_of s k a.head [])) a.cur.at
    ≡ step_in a.limit s (empty a.limit d.in-Close.o (call_of s k a.head d.loop-arg.invariant.before)) d.in-Close.next.at
unfolding arg_then
shut d k =
    let a = d.args in
    let s = a.text.now in
    told (goal.at.In-Close d).After-argument k ∙ ap (arg_then a.limit s (call_of s k a.head d.loop-arg.invariant.before)) (d.in_ok-arg.was ∙ ap Ok d.in-Close.is)

pub returns-then-one-2 : goal.returns-then-one-2
returns-then-one-2 c =
    let a = c.args in
    let s = a.text.now in
    let g = c.loop-arg.invariant in
    let q = misplaced_then a.limit a.cur.at c.in-Close.o c.in-Close.next.at s c.misplaced_at-then-one-2.result c.misplaced_at-then-one-2.ensures in record {
      at_value = (λ k.
          shut (goal.at.returns-then-one-2 c).In-Close k
          ∙ ap (λ (t : Step). step_in a.limit s t c.in-Close.next.at)
          (elim c.then-one-2.branch [
            | then-one-2-via-then-one-2 w ↦ empty-one s k a.limit c.in-Close.o a.head g.before (sym c.takes_one-one.ensures ∙ w.if-one-2.true)
            | then-one-2-via-else-one-2+then-count-ne0 w ↦
                empty_some s k a.limit c.in-Close.o a.head (held_before (goal.at.returns-then-one-2 c).At-loop-arg) g.before g.held w.if-count-ne0.true
          ])
          ∙ q.0 k);
      call_further = q.1;
    }

pub returns-in-Close : goal.returns-in-Close
unfolding ArgFurther call_then CallFurther
returns-in-Close c =
    let a = c.args in
    let s = a.text.now in
    let g = c.loop-arg.invariant in
    let f = subst (ArgFurther s c.loop-arg.from.at) (c.in_ok-arg.was ∙ ap Ok c.in-Close.is) c.argument.ensures.arg_further in record {
      at_value = (λ k.
          shut (goal.at.returns-in-Close c).In-Close k
          ∙ ap (λ (t : Step). step_in a.limit s t c.in-Close.next.at)
          (empty-none s k a.limit c.in-Close.o a.head (held_before (goal.at.returns-in-Close c).At-loop-arg) g.before g.held
          (sym c.takes_one-one.ensures ∙ c.if-one-2.false) c.if-count-ne0.false));
      call_further = (omega (arith, f.0, g.past), f.1, g.fit);
    }

pub returns-in_err-arg : goal.returns-in_err-arg
unfolding arg_then call_then CallFurther
returns-in_err-arg c =
    let a = c.args in
    let s = a.text.now in
    let wrong : c.from_residual.result ≡ Err c.in_err-arg.field-0.0 = search rules in
    rw wrong
    (record {
      at_value = λ k.
          told (goal.at.returns-in_err-arg c).After-argument k
          ∙ ap (arg_then a.limit s (call_of s k a.head c.loop-arg.invariant.before)) c.in_err-arg.was;
      call_further = tt;
    })

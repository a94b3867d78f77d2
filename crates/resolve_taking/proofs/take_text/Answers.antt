-- `resolve_taking::take_text` meets its contract: statements are kept as they are read; their LETs are gathered; and they are taken in order. Those that are not
-- kept are read again.
-- Assumes nothing.
use Rattle.std.specs.Prelude.{Ok}
use Prim.Native.Nat.{ℕ, suc, ◌+◌, ◌≤◌, ◌<◌}
use mathlib.Core.List.{List}
use mathlib.Core.Path.{◌≡◌, refl, ◌∙◌, ap, sym, subst, subst₂}
use native.Mathlib.Omega.{arith}
use lib.ListN.{length}
use borrow.Author.Rules.{rules}
use Rattle.reading.specs.Read.{between, prepend}
use Rattle.resolve_context.specs.Lists.{Stands}
use Rattle.resolve_context.proofs.Meaning.{checked_stands, checked_wrong}
use Rattle.read_forms.specs.Fits.{InText, Listed}
use Rattle.read_forms.specs.Faults.{number_of}
use Rattle.read_forms.specs.Forms.{statement_in}
use Rattle.read_statements.specs.Answers.{reading_at, next_then, NextFurther}
use Rattle.print_writing.proofs.Writing.{same-room}
use Rattle.resolve_statements.specs.Tallies.{BringAs, PrintsAs}
use Rattle.resolve_taking.specs.Again.{start_after}
use Rattle.resolve_taking.specs.Collected.{CollectedAll}
use Rattle.resolve_taking.specs.Taken.{TakenAs}
use Rattle.resolve_taking.proofs.Reading.{none_read, refused-read, one_kept, one-passed, same_reading, ahead-start, AllRead, text_statements, all_read, ahead-few, Here, here, here-fits}
use Rattle.resolve_taking.proofs.Gathering.{Gathering, still_quiet, started, all_gathered, feature-passed, key-again, one-gathered, let_stands}
use Rattle.resolve_taking.proofs.Bringing.{none-brought, one-brought, one-refused, all-brought}
use Rattle.resolve_taking.proofs.Refusing.{text-refused, context-refused, let-refused, statement-refused}
use Rattle.resolve_taking.proofs.take_text.Goals.{in-Let+else-has_let+else-lets-n, in-Feature, After-bring_one, After-later-1, After-loop-i, After-statement_at-again, After-statement_at-again-in-loop-k, At-loop-i, At-loop-k, Else-has_let, In-Ok-None, In-Let, In-Ok-Some, In-loop-i, In-loop-k, else-count-lt-FEW, then-count-lt-FEW}
use Rattle.resolve_taking.proofs.take_text.Goals as goal

-- Reading.
pub loop-next-init : goal.loop-next-init
loop-next-init c = rw c.new-cur.ensures (none_read _ _ _ c.no_forms-forms.ensures)

pub next_statement-requires : goal.next_statement-requires
next_statement-requires c = let p = c.requires in (p.0, p.1, p.2, c.loop-next.invariant.few)

-- a statement's end lies behind its start, and there were not 256 before it
forward : (c : In-Ok-Some)
    → (c.loop-next.cur.at < c.in-Ok-Some.next.cursor.at) × (c.in-Ok-Some.next.cursor.at ≤ length c.args.text.now) × (c.loop-next.count < 256)
unfolding NextFurther
forward c =
    subst (NextFurther c.args.text.now c.loop-next.count c.loop-next.cur.at) (c.in-Ok-Some.is ∙ ap Ok c.in-Ok-Some.field-0-is) c.next_statement.ensures.next_further

-- it stands before all that is left
stands-next : (c : In-Ok-Some)
    → let s = c.args.text.now in
    let limit = c.args.limit in
    reading_at limit s c.loop-next.count between c.loop-next.cur.at
    ≡ prepend (statement_in s c.in-Ok-Some.next.statement) (reading_at limit s (suc c.loop-next.count) between c.in-Ok-Some.next.cursor.at)
unfolding next_then
stands-next c = c.next_statement.ensures.at_value ∙ ap (next_then _ _ _) (c.in-Ok-Some.is ∙ ap Ok c.in-Ok-Some.field-0-is)

pub lets_end-end-requires : goal.lets_end-end-requires
lets_end-end-requires c = (forward (goal.at.lets_end-end-requires c).In-Ok-Some).2

pub offset_bounds-forms-count : goal.offset_bounds-forms-count
offset_bounds-forms-count c = omega (arith, c.if-count-lt-FEW.true)

pub bounds-forms-count : goal.bounds-forms-count
bounds-forms-count c = omega (arith, c.if-count-lt-FEW.true)

pub lets_start-start-requires : goal.lets_start-start-requires
lets_start-start-requires c = (forward (goal.at.lets_start-start-requires c).In-Ok-Some).2

pub overflow_add-count : goal.overflow_add-count
overflow_add-count c = omega (arith, (forward (goal.at.overflow_add-count c).In-Ok-Some).2)

pub loop-next-smaller : goal.loop-next-smaller
loop-next-smaller c = omega (arith, forward (goal.at.loop-next-smaller c).In-Ok-Some)

pub loop-next-preserved : goal.loop-next-preserved
loop-next-preserved c =
    let h = forward (goal.at.loop-next-preserved c).In-Ok-Some in
    elim c.if-count-lt-FEW.branch [
      | then-count-lt-FEW w ↦
          same_reading w.forms-is w.later-is
          (w.start-is ∙ w.lets_start-start.ensures ∙ ap (start_after c.loop-next.count c.loop-next.start) c.lets_end-end.ensures) c.lets_end-end.ensures
          (one_kept c.loop-next.invariant c.in-Ok-Some.next.statement c.in-Ok-Some.next.cursor.at (stands-next (goal.at.loop-next-preserved c).In-Ok-Some) h.0 h.2 w.if-count-lt-FEW.true)
      | else-count-lt-FEW w ↦
          same_reading w.forms-is w.later-is w.start-is c.lets_end-end.ensures
          (one-passed c.loop-next.invariant c.in-Ok-Some.next.statement c.in-Ok-Some.next.cursor.at (stands-next (goal.at.loop-next-preserved c).In-Ok-Some) h.0 h.2 w.if-count-lt-FEW.false)
    ]

pub earliest-refusal-requires : goal.earliest-refusal-requires
earliest-refusal-requires c = c.requires.0

pub returns-in-Err : goal.returns-in-Err
unfolding next_then TakenAs
returns-in-Err c =
    text-refused c.args.limit _ _ _
    (c.earliest-refusal.ensures c.args.limit c.requires.3
    (refused-read c.loop-next.invariant _ _ (c.next_statement.ensures.at_value ∙ ap (next_then _ _ _) c.in-Err.is)))

whole : (e : In-Ok-None)
    → let a = e.args in
    AllRead a.limit a.text.now (text_statements a.limit a.text.now) e.loop-next.forms e.loop-next.count e.loop-next.later.at e.loop-next.start e.loop-next.end
unfolding next_then
whole e =
    all_read e.loop-next.invariant e.requires.3 (e.next_statement.ensures.at_value ∙ ap (next_then _ _ _) (e.in-Ok-None.is ∙ ap Ok e.in-Ok-None.field-0-is))

-- The context.
pub check-requires : goal.check-requires
check-requires c = c.requires.0

pub returns-in_default : goal.returns-in_default
unfolding TakenAs
returns-in_default c =
    context-refused c.args.limit _ _ _ (whole (goal.at.returns-in_default c).In-Ok-None).read (checked_wrong _ _ (sym c.check.ensures ∙ c.in_default.is))

stands : (m : At-loop-i)
    → let a = m.args in
    Stands a.block.now a.lists.now m.in-Some.layout
stands m =
    checked_stands _ _ _ (sym m.check.ensures ∙ m.in-Some.is)

-- LETs.
pub loop-i-init : goal.loop-i-init
loop-i-init c =
    let w = whole (goal.at.loop-i-init c).In-Ok-None in
    (started _ _ _ _ (omega (arith, w.early.0, w.many)) w.calm, ahead-start w, refl)

pub offset_bounds-forms-slot : goal.offset_bounds-forms-slot
offset_bounds-forms-slot c = omega (arith, c.slot.ensures.0)

pub bounds-forms-slot : goal.bounds-forms-slot
bounds-forms-slot c = omega (arith, c.slot.ensures.0)

-- the index of a turn lies among the statements
within : (t : In-loop-i)
    → let a = t.args in
    (t.loop-i.i < t.loop-next.count) × (t.loop-i.i < length (text_statements a.limit a.text.now)) × (t.loop-i.i < 256)
within t =
    let w = whole (goal.at.In-loop-i t).In-Ok-None in
    (omega (arith, t.loop-i-test.true, w.bound), omega (arith, t.loop-i-test.true, w.bound, w.many), omega (arith, t.loop-i-test.true, w.bound, w.most))

pub statement_at-again-requires : goal.statement_at-again-requires
statement_at-again-requires c =
    let p = c.requires in
    (p.0, p.1, p.2, λ q. ahead-few c.loop-i.invariant.1 (within (goal.at.statement_at-again-requires c).In-loop-i).1 q)

-- the statement of a turn
stands_here : (x : After-statement_at-again)
    → let a = x.args in
    Here a.limit a.text.now (text_statements a.limit a.text.now) x.loop-i.i x.statement_at-again.result
stands_here x =
    here (whole (goal.at.After-statement_at-again x).In-Ok-None) x.loop-i.invariant.1 (within (goal.at.After-statement_at-again x).In-loop-i).0 _ x.slot.ensures.1 x.statement_at-again.ensures

-- a LET's name and values
let_here : (x : In-Let)
    → let s = x.args.text.now in
    InText s x.in-Let.name × Listed s x.in-Let.values
let_here x =
    let_stands _ _ x.in-Let.name x.in-Let.values
    (here-fits (whole (goal.at.In-Let x).In-Ok-None).read (within (goal.at.In-Let x).In-loop-i).1 (stands_here (goal.at.In-Let x).After-statement_at-again)) x.in-Let.is

pub has_let-requires : goal.has_let-requires
has_let-requires c =
    (c.loop-i.invariant.0.fit, (let_here (goal.at.has_let-requires c).In-Let).0)

pub shape_of-lets-then-has_let : goal.shape_of-lets-then-has_let
shape_of-lets-then-has_let c = c.loop-i.invariant.2

pub returns-then-has_let : goal.returns-then-has_let
unfolding TakenAs
returns-then-has_let c =
    let-refused c.args.limit _ _ _ (whole (goal.at.returns-then-has_let c).In-Ok-None).read (stands (goal.at.returns-then-has_let c).At-loop-i).is
    (key-again c.loop-i.invariant.0 _ (stands_here (goal.at.returns-then-has_let c).After-statement_at-again).first c.in-Let.name c.in-Let.values c.in-Let.is
    c.has_let.ensures c.if-has_let.true)

-- there is one less than there are statements
below : (e : Else-has_let) → e.loop-i.n < 256
below e = omega (arith, (within (goal.at.Else-has_let e).In-loop-i).2, e.loop-i.invariant.0.few)

pub overflow_mul-n : goal.overflow_mul-n
overflow_mul-n c = omega (arith, below (goal.at.overflow_mul-n c).Else-has_let)

pub overflow_add-n : goal.overflow_add-n
overflow_add-n c = omega (arith, below (goal.at.overflow_add-n c).Else-has_let)

pub shape_of-lets-then-lets-n : goal.shape_of-lets-then-lets-n
shape_of-lets-then-lets-n c = c.loop-i.invariant.2

pub returns-then-lets-n : goal.returns-then-lets-n
unfolding TakenAs
returns-then-lets-n c = omega (arith, c.if-lets-n.true, below (goal.at.returns-then-lets-n c).Else-has_let, c.loop-i.invariant.2)

pub put_let-requires : goal.put_let-requires
put_let-requires c = (
  c.loop-i.invariant.0.fit,
  below (goal.at.put_let-requires c).Else-has_let,
  omega (arith, c.if-lets-n.false),
  c.requires.3.short,
  (let_here (goal.at.put_let-requires c).In-Let).0,
  (let_here (goal.at.put_let-requires c).In-Let).1,
)

pub overflow_add-n-in-Let : goal.overflow_add-n-in-Let
overflow_add-n-in-Let c = omega (arith, below (goal.at.overflow_add-n-in-Let c).Else-has_let)

pub loop-i-preserved : goal.loop-i-preserved
loop-i-preserved c =
    let x = stands_here (goal.at.loop-i-preserved c).After-statement_at-again in
    let next = λ (ls : List ℕ) (n : ℕ). Gathering c.args.text.now (text_statements c.args.limit c.args.text.now) ls n (c.loop-i.i + 1) in (
      elim c.match-statement.branch [
        | in-Let+else-has_let+else-lets-n w ↦
            subst₂ next (sym w.lets-is) (sym w.n-is)
            (one-gathered c.loop-i.invariant.0 _ x.first w.in-Let.name w.in-Let.values w.in-Let.is w.has_let.ensures w.if-has_let.false w.put_let.ensures)
        | in-Feature w ↦
            subst₂ next (sym w.lets-is) (sym w.n-is) (feature-passed c.loop-i.invariant.0 _ x.first w.in-Feature.field-0 w.in-Feature.is)
      ],
      x.ahead,
      c.match-statement.auto.lets ∙ c.loop-i.invariant.2,
    )

-- all LETs stand in the run
collected : (b : After-loop-i)
    → let a = b.args in
    CollectedAll a.text.now (text_statements a.limit a.text.now) b.loop-i.lets b.loop-i.n
collected b =
    let a = b.args in
    let w = whole (goal.at.After-loop-i b).In-Ok-None in
    all_gathered b.loop-i.invariant.0
    (still_quiet (text_statements a.limit a.text.now) b.loop-next.end b.loop-i.i (omega (arith, b.loop-i-test.false)) w.quiet)

-- What they bring.
pub loop-k-init : goal.loop-k-init
loop-k-init c = (none-brought _ _ _ _ _, (whole (goal.at.loop-k-init c).In-Ok-None).ahead, refl, refl, refl)

pub offset_bounds-forms-slot-in-loop-k : goal.offset_bounds-forms-slot-in-loop-k
offset_bounds-forms-slot-in-loop-k c = omega (arith, c.slot-in-loop-k.ensures.0)

pub bounds-forms-slot-in-loop-k : goal.bounds-forms-slot-in-loop-k
bounds-forms-slot-in-loop-k c = omega (arith, c.slot-in-loop-k.ensures.0)

within3 : (t : In-loop-k)
    → let a = t.args in
    (t.loop-k.k < t.loop-next.count) × (t.loop-k.k < length (text_statements a.limit a.text.now)) × (t.loop-k.k < 256)
within3 t =
    let w = whole (goal.at.In-loop-k t).In-Ok-None in
    (t.loop-k-test.true, omega (arith, t.loop-k-test.true, w.many), omega (arith, t.loop-k-test.true, w.most))

pub statement_at-again-requires-in-loop-k : goal.statement_at-again-requires-in-loop-k
statement_at-again-requires-in-loop-k c =
    let p = c.requires in
    (p.0, p.1, p.2, λ x. ahead-few c.loop-k.invariant.1 (within3 (goal.at.statement_at-again-requires-in-loop-k c).In-loop-k).1 x)

taken_here : (x : After-statement_at-again-in-loop-k)
    → let a = x.args in
    Here a.limit a.text.now (text_statements a.limit a.text.now) x.loop-k.k x.statement_at-again-in-loop-k.result
taken_here x =
    here (whole (goal.at.After-statement_at-again-in-loop-k x).In-Ok-None) x.loop-k.invariant.1 (within3 (goal.at.After-statement_at-again-in-loop-k x).In-loop-k).0 _ x.slot-in-loop-k.ensures.1 x.statement_at-again-in-loop-k.ensures

pub bring_one-requires : goal.bring_one-requires
bring_one-requires c =
    let p = c.requires in
    let g = c.loop-k.invariant.0 in
    let h = (within3 (goal.at.bring_one-requires c).In-loop-k).2 in (
      p.0,
      p.1,
      p.2,
      stands (goal.at.bring_one-requires c).At-loop-i,
      c.loop-i.invariant.0.fit,
      here-fits (whole (goal.at.bring_one-requires c).In-Ok-None).read (within3 (goal.at.bring_one-requires c).In-loop-k).1 (taken_here (goal.at.bring_one-requires c).After-statement_at-again-in-loop-k),
      h,
      omega (arith, g.few, h),
      omega (arith, g.small, h),
      omega (arith, g.stay, h),
      omega (arith, g.noted, h),
    )

pub loop-k-preserved : goal.loop-k-preserved
unfolding BringAs PrintsAs
loop-k-preserved c =
    let x = taken_here (goal.at.loop-k-preserved c).After-statement_at-again-in-loop-k in
    let h = subst (BringAs _ _ c.loop-k.tally c.loop-k.terms c.loop-k.dropped c.bring_one.new.terms c.bring_one.new.dropped) c.in-Ok.is c.bring_one.ensures.bring_as in
    let w = subst (PrintsAs _ c.loop-k.tally c.loop-k.out c.bring_one.new.out) c.in-Ok.is c.bring_one.ensures.prints_as in
    let i = c.loop-k.invariant in (
      one-brought i.0 _ x.first h.brought h.adds (w h.what h.brought),
      x.ahead,
      same-room (w h.what h.brought) ∙ i.2,
      same-room h.adds.terms ∙ i.3,
      same-room h.adds.dropped ∙ i.4,
    )

pub shape_of-lets-in-Err-bring_one : goal.shape_of-lets-in-Err-bring_one
shape_of-lets-in-Err-bring_one c = c.loop-i.invariant.2

pub shape_of-terms-in-Err-bring_one : goal.shape_of-terms-in-Err-bring_one
shape_of-terms-in-Err-bring_one c = search (rules, c.loop-k.invariant.3)

pub shape_of-dropped-in-Err-bring_one : goal.shape_of-dropped-in-Err-bring_one
shape_of-dropped-in-Err-bring_one c = search (rules, c.loop-k.invariant.4)

pub shape_of-out-in-Err-bring_one : goal.shape_of-out-in-Err-bring_one
shape_of-out-in-Err-bring_one c = search (rules, c.loop-k.invariant.2)

pub returns-in-Err-bring_one : goal.returns-in-Err-bring_one
unfolding TakenAs BringAs
returns-in-Err-bring_one c =
    let h = subst (BringAs _ _ _ _ _ _ _) c.in-Err-bring_one.is c.bring_one.ensures.bring_as in
    statement-refused c.args.limit _ _ _ (whole (goal.at.returns-in-Err-bring_one c).In-Ok-None).read (stands (goal.at.returns-in-Err-bring_one c).At-loop-i).is (collected (goal.at.returns-in-Err-bring_one c).After-loop-i)
    (one-refused c.loop-k.invariant.0 _ (taken_here (goal.at.returns-in-Err-bring_one c).After-statement_at-again-in-loop-k).first (number_of c.in-Err-bring_one.fault) h)

pub shape_of-lets : goal.shape_of-lets
shape_of-lets c = c.loop-i.invariant.2

pub shape_of-terms : goal.shape_of-terms
shape_of-terms c = c.loop-k.invariant.3

pub shape_of-dropped : goal.shape_of-dropped
shape_of-dropped c = c.loop-k.invariant.4

pub shape_of-out : goal.shape_of-out
shape_of-out c = c.loop-k.invariant.2

pub returns : goal.returns
unfolding TakenAs
returns c =
    let a = c.args in
    let w = whole (goal.at.returns c).In-Ok-None in
    let g = c.loop-k.invariant.0 in
    record {
      handed = (stands (goal.at.returns c).At-loop-i).is;
      statements = text_statements a.limit a.text.now;
      read = w.read;
      most = omega (arith, w.many, w.most);
      run = c.loop-i.lets;
      n = c.loop-i.n;
      collected = collected (goal.at.returns c).After-loop-i;
      brought =
          record {
            what = g.what;
            brought = all-brought g (omega (arith, w.many, c.loop-k-test.false));
            added = g.added;
            small = omega (arith, g.small, c.loop-k.auto.k-end, w.most);
          };
      text = g.text;
    }

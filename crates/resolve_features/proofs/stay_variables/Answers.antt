-- `resolve_features::stay_variables` meets its contract: what the operand answered is refused, or its indexes are too few, or they are written.
-- Assumes nothing.
use Rattle.read_forms.specs.declared.Fault.{Fault}
use Rattle.std.proofs.lemmas.Result.{err_from_is_err_and}
use Prim.Native.Nat.{ℕ, ◌≤◌}
use mathlib.Core.Path.{◌≡◌, refl, sym, subst}
use mathlib.Core.List.{List}
use native.Mathlib.Omega.{arith}
use borrow.Author.Tests.{lt-ltb, le-ltb}
use lib.ListN.{length, take}
use Rattle.reading.specs.Answer.{Answer}
use Rattle.read_forms.specs.Forms.{modes_in}
use Rattle.resolving.specs.Brought.{whole}
use Rattle.resolving.specs.Handed.{handed_context}
use Rattle.resolve_context.specs.declared.Layout.{Layout}
use Rattle.resolve_context.specs.Lists.{names_in, Stands, layout_of}
use Rattle.resolve_context.proofs.Meaning.{handed-heads_fit, parameters-are, parameters_sound}
use Rattle.std.specs.Prelude as prelude
use Rattle.resolve_operands.specs.Picked.{Indexes, Picked}
use Rattle.resolve_operands.specs.Entries.{EntriesAs, parameters_in}
use Rattle.canonical.specs.Lines.{joint_of}
use Rattle.print_writing.proofs.Writing.{room-same}
use Rattle.print_writing.proofs.Going.{going, further, finished, room-left, room-first}
use Rattle.resolve_grounding.specs.Listed.{variable_bytes}
use Rattle.resolve_grounding.proofs.Sizes.{whole-few, variables_short}
use Rattle.resolve_features.specs.Stays.{VariablesAs}
use Rattle.resolve_features.proofs.Variables.{picked_many, names-short, piece-small, piece-room}
use Rattle.resolve_features.proofs.stay_variables.Goals.{After-parameters_of, After-read_layout-layout, Else-count-least, In_ok-count, Start}
use Rattle.resolve_features.proofs.stay_variables.Goals as goal

abbrev start : After-parameters_of → Start
start p = (goal.at.After-parameters_of p).Start

-- what the operand answered, with the array that was lent
module _ (p : After-parameters_of) where
  abbrev lent : List ℕ
  lent = p.parameters_of.new.indexes

  abbrev operand : Answer (List ℕ)
  operand =
      let a = p.args in
      parameters_in a.text.now a.lets.now a.n a.block.now a.lists.now a.star.now a.parameters

  looked : {r : prelude.Result ℕ Fault} → p.parameters_of.result ≡ r → EntriesAs (layout_of p.args.lists.now).parameters.count operand lent r
  looked e =
      subst (EntriesAs (layout_of p.args.lists.now).parameters.count operand lent) e p.parameters_of.ensures

pub returns-in_err-count : goal.returns-in_err-count
unfolding VariablesAs
returns-in_err-count c =
    let p = err_from_is_err_and c.from_residual.result c.from_residual.ensures.1 in
    rw (p.1, p.2) (looked (goal.at.returns-in_err-count c).After-parameters_of c.in_err-count.was, refl)

-- it has indexes
module _ (k : In_ok-count) where
  abbrev answered : After-parameters_of
  answered = (goal.at.In_ok-count k).After-parameters_of

  abbrev count : ℕ
  count = k.in_ok-count.count

  abbrev list : List ℕ
  list = take count (lent answered)

  picked : Picked (layout_of answered.args.lists.now).parameters.count (operand answered) (lent answered) count
  picked = looked answered k.in_ok-count.was

pub returns-then-count-least : goal.returns-then-count-least
unfolding VariablesAs
returns-then-count-least c =
    record {
      indexes = list (goal.at.returns-then-count-least c).In_ok-count;
      found = (picked (goal.at.returns-then-count-least c).In_ok-count).found;
      tooFew = lt-ltb (length (list (goal.at.returns-then-count-least c).In_ok-count)) (start (answered (goal.at.returns-then-count-least c).In_ok-count)).args.least (omega (arith, c.if-count-least.true, picked_many (picked (goal.at.returns-then-count-least c).In_ok-count)));
      same = refl;
    }

abbrev own : In_ok-count → List ℕ
own k =
    let a = (start (answered k)).args in
    variable_bytes a.keyword a.optional (handed_context a.block.now a.lists.now).parameters (list k) a.family
    (whole a.family (modes_in a.modes)) a.named

own-short : (k : In_ok-count) → length (own k) ≤ 20000
own-short k =
    let s = start (answered k) in
    let a = s.args in
    omega (
      arith,
      variables_short (handed_context a.block.now a.lists.now).parameters
          (names-short a.block.now a.lists.now (layout_of a.lists.now) (record { is = s.requires.3; there = refl }))
          (list k) (picked k).indexes.few a.family (whole a.family (modes_in a.modes))
          (whole-few a.family a.modes) a.keyword a.optional a.named,
    )

-- behind the tests
abbrev begun : Else-count-least → Start
begun e = start (answered (goal.at.Else-count-least e).In_ok-count)

pub put_joint-next-requires : goal.put_joint-next-requires
put_joint-next-requires c =
    let s = begun (goal.at.put_joint-next-requires c).Else-count-least in
    room-first (joint_of s.args.before) (own (goal.at.put_joint-next-requires c).In_ok-count) (piece-room s.args.before (own (goal.at.put_joint-next-requires c).In_ok-count) (own-short (goal.at.put_joint-next-requires c).In_ok-count) s.args.at s.requires.7)
    (going s.args.out.now s.args.at _)

-- with the layout
module _ (y : After-read_layout-layout) where
  abbrev told : In_ok-count
  told = (goal.at.After-read_layout-layout y).In_ok-count

  abbrev top : Start
  top = start (answered told)

  abbrev layout : Layout
  layout = y.read_layout-layout.result

  stands : let a = top.args in Stands a.block.now a.lists.now layout
  stands = record { is = top.requires.3; there = y.read_layout-layout.ensures }

  -- the bytes as the code has them
  same :
      let a = top.args in
      own told
      ≡ variable_bytes a.keyword a.optional (names_in a.block.now a.lists.now layout.parameters) (list told) a.family
      (modes_in y.whole_modes-whole.result) a.named
  same =
      let a = top.args in
      rw (parameters-are a.block.now a.lists.now layout stands, y.whole_modes-whole.ensures) refl

pub slice_bounds-list-end : goal.slice_bounds-list-end
slice_bounds-list-end y = let q = picked (told (goal.at.slice_bounds-list-end y).After-read_layout-layout) in omega (arith, q.few, q.size)

pub put_variables-requires : goal.put_variables-requires
put_variables-requires c =
    let k = told (goal.at.put_variables-requires c).After-read_layout-layout in
    let s = top (goal.at.put_variables-requires c).After-read_layout-layout in (
      s.requires.1,
      s.requires.2,
      parameters_sound s.args.block.now s.args.lists.now (layout (goal.at.put_variables-requires c).After-read_layout-layout) (stands (goal.at.put_variables-requires c).After-read_layout-layout),
      subst (λ (l : Layout). Indexes l.parameters.count (list k)) (sym c.read_layout-layout.ensures) (picked k).indexes,
      s.requires.6,
      room-same c.put_joint-next.result (same (goal.at.put_variables-requires c).After-read_layout-layout)
          (room-left {left = own k} (piece-room s.args.before (own k) (own-short k) s.args.at s.requires.7)
          (further (going _ _ _) c.put_joint-next.ensures)),
    )

pub returns : goal.returns
unfolding VariablesAs
returns c =
    let k = told (goal.at.returns c).After-read_layout-layout in
    let s = top (goal.at.returns c).After-read_layout-layout in
    record {
      indexes = list k;
      found = (picked k).found;
      enough = le-ltb (length (list k)) s.args.least (omega (arith, c.if-count-least.false, picked_many (picked k)));
      written = finished (further (going _ _ _) c.put_joint-next.ensures) (rw (same (goal.at.returns c).After-read_layout-layout) c.put_variables.ensures);
      small = piece-small s.args.before (own k) (own-short k);
    }

pub read_layout-layout-requires : goal.read_layout-layout-requires
read_layout-layout-requires c = handed-heads_fit _ _ (begun (goal.at.read_layout-layout-requires c).Else-count-least).requires.3

pub slice_bounds-put_variables-end : goal.slice_bounds-put_variables-end
slice_bounds-put_variables-end c = sym (picked_many (picked (told (goal.at.slice_bounds-put_variables-end c).After-read_layout-layout)))

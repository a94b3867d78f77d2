-- `resolve_operands::hold` meets its contract: in each turn, what the entries so far brought is held, what is picked are their indexes, and the next entry
-- is read at the cursor, if it stands in the text. Assumes nothing.
use mathlib.Core.Path.{◌≡◌, sym, ap, ◌∙◌, subst, subst₂}
use mathlib.Core.List.{List}
use mathlib.Core.Option.{some}
use Prim.Native.Nat.{ℕ, ◌+◌, ◌≤◌, ◌<◌}
use native.Mathlib.Omega.{arith}
use lib.ListN.{length}
use Rattle.reading.specs.Answer.{Answer, accepted}
use Rattle.text.specs.Lists.{same_bytes}
use Rattle.resolving.specs.Operands.{held}
use Rattle.resolving.specs.Handed.{handed_context}
use Rattle.resolving_laws.proofs.Fewness.{place-below}
use Rattle.read_forms.specs.declared.Items.{Items}
use Rattle.resolve_context.specs.Lists.{names_in}
use Rattle.resolve_context.proofs.Pairs.{names-length}
use Rattle.resolve_symbols.specs.Sources.{source_list}
use Rattle.resolve_symbols.specs.Brings.{brought_by, named_as}
use Rattle.read_forms.specs.declared.Fault.{Fault}
use Rattle.read_forms.specs.Faults.{number_of}
use Rattle.std.specs.Prelude as prelude
use Rattle.std.proofs.lemmas.Result.{err_from_is_err_and}
use Rattle.resolve_operands.specs.Picked.{Picked}
use Rattle.resolve_operands.specs.Named.{extent_of, names_at, EntryAt, Word, PlacedAs}
use Rattle.resolve_operands.proofs.Bringing.{HeldSoFar, brings-none, brings-pair, brings-nothing, brings-missing, brings-end}
use Rattle.resolve_operands.proofs.Naming.{all_named, extent_few, first_read}
use Rattle.resolve_operands.proofs.hold.Goals.{After-place_of, At-loop-i, In-Some, In-loop-i, Start, in-Some, in_default}
use Rattle.resolve_operands.proofs.hold.Goals as goal

abbrev begun : At-loop-i → Start
begun l = (goal.at.At-loop-i l).Start

module _ (s : Start) where
  abbrev entries : List (List ℕ)
  entries = names_in s.args.block.now s.args.lists.now s.args.target

  abbrev each : ℕ → List (List ℕ)
  each = names_at s.args.text.now s.args.block.now s.args.lists.now s.args.layout s.args.source

  abbrev all : ℕ
  all = (extent_of s.args.layout s.args.source).count

  entries-many : length entries ≡ s.args.target.count
  entries-many = names-length s.args.block.now s.args.lists.now s.args.target

  -- what all entries bring are the source's names
  as_source :
      held entries (accepted (brought_by each all))
      ≡ held entries (accepted (source_list (handed_context s.args.block.now s.args.lists.now) s.args.text.now s.args.source))
  as_source =
      ap (λ (ws : List (List ℕ)). held entries (accepted ws))
      (all_named s.args.block.now s.args.lists.now s.args.layout s.requires.1 s.args.text.now s.args.source s.requires.2)

-- the source has at most 64 entries
counted : (l : At-loop-i) → l.extent_of-extent.result.count ≡ all (begun l)
counted l = ap (λ (e : Items). e.count) l.extent_of-extent.ensures

few : (l : At-loop-i) → l.extent_of-extent.result.count ≤ 64
few l =
    let s = begun l in
    let f =
    extent_few s.args.block.now s.args.lists.now s.args.layout s.requires.1 s.args.text.now s.args.source s.requires.2 in
    omega (arith, counted l, f)

below : (t : In-loop-i) → t.loop-i.i < all (begun (goal.at.In-loop-i t).At-loop-i)
below t = subst (λ (n : ℕ). t.loop-i.i < n) (counted (goal.at.In-loop-i t).At-loop-i) t.loop-i-test.true

-- there is room for another
room : (t : In-loop-i) → (t.loop-i.n < 64) × (t.loop-i.i < 64)
room t =
    let f = few (goal.at.In-loop-i t).At-loop-i in
    let h = t.loop-i-test.true in
    let m = t.loop-i.invariant.0.most in
    (omega (arith, f, h, m), omega (arith, f, h))

pub loop-i-init : goal.loop-i-init
loop-i-init c = (
  brings-none (entries (goal.at.loop-i-init c).Start) (each (goal.at.loop-i-init c).Start) _ c.requires.4,
  subst (λ (x : Items). EntryAt c.args.text.now c.args.source 0 x.first.at) (sym c.extent_of-extent.ensures)
      (first_read c.args.text.now c.args.layout c.args.source),
)

pub next_name-here-requires : goal.next_name-here-requires
next_name-here-requires c =
    let s = begun (goal.at.next_name-here-requires c).At-loop-i in
    (s.requires.0, s.requires.1, s.requires.2, below (goal.at.next_name-here-requires c).In-loop-i, c.loop-i.invariant.1)

pub place_of-requires : goal.place_of-requires
place_of-requires c = ((begun (goal.at.place_of-requires c).At-loop-i).requires.3, c.next_name-here.ensures.fits)

-- what looking the name up says of it
module _ (c : After-place_of) where
  abbrev turn : In-loop-i
  turn = (goal.at.After-place_of c).In-loop-i

  abbrev top : Start
  top = (goal.at.After-place_of c).Start

  abbrev names : List (List ℕ)
  names = named_as top.args.text.now top.args.block.now c.next_name-here.result.named

  looked_up : {r : prelude.Result (prelude.Option ℕ) Fault} → c.place_of.result ≡ r → PlacedAs (entries top) names r
  looked_up e = subst (PlacedAs (entries top) names) e c.place_of.ensures

  -- what the entry brings
  here : {ws : List (List ℕ)} → names ≡ ws → each top turn.loop-i.i ≡ ws
  here e = sym c.next_name-here.ensures.same ∙ e

placed : (p : In-Some) → Word (entries (top (goal.at.In-Some p).After-place_of)) (names (goal.at.In-Some p).After-place_of) (some p.in-Some.place)
placed p = looked_up (goal.at.In-Some p).After-place_of (p.in_ok-found.was ∙ ap prelude.Ok p.in-Some.is)

place-small : (p : In-Some) → p.in-Some.place < 64
place-small p =
    let s = top (goal.at.In-Some p).After-place_of in
    omega (
      arith,
      place-below (same_bytes (placed p).word) (entries s) p.in-Some.place (placed p).found,
      entries-many s,
      s.requires.3.few,
    )

pub push_index-n-requires : goal.push_index-n-requires
push_index-n-requires c =
    let t = turn (goal.at.push_index-n-requires c).After-place_of in
    (t.loop-i.invariant.0.size, (room t).0)

pub returns-in_err-found : goal.returns-in_err-found
returns-in_err-found c =
    let t = turn (goal.at.returns-in_err-found c).After-place_of in
    let w = looked_up (goal.at.returns-in_err-found c).After-place_of c.in_err-found.was in
    let p = err_from_is_err_and c.from_residual.result c.from_residual.ensures.1 in
    rw (p.1, p.2, ap number_of w.0) (sym (as_source (top (goal.at.returns-in_err-found c).After-place_of))
    ∙ brings-missing (entries (top (goal.at.returns-in_err-found c).After-place_of)) (each (top (goal.at.returns-in_err-found c).After-place_of)) t.loop-i.indexes t.loop-i.n t.loop-i.i t.loop-i.invariant.0 w.1.word (all (top (goal.at.returns-in_err-found c).After-place_of)) (below t)
    (here (goal.at.returns-in_err-found c).After-place_of w.1.are) w.1.found)

pub loop-i-preserved : goal.loop-i-preserved
loop-i-preserved c =
    let d = (goal.at.loop-i-preserved c).After-place_of in
    let t = turn d in
    let es = entries (top d) in
    let ns = each (top d) in
    let next = λ (is : List ℕ) (n : ℕ). HeldSoFar es ns is n (t.loop-i.i + 1) in (
      elim c.match-found.branch [
        | in-Some w ↦
            let word : Word es (names d) (some w.in-Some.place) = looked_up d (c.in_ok-found.was ∙ ap prelude.Ok w.in-Some.is) in
            let e = w.push_index-n.ensures in
            subst₂ next (sym w.indexes-is) (sym w.n-is)
            (brings-pair es ns t.loop-i.indexes t.loop-i.n t.loop-i.i t.loop-i.invariant.0 _ _ word.word w.in-Some.place (here d word.are) word.found
            e.0 e.1 e.2 (room t).0)
        | in_default w ↦
            subst₂ next (sym w.indexes-is) (sym w.n-is)
            (brings-nothing es ns t.loop-i.indexes t.loop-i.n t.loop-i.i t.loop-i.invariant.0 (here d (looked_up d (c.in_ok-found.was ∙ ap prelude.Ok w.in_default.is))))
      ],
      c.next_name-here.ensures.behind,
    )

pub returns : goal.returns
returns c =
    let s = begun (goal.at.returns c).At-loop-i in
    let last : c.loop-i.i ≡ c.extent_of-extent.result.count = omega (arith, c.loop-i-test.false, c.loop-i.auto.i-end) in
    subst (λ (a : Answer (List ℕ)). Picked s.args.target.count a c.loop-i.indexes c.loop-i.n) (as_source s)
    (brings-end (entries s) (each s) c.loop-i.indexes c.loop-i.n c.loop-i.i c.loop-i.invariant.0 (all s) s.args.target.count
    (last ∙ counted (goal.at.returns c).At-loop-i) (entries-many s))

pub overflow_cast-place : goal.overflow_cast-place
overflow_cast-place c = omega (arith, place-small (goal.at.overflow_cast-place c).In-Some)

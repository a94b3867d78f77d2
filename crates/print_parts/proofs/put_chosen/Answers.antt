-- `print_parts::put_chosen` meets its contract: bare if it is one, else `[`, the labels, `]`.
-- Assumes nothing.
use mathlib.Core.Path.{◌≡◌, ◌∙◌, ap, sym}
use mathlib.Core.List.{List, ◌++◌, map}
use Prim.Native.Nat.{ℕ}
use borrow.Author.Tests.{eqb-true, eqb-false}
use Rattle.read_packs.specs.Packs.{places}
use lib.ListN.{length, length-map}
use Rattle.text.specs.Bytes.{bytes}
use Rattle.tokens.specs.Spelling.{spell_all}
use Rattle.labels.specs.declared.Family.{Family}
use Rattle.canonical.specs.Canonical.{label_shape, bare_one}
use Rattle.print_writing.proofs.Writing.{room-same}
use Rattle.print_writing.proofs.Going.{going, further, finished, room-left, room-first}
use Rattle.print_parts.proofs.Bytes.{spell-bracketed, bare_one_lem, bare-more}
use Rattle.print_parts.proofs.Labels.{labels_in}
use Rattle.print_parts.proofs.put_chosen.Goals.{Else-is_one, Then-is_one}
use Rattle.print_parts.proofs.put_chosen.Goals as goal

one : (f : Family) (ms : List ℕ) → length ms ≡ 1 → spell_all (bare_one (map (label_shape f) ms)) ≡ labels_in f ms
one f ms e = ap spell_all (bare_one_lem (map (label_shape f) ms) (length-map ms (label_shape f) ∙ e))

more :
    (f : Family) (ms : List ℕ)
    → (length ms ≡ 1 → ⊥)
    → spell_all (bare_one (map (label_shape f) ms)) ≡ bytes "[" ++ (labels_in f ms ++ bytes "]")
more f ms n =
    let xs = map (label_shape f) ms in
    ap spell_all (bare-more xs (λ e. n (sym (length-map ms (label_shape f)) ∙ e))) ∙ spell-bracketed xs

is1 : (c : Then-is_one) → length (places c.args.packed) ≡ 1
is1 c = eqb-true _ 1 (sym c.is_one.ensures ∙ c.if-is_one.true)

not1 : (c : Else-is_one) → length (places c.args.packed) ≡ 1 → ⊥
not1 c = eqb-false _ 1 (sym c.is_one.ensures ∙ c.if-is_one.false)

pub put_labels-requires : goal.put_labels-requires
put_labels-requires c =
    let e = one c.args.family (places c.args.packed) (is1 (goal.at.put_labels-requires c).Then-is_one) in
    (c.requires.0, room-same c.args.at e c.requires.1)

pub returns-then-is_one : goal.returns-then-is_one
returns-then-is_one c =
    let a = c.args in
    rw (one a.family (places a.packed) (is1 (goal.at.returns-then-is_one c).Then-is_one)) c.put_labels.ensures

pub put-first-requires : goal.put-first-requires
put-first-requires c =
    let e = more c.args.family (places c.args.packed) (not1 (goal.at.put-first-requires c).Else-is_one) in
    room-first (bytes "[") (labels_in c.args.family (places c.args.packed) ++ bytes "]") (room-same c.args.at e c.requires.1)
    (going c.args.out.now c.args.at _)

pub put_labels-last-requires : goal.put_labels-last-requires
put_labels-last-requires c =
    let e = more c.args.family (places c.args.packed) (not1 (goal.at.put_labels-last-requires c).Else-is_one) in (
      c.requires.0,
      room-first (labels_in c.args.family (places c.args.packed)) (bytes "]") (room-same c.args.at e c.requires.1)
          (further (going _ _ _) c.put-first.ensures),
    )

pub put-requires : goal.put-requires
put-requires c =
    let e = more c.args.family (places c.args.packed) (not1 (goal.at.put-requires c).Else-is_one) in
    room-left (room-same c.args.at e c.requires.1) (further (further (going _ _ _) c.put-first.ensures) c.put_labels-last.ensures)

pub returns : goal.returns
returns c =
    let a = c.args in
    rw (more a.family (places a.packed) (not1 (goal.at.returns c).Else-is_one))
    (finished (further (further (going _ _ _) c.put-first.ensures) c.put_labels-last.ensures) c.put.ensures)

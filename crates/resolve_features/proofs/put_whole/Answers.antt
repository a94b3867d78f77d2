-- `resolve_features::put_whole` meets its contract: the joint, and then the modes alone or all parts, with their modes made whole.
-- Assumes nothing.
use Prim.Native.Nat.{ℕ, ◌<◌}
use mathlib.Core.Path.{◌≡◌, ◌∙◌, ap, sym, subst}
use mathlib.Core.List.{List}
use lib.ListN.{length}
use Rattle.tokens.specs.Spelling.{spell_all}
use Rattle.labels.specs.Label.{keywords}
use Rattle.canonical.specs.Canonical.{taken_shapes}
use Rattle.read_forms.specs.declared.Statement.TheVariants as statement
use Rattle.read_parts.specs.declared.Parts.{Parts}
use Rattle.read_parts.specs.Apart.{apart}
use Rattle.read_parts.proofs.Meaning.{taken}
use Rattle.canonical.specs.Lines.{joint_of}
use Rattle.print_statements.specs.Bytes.{bytes_of}
use Rattle.print_writing.specs.Written.{Room}
use Rattle.print_writing.proofs.Writing.{room-same}
use Rattle.print_writing.proofs.Going.{going, further, finished, room-left, room-first}
use Rattle.resolve_grounding.specs.Whole.{WholeParts}
use Rattle.std.specs.Prelude as prelude
use Rattle.resolve_features.specs.Stays.{AloneAs, alone_bytes}
use Rattle.resolve_features.proofs.Staying.{whole_of, alone_bytes_lem}
use Rattle.resolve_features.proofs.put_whole.Goals.{After-put_joint-next, After-whole_parts-parts, In-Some, Start}
use Rattle.resolve_features.proofs.put_whole.Goals as goal

abbrev whole_bytes : Start → List ℕ
whole_bytes s = whole_of s.args.text.now s.args.feature

pub put_joint-next-requires : goal.put_joint-next-requires
put_joint-next-requires c =
    room-first (joint_of c.args.before) (whole_bytes (goal.at.put_joint-next-requires c).Start) c.requires.4 (going c.args.out.now c.args.at _)

-- what is left behind the joint
left-room : (c : After-put_joint-next) → Room c.put_joint-next.result (whole_bytes (goal.at.After-put_joint-next c).Start)
left-room c = room-left {left = whole_bytes (goal.at.After-put_joint-next c).Start} c.requires.4 (further (going _ _ _) c.put_joint-next.ensures)

-- Modes alone.
alone_parts :
    (c : In-Some)
    → AloneAs c.args.feature (prelude.Some (c.in-Some.keyword, c.in-Some.family, c.in-Some.modes))
alone_parts c =
    subst (AloneAs c.args.feature) c.in-Some.is c.alone_of.ensures

alone-same :
    (c : In-Some)
    → whole_bytes (goal.at.In-Some c).Start ≡ alone_bytes c.in-Some.keyword c.in-Some.family c.in-Some.modes
alone-same c =
    alone_bytes_lem c.args.text.now c.args.feature _ _ _ (alone_parts c).0

pub put_alone-requires : goal.put_alone-requires
put_alone-requires c =
    (c.requires.1, c.requires.2, (alone_parts (goal.at.put_alone-requires c).In-Some).1, room-same c.put_joint-next.result (alone-same (goal.at.put_alone-requires c).In-Some) (left-room (goal.at.put_alone-requires c).After-put_joint-next))

pub returns-in-Some : goal.returns-in-Some
returns-in-Some c =
    finished (further (going _ _ _) c.put_joint-next.ensures) (rw (alone-same (goal.at.returns-in-Some c).In-Some) c.put_alone.ensures)

made : (c : After-whole_parts-parts) → WholeParts (apart (statement.Feature c.args.feature)) c.whole_parts-parts.result
made c =
    subst (λ (r : Parts). WholeParts r c.whole_parts-parts.result) c.parts_of.ensures c.whole_parts-parts.ensures

parts_same :
    (c : After-whole_parts-parts)
    → let s = (goal.at.After-whole_parts-parts c).Start in
    whole_bytes s ≡ bytes_of s.args.text.now c.whole_parts-parts.result
parts_same c = sym (ap (λ p. spell_all (taken_shapes p)) ((made c).mean c.args.text.now))

pub put_parts-requires : goal.put_parts-requires
put_parts-requires c =
    let m = made (goal.at.put_parts-requires c).After-whole_parts-parts in
    let k = taken c.args.text.now (statement.Feature c.args.feature) in (
      c.requires.0,
      c.requires.1,
      c.requires.2,
      m.fit c.args.text.now c.requires.3,
      m.written ∙ k.written,
      subst (λ (n : ℕ). n < length keywords) (sym m.keyword) k.known,
      room-same c.put_joint-next.result (parts_same (goal.at.put_parts-requires c).After-whole_parts-parts) (left-room (goal.at.put_parts-requires c).After-put_joint-next),
    )

pub returns-in-None : goal.returns-in-None
returns-in-None c =
    finished (further (going _ _ _) c.put_joint-next.ensures) (rw (parts_same (goal.at.returns-in-None c).After-whole_parts-parts) c.put_parts.ensures)

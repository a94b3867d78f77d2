-- `print_render::print_accepted` meets its contract: the canonical text is no longer than the text. Assumes nothing.
use Prim.Native.Nat.{ℕ}
use mathlib.Core.Path.{◌≡◌, refl, ap, subst}
use mathlib.Core.List.{List, ◌++◌}
use native.Mathlib.Omega.{arith}
use lib.ListN.{length}
use Rattle.canonical.specs.Canonical.{canonical}
use Rattle.canonical_laws.proofs.Shorter.{not_longer}
use Rattle.print_writing.specs.Written.{Written}
use Rattle.print_writing.proofs.Answering.{none_lent}
use Rattle.print_render.proofs.Answering.{room_answers, no_room_answers}
use Rattle.print_render.proofs.print_accepted.Goals.{After-put_text-length}
use Rattle.print_render.proofs.print_accepted.Goals as goal

pub returns-then-text-out : goal.returns-then-text-out
returns-then-text-out c =
    let a = c.requires.3 in
    let s = c.args.text.now in
    room_answers c.args.limit s c.args.out.now _ a.statements a.read _
    (omega (arith, not_longer c.args.limit s a.statements a.read, c.if-text-out.true))
    (c.put_text.ensures a.statements a.read)

-- after measuring, the buffer is as it was
unchanged : (c : After-put_text-length)
    → let out = c.args.out.now in
    c.put_text-length.new.out ++ out ≡ out
unchanged c =
    let a = c.requires.3 in
    none_lent c.args.out.now _ _ (canonical a.statements) c.put_text-length.result refl (c.put_text-length.ensures a.statements a.read)

pub returns-then-out-length : goal.returns-then-out-length
returns-then-out-length c =
    let a = c.requires.3 in
    no_room_answers c.args.limit c.args.text.now c.args.out.now _ a.statements a.read
    (omega (arith, c.if-out-length.true, (c.put_text-length.ensures a.statements a.read).next, ap length (unchanged (goal.at.returns-then-out-length c).After-put_text-length))) (unchanged (goal.at.returns-then-out-length c).After-put_text-length)

pub returns : goal.returns
returns c =
    let a = c.requires.3 in
    room_answers c.args.limit c.args.text.now c.args.out.now _ a.statements a.read _
    (omega (arith, c.if-out-length.false, (c.put_text-length.ensures a.statements a.read).next, ap length (unchanged (goal.at.returns c).After-put_text-length)))
    (subst (λ (b : List ℕ). Written b 0 (canonical a.statements) c.put_text-2.new.out c.put_text-2.result) (unchanged (goal.at.returns c).After-put_text-length) (c.put_text-2.ensures a.statements a.read))

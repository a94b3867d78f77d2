-- What a text's statements bring, as what follows takes it; and what the text then resolves to.
-- Assumes nothing.
use Prim.Native.Nat.{ℕ, ◌≤◌}
use mathlib.Core.Path.{◌≡◌, ◌∙◌, sym, subst}
use mathlib.Core.List.{List}
use lib.ListN.{length}
use Rattle.reading.proofs.Answers.{value_of}
use Rattle.print_writing.specs.Written.{Written}
use Rattle.canonical.specs.Lines.{rest_of}
use Rattle.text.specs.Lists.{gather}
use Rattle.resolving.specs.Brought.{Brought, bring}
use Rattle.resolving.specs.Ground.{staying}
use Rattle.resolving.specs.Resolve.{merge_and_ground}
use Rattle.resolving.specs.Handed.{handed_context, resolve_handed}
use Rattle.resolve_operands.specs.Entries.{meaning_in}
use Rattle.resolve_statements.specs.declared.Tally.{Tally}
use Rattle.resolve_taking.specs.Taken.{TextBrings}
use Rattle.resolve_taking.proofs.Refusing.{brought-answer}
use Rattle.resolve_settling.specs.Attempts.{StaysWritten}
use Rattle.resolve_settling.proofs.Settling.{all_there}

module _ {limit : ℕ} {s b l ts ds out ts' ds' out' : List ℕ} {u : Tally} (h : TextBrings limit s b l ts ds out ts' ds' out' u) where
  -- where all was made in buffers of these lengths
  unfoldable pub text-there : length ds ≡ 256 → 2048 ≤ length ts → StaysWritten (handed_context b l) u ds' ts' out'
  text-there wide room =
      let c = handed_context b l in
      let look = meaning_in s h.run h.n c in
      let there = all_there (bring c look) h.statements h.brought h.most wide room in
      record {
        statements = h.statements;
        look = look;
        there = there;
        before = out;
        text =
            subst (λ (bs : List Brought). Written out 0 (rest_of 0 (gather staying bs)) out' u.ground)
            (value_of (sym h.brought.brought ∙ there.brought)) h.text;
      }

  -- the text resolves to what they come to
  pub text_resolved : (wide : length ds ≡ 256) (room : 2048 ≤ length ts)
      → resolve_handed limit b l s ≡ merge_and_ground (handed_context b l) (text-there wide room).there.what
  unfolding text-there
  text_resolved wide room = brought-answer limit b l s h.read h.handed h.collected (text-there wide room).there.brought

-- `resolve_symbols::find_let` meets its contract. The invariant: none of the LETs that were passed has the key, so the last one is among those that
-- are left. Assumes nothing.
use mathlib.Core.Path.{◌∙◌, ap, sym}
use native.Mathlib.Omega.{arith}
use Rattle.labels.specs.Word.{same_word}
use Rattle.resolve_symbols.proofs.Lets.{passed-more, passed-found, passed-all}
use Rattle.resolve_symbols.proofs.find_let.Goals as goal

pub returns-then-same_word : goal.returns-then-same_word
returns-then-same_word c =
    passed-found _ _ _ c.loop-k.invariant c.loop-k-test.true
    (ap (same_word _) (sym c.key_at.ensures) ∙ sym c.same_word.ensures ∙ c.if-same_word.true)

pub loop-k-preserved : goal.loop-k-preserved
loop-k-preserved c =
    passed-more _ _ _ c.loop-k.invariant c.loop-k-test.true
    (ap (same_word _) (sym c.key_at.ensures) ∙ sym c.same_word.ensures ∙ c.if-same_word.false)

pub returns : goal.returns
returns c = passed-all _ _ _ c.loop-k.invariant (omega (arith, c.loop-k-test.false))

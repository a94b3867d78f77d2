-- `resolve_symbols::if_word` meets its contract: the tests are the definition's. Assumes nothing.
use mathlib.Core.Path.{◌∙◌, sym}
use Rattle.resolve_symbols.proofs.if_word.Goals as goal

pub returns-then-not-same_word : goal.returns-then-not-same_word
returns-then-not-same_word c = simp (sym c.same_word.ensures ∙ c.if-not-same_word.true)

pub returns-then-there : goal.returns-then-there
returns-then-there c = simp (sym c.same_word.ensures ∙ c.if-not-same_word.false, c.if-there.true)

pub returns-else-there : goal.returns-else-there
returns-else-there c = simp (sym c.same_word.ensures ∙ c.if-not-same_word.false, c.if-there.false)

pub same_word-requires : goal.same_word-requires
same_word-requires c = tt

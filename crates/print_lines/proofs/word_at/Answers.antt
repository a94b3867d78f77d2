-- `print_lines::word_at` meets its contract: the token's kind tells whether a word stands there. Assumes nothing.
use mathlib.Core.Path.{◌∙◌, sym}
use Rattle.tokens.proofs.Views.{Known, known}
use Rattle.print_lines.proofs.Walking.{word-there, no_word-there}
use Rattle.print_lines.proofs.word_at.Goals.{After-token-token}
use Rattle.print_lines.proofs.word_at.Goals as goal

-- what the token's kind tells
here : (d : After-token-token) → Known d.args.text.now d.args.at d.token-token.result
here d = known _ _ d.token-token.result d.token-token.ensures

pub returns-then-token-ne-WORD : goal.returns-then-token-ne-WORD
returns-then-token-ne-WORD c = sym (no_word-there (here (goal.at.returns-then-token-ne-WORD c).After-token-token) c.if-token-ne-WORD.true)

pub returns : goal.returns
returns c =
    c.part_of.ensures ∙ sym (word-there (here (goal.at.returns c).After-token-token) c.if-token-ne-WORD.false)

-- `tokens::plain_end` meets its contract: a scan goes on after a blank, a comment, a mark, a separator or a word, or nothing is passed.
-- Assumes nothing.
use mathlib.Core.Path.{◌∙◌, sym}
use native.Mathlib.Omega.{arith}
use Rattle.tokens.proofs.Scans.{scans_passed, scans_mark, scans_word}
use Rattle.tokens.proofs.plain_end.Goals as goal

pub returns-in-0-to-2 : goal.returns-in-0-to-2
returns-in-0-to-2 c =
    let a = c.args in
    scans_mark a.text.now a.at c.if-text-at.false (omega (arith, c.class_at-class.ensures, c.in-0-to-2.if-class-lt3-own.true))

pub returns-in-9 : goal.returns-in-9
returns-in-9 c = scans_word _ _ c.if-text-at.false _ c.word_end.ensures (sym c.class_at-class.ensures ∙ c.in-9.is)

pub returns-in-4-to-5 : goal.returns-in-4-to-5
returns-in-4-to-5 c = scans_passed c.passed.ensures

-- `tokens::Cursor::token` meets its contract: the class of the byte at the cursor says which token stands there. Assumes nothing.
use mathlib.Core.Path.{◌∙◌, ap, sym}
use native.Mathlib.Omega.{arith}
use Rattle.tokens.specs.Next.{by_kind}
use Rattle.tokens.proofs.Firsts.{first-end, first-separator, first-mark, first_word}
use Rattle.tokens.proofs.Cursor.token.Goals as goal

pub returns-in-0-to-1 : goal.returns-in-0-to-1
unfolding by_kind
returns-in-0-to-1 c =
    let a = c.args in
    ap (by_kind _)
    (first-separator a.text.now a.self.at c.if-text-at.false (omega (arith, c.class_at-class.ensures, c.in-0-to-1.if-class-lt2-own.true)))

pub returns-then-text-at : goal.returns-then-text-at
unfolding by_kind
returns-then-text-at c = ap (by_kind _) (first-end _ _ c.if-text-at.true)

pub returns-in-2 : goal.returns-in-2
unfolding by_kind
returns-in-2 c = ap (by_kind _) (first-mark _ _ c.if-text-at.false (sym c.class_at-class.ensures ∙ c.in-2.is))

pub returns-in-9 : goal.returns-in-9
unfolding by_kind
returns-in-9 c = ap (by_kind _) (first_word _ _ c.if-text-at.false _ c.word_end-end.ensures (sym c.class_at-class.ensures ∙ c.in-9.is))

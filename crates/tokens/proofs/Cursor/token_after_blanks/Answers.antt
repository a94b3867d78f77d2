-- `tokens::Cursor::token_after_blanks` meets its contract: each answer of the lexer, by its kind. Assumes nothing.
use mathlib.Core.Path.{◌≡◌, ◌∙◌, ap, sym}
use lib.ListN.{length}
use Rattle.tokens.specs.declared.Lexed.{Lexed}
use Rattle.tokens.specs.declared.Lexed.TheVariants.{Word, Number, Mark, Bad, End}
use Rattle.tokens.specs.Next.{by_kind, token_at}
use Rattle.tokens.proofs.Cursor.token_after_blanks.Goals.{After-next}
use Rattle.tokens.proofs.Cursor.token_after_blanks.Goals as goal

-- an answer by its kind is the token's
same :
    (d : After-next) (l : Lexed)
    → d.next.result ≡ l
    → by_kind (length d.args.text.now) l ≡ token_at d.args.text.now d.args.self.at
same d l e = ap (by_kind (length d.args.text.now)) (sym e ∙ d.next.ensures)

pub returns-in-Word : goal.returns-in-Word
unfolding by_kind
returns-in-Word c = same (goal.at.returns-in-Word c).After-next (Word c.in-Word.start c.in-Word.next) c.in-Word.is

pub returns-in-Number : goal.returns-in-Number
unfolding by_kind
returns-in-Number c = same (goal.at.returns-in-Number c).After-next (Number c.in-Number.start c.in-Number.next) c.in-Number.is

pub returns-in-Mark : goal.returns-in-Mark
unfolding by_kind
returns-in-Mark c = same (goal.at.returns-in-Mark c).After-next (Mark c.in-Mark.mark c.in-Mark.start c.in-Mark.next) c.in-Mark.is

pub returns-in-Bad : goal.returns-in-Bad
unfolding by_kind
returns-in-Bad c = same (goal.at.returns-in-Bad c).After-next (Bad c.in-Bad.start) c.in-Bad.is

pub returns-in-End : goal.returns-in-End
unfolding by_kind
returns-in-End c = same (goal.at.returns-in-End c).After-next End c.in-End.is

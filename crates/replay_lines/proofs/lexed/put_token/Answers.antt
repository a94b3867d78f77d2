-- `replay_lines::lexed::put_token` meets its contract: what the lexer's answer tells puts the next token behind the offset. Assumes nothing.
use mathlib.Core.Path.{◌≡◌, ◌∙◌, sym}
use native.Mathlib.Omega.{arith}
use Rattle.tokens.specs.declared.Lexed.{Lexed}
use Rattle.tokens.specs.declared.Lexed.TheVariants.{Word, Number, Mark}
use Rattle.tokens.proofs.Views.{Tells, told}
use Rattle.replay_lines.proofs.lexed.put_token.Goals.{After-next}
use Rattle.replay_lines.proofs.lexed.put_token.Goals as goal

-- what the lexer's answer tells at the offset
read :
    (d : After-next) (l : Lexed)
    → d.next.result ≡ l
    → Tells d.args.text.now d.args.at l
read d l e = told d.args.text.now d.args.at l (sym e ∙ d.next.ensures)

pub returns-in-Word : goal.returns-in-Word
returns-in-Word c =
    let r = read (goal.at.returns-in-Word c).After-next (Word c.in-Word.start c.in-Word.next) c.in-Word.is in
    omega (arith, r.ahead, r.wide)

pub returns-in-Number : goal.returns-in-Number
returns-in-Number c =
    let r = read (goal.at.returns-in-Number c).After-next (Number c.in-Number.start c.in-Number.next) c.in-Number.is in
    omega (arith, r.ahead, r.wide)

pub returns-in-Mark : goal.returns-in-Mark
returns-in-Mark c =
    let r = (read (goal.at.returns-in-Mark c).After-next (Mark c.in-Mark.mark c.in-Mark.start c.in-Mark.next) c.in-Mark.is).0 in
    omega (arith, r.ahead, r.wide)

pub slice_bounds-put_text-count : goal.slice_bounds-put_text-count
slice_bounds-put_text-count c =
    let r = read (goal.at.slice_bounds-put_text-count c).After-next (Word c.in-Word.start c.in-Word.next) c.in-Word.is in
    omega (arith, r.ahead, r.wide, r.within)

pub slice_bounds-put_text-start : goal.slice_bounds-put_text-start
slice_bounds-put_text-start c =
    let r = read (goal.at.slice_bounds-put_text-start c).After-next (Word c.in-Word.start c.in-Word.next) c.in-Word.is in
    omega (arith, r.ahead, r.wide, r.within)

pub slice_bounds-put_text-end : goal.slice_bounds-put_text-end
slice_bounds-put_text-end c =
    let r = read (goal.at.slice_bounds-put_text-end c).After-next (Word c.in-Word.start c.in-Word.next) c.in-Word.is in
    omega (arith, r.ahead, r.wide, r.within)

pub slice_bounds-put_text-count-in-Number : goal.slice_bounds-put_text-count-in-Number
slice_bounds-put_text-count-in-Number c =
    let r = read (goal.at.slice_bounds-put_text-count-in-Number c).After-next (Number c.in-Number.start c.in-Number.next) c.in-Number.is in
    omega (arith, r.ahead, r.wide, r.within)

pub slice_bounds-put_text-start-in-Number : goal.slice_bounds-put_text-start-in-Number
slice_bounds-put_text-start-in-Number c =
    let r = read (goal.at.slice_bounds-put_text-start-in-Number c).After-next (Number c.in-Number.start c.in-Number.next) c.in-Number.is in
    omega (arith, r.ahead, r.wide, r.within)

pub slice_bounds-put_text-end-in-Number : goal.slice_bounds-put_text-end-in-Number
slice_bounds-put_text-end-in-Number c =
    let r = read (goal.at.slice_bounds-put_text-end-in-Number c).After-next (Number c.in-Number.start c.in-Number.next) c.in-Number.is in
    omega (arith, r.ahead, r.wide, r.within)

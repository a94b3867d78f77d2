-- `tokens::Cursor::next` meets its contract: what is skipped changes no token, and the class of the first byte that is not skipped says
-- which token stands there. Assumes nothing.
use Prim.Native.Nat.{ℕ, ◌<◌, ◌≤◌}
use mathlib.Core.Path.{◌≡◌, ◌∙◌, ap, sym}
use mathlib.Core.List.{List}
use native.Mathlib.Omega.{arith}
use lib.ListN.{length}
use Rattle.tokens.specs.declared.Lexed.{Lexed}
use Rattle.tokens.specs.Class.{class_number}
use Rattle.tokens.specs.Next.{first}
use Rattle.tokens.proofs.Classes.{class_most, above_range}
use Rattle.tokens.proofs.Steps.{from, byte}
use Rattle.tokens.proofs.Firsts.{first-end, first-separator, first-mark, first_number, first_word, first-bad}
use Rattle.tokens.proofs.Cursor.next.Goals.{After-class_at-class}
use Rattle.tokens.proofs.Cursor.next.Goals as goal

-- at the class of the first byte that is not skipped: the text, the byte's offset, and that it lies in the text
abbrev text : After-class_at-class → List ℕ
text d = d.args.text.now

abbrev start : After-class_at-class → ℕ
start d = d.skip-start.result

inside : (d : After-class_at-class) → start d < length (text d)
inside d = d.if-text-start.false

-- an answer for that offset is one for the cursor
told :
    (d : After-class_at-class) {r : Lexed}
    → r ≡ first (from (text d) (start d))
    → r ≡ first (from (text d) d.args.self.at)
told d e = e ∙ ap first (sym d.skip-start.ensures.same)

pub returns-in_default : goal.returns-in_default
returns-in_default c =
    let b = byte (text (goal.at.returns-in_default c).After-class_at-class) (start (goal.at.returns-in_default c).After-class_at-class) in
    let class : _ ≡ class_number b = c.class_at-class.ensures in
    let most : class_number b ≤ 9 = class_most b in
    let six : 5 < class_number b =
    above_range 4 5 b (c.skip-start.ensures.stands (inside (goal.at.returns-in_default c).After-class_at-class)) (omega (arith, c.in_default.if-class-lt2-own.false, c.in_default.in_default-own.rest)) in
    told (goal.at.returns-in_default c).After-class_at-class (first-bad (text (goal.at.returns-in_default c).After-class_at-class) (start (goal.at.returns-in_default c).After-class_at-class) (inside (goal.at.returns-in_default c).After-class_at-class) six (omega (arith, c.in_default.in_default-own.rest)))

pub returns-then-text-start : goal.returns-then-text-start
returns-then-text-start c = first-end _ _ c.if-text-start.true ∙ ap first (sym c.skip-start.ensures.same)

pub returns-in-2 : goal.returns-in-2
returns-in-2 c = told (goal.at.returns-in-2 c).After-class_at-class (first-mark _ _ (inside (goal.at.returns-in-2 c).After-class_at-class) (sym c.class_at-class.ensures ∙ c.in-2.is))

pub returns-in-3 : goal.returns-in-3
returns-in-3 c = told (goal.at.returns-in-3 c).After-class_at-class c.dots.ensures

pub returns-in-8 : goal.returns-in-8
returns-in-8 c = told (goal.at.returns-in-8 c).After-class_at-class (first_number _ _ (inside (goal.at.returns-in-8 c).After-class_at-class) _ c.number_end-at.ensures (sym c.class_at-class.ensures ∙ c.in-8.is))

pub returns-in-9 : goal.returns-in-9
returns-in-9 c = told (goal.at.returns-in-9 c).After-class_at-class (first_word _ _ (inside (goal.at.returns-in-9 c).After-class_at-class) _ c.word_end-at.ensures (sym c.class_at-class.ensures ∙ c.in-9.is))

pub returns-in-0-to-1 : goal.returns-in-0-to-1
returns-in-0-to-1 c = told (goal.at.returns-in-0-to-1 c).After-class_at-class (first-separator (text (goal.at.returns-in-0-to-1 c).After-class_at-class) (start (goal.at.returns-in-0-to-1 c).After-class_at-class) (inside (goal.at.returns-in-0-to-1 c).After-class_at-class) (omega (arith, c.class_at-class.ensures, c.in-0-to-1.if-class-lt2-own.true)))

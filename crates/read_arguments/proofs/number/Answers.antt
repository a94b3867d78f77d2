-- `read_arguments::number` meets its contract: a number alone, or the two ends of a range. Assumes nothing.
use mathlib.Core.Path.{refl, ◌∙◌, ap, sym}
use native.Mathlib.Omega.{arith}
use lib.Dec.{lit≤}
use Rattle.reading.specs.Statement.{Name}
use Rattle.reading.specs.Argument.{range_of}
use Rattle.reading.specs.Syntax.{turn, number_read, range_open, range_read}
use Rattle.read_forms.specs.Items.{name_in}
use Rattle.read_forms.specs.Forms.{arg_in}
use Rattle.read_forms.specs.Fits.{Fits}
use Rattle.tokens.proofs.Views.{Known, known, known-mark, known-number}
use Rattle.read_arguments.specs.Answers.{step_in, refused_by, arg_then, ArgFurther}
use Rattle.read_arguments.proofs.Reading.{read_token, rejected, no_range}
use Rattle.read_arguments.proofs.Names.{same_name, in_text}
use Rattle.read_arguments.proofs.Further.{further}
use Rattle.read_arguments.proofs.number.Goals.{After-token-end, After-token-token}
use Rattle.read_arguments.proofs.number.Goals as goal

-- what the kinds of the two tokens tell
here : (d : After-token-token) → Known d.args.text.now d.args.cur.at d.token-token.result
here d = known _ _ d.token-token.result d.token-token.ensures

beyond :
    (d : After-token-end)
    → Known d.args.text.now d.token-token.result.next.at d.token-end.result
beyond d = known _ _ d.token-end.result d.token-end.ensures

pub returns-then-token-ne46 : goal.returns-then-token-ne46
unfolding arg_then ArgFurther arg_in Fits
returns-then-token-ne46 c =
    let a = c.args in
    let p = c.requires in record { at_value = (λ call. no_range a.limit _ call (name_in a.text.now a.name) _ c.token-token.result (here (goal.at.returns-then-token-ne46 c).After-token-token) c.if-token-ne46.true); arg_further = (omega arith, p.2, p.1) }

pub returns-then-end-ne-NUMBER : goal.returns-then-end-ne-NUMBER
unfolding turn arg_then ArgFurther
returns-then-end-ne-NUMBER c =
    let a = c.args in
    let n = name_in a.text.now a.name in record {
      at_value = (λ call.
          read_token a.limit _ (number_read call n) _ _ _ (known-mark (here (goal.at.returns-then-end-ne-NUMBER c).After-token-token) 46 c.if-token-ne46.false (lit≤ tt))
          ∙ rejected a.limit _ (range_open call n) _ c.token-end.result (beyond (goal.at.returns-then-end-ne-NUMBER c).After-token-end) (λ w e. refl) (λ w e. absurd (c.if-end-ne-NUMBER.true e)) (λ h. refl)
          ∙ ap refused_by (sym c.unexpected.ensures));
      arg_further = tt;
    }

pub named-high-requires : goal.named-high-requires
named-high-requires c = let r = known-number (beyond (goal.at.named-high-requires c).After-token-end) c.if-end-ne-NUMBER.false in omega (arith, r.wide)

pub range_of-requires : goal.range_of-requires
range_of-requires c =
    let r = known-number (beyond (goal.at.range_of-requires c).After-token-end) c.if-end-ne-NUMBER.false in
    (c.requires.1.inside, in_text _ c.token-end.result c.named-high.ensures r, r.within)

pub returns : goal.returns
unfolding turn
returns c =
    let a = c.args in
    let s = a.text.now in
    let n = name_in s a.name in
    let r = known-mark (here (goal.at.returns c).After-token-token) 46 c.if-token-ne46.false (lit≤ tt) in
    let q = known-number (beyond (goal.at.returns c).After-token-end) c.if-end-ne-NUMBER.false in record {
      at_value = (λ call.
          read_token a.limit _ (number_read call n) _ _ _ r
          ∙ read_token a.limit _ (range_open call n) _ _ _ q
          ∙ ap (λ (h : Name). step_in a.limit s (range_read call (range_of a.limit n h)) c.token-end.result.next.at)
          (same_name s c.token-end.result c.named-high.ensures)
          ∙ c.range_of.ensures.at_value call);
      arg_further = further s a.cur.at _ c.range_of.result (omega (arith, r.ahead, r.wide, q.ahead, q.wide)) c.range_of.ensures.arg_further;
    }

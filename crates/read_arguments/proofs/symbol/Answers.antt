-- `read_arguments::symbol` meets its contract: a word behind the `@` is the symbol's name, and nothing else may follow. Assumes nothing.
use mathlib.Core.Path.{refl, ◌∙◌, ap, sym}
use native.Mathlib.Omega.{arith}
use Rattle.reading.specs.Statement.{Name}
use Rattle.reading.specs.Argument.{symbol}
use Rattle.reading.specs.Syntax.{turn, at_sign, argument_read}
use Rattle.tokens.proofs.Views.{Known, known, known-word}
use Rattle.read_arguments.specs.Answers.{read_in, refused_by, arg_then, ArgFurther}
use Rattle.read_arguments.proofs.Reading.{read_token, rejected}
use Rattle.read_arguments.proofs.Names.{same_name, in_text}
use Rattle.read_forms.specs.Forms.{arg_in}
use Rattle.read_forms.specs.Fits.{Fits}
use Rattle.read_arguments.proofs.symbol.Goals.{After-token-token}
use Rattle.read_arguments.proofs.symbol.Goals as goal

-- what the token's kind tells
here : (d : After-token-token) → Known d.args.text.now d.args.cur.at d.token-token.result
here d = known _ _ d.token-token.result d.token-token.ensures

pub returns-then-token-ne-WORD : goal.returns-then-token-ne-WORD
unfolding turn arg_then ArgFurther
returns-then-token-ne-WORD c = record {
  by_index = (λ limit call.
      rejected limit _ (at_sign call c.args.sign) _ c.token-token.result (here (goal.at.returns-then-token-ne-WORD c).After-token-token) (λ w e. absurd (c.if-token-ne-WORD.true e))
      (λ w e. refl) (λ h. refl)
      ∙ ap refused_by (sym c.unexpected.ensures));
  arg_further = tt;
}

pub named-name-requires : goal.named-name-requires
named-name-requires c = let r = known-word (here (goal.at.named-name-requires c).After-token-token) c.if-token-ne-WORD.false in omega (arith, r.wide)

pub returns : goal.returns
unfolding turn arg_then ArgFurther arg_in Fits
returns c =
    let r = known-word (here (goal.at.returns c).After-token-token) c.if-token-ne-WORD.false in
    let n = c.named-name.ensures in
    let s = c.args.text.now in record {
      by_index = (λ limit call.
          read_token limit _ (at_sign call c.args.sign) _ _ _ r
          ∙ ap (λ (x : Name). read_in limit s (argument_read call (symbol c.args.sign x)) c.token-token.result.next.at)
          (same_name s c.token-token.result n));
      arg_further = (omega (arith, r.ahead, r.wide), r.within, in_text s c.token-token.result n r);
    }

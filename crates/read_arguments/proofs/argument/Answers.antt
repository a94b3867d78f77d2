-- `read_arguments::argument` meets its contract: the token's kind says which argument starts. Assumes nothing.
use mathlib.Core.Path.{◌∙◌, ap, sym}
use native.Mathlib.Omega.{arith}
use borrow.Author.Tests.{ne_eqb}
use lib.Dec.{lit≤}
use Rattle.reading.specs.Statement.{Name, a_word}
use Rattle.reading.specs.Argument.{single}
use Rattle.reading.specs.Syntax.{turn, number_read, argument_read}
use Rattle.reading.specs.Syntax as syntax
use Rattle.read_forms.specs.Forms.{arg_in}
use Rattle.read_forms.specs.Fits.{Fits}
use Rattle.tokens.proofs.Views.{Known, known, known-word, known-number, known-mark}
use Rattle.read_arguments.specs.Answers.{read_in, refused_by, arg_then, ArgFurther}
use Rattle.read_arguments.proofs.Reading.{read_token, rejected}
use Rattle.read_arguments.proofs.Names.{same_name, word_stands, number-stands}
use Rattle.read_arguments.proofs.Further.{further}
use Rattle.read_arguments.proofs.argument.Goals.{After-token-token}
use Rattle.read_arguments.proofs.argument.Goals as goal

-- what the token's kind tells
here : (d : After-token-token) → Known d.args.text.now d.args.cur.at d.token-token.result
here d = known _ _ d.token-token.result d.token-token.ensures

pub named-name-requires : goal.named-name-requires
named-name-requires c = let r = known-word (here (goal.at.named-name-requires c).After-token-token) c.in-0.is in omega (arith, r.wide)

pub named-name-requires-in-1 : goal.named-name-requires-in-1
named-name-requires-in-1 c = let r = known-number (here (goal.at.named-name-requires-in-1 c).After-token-token) c.in-1.is in omega (arith, r.wide)

pub number-requires : goal.number-requires
number-requires c =
    let r = known-number (here (goal.at.number-requires c).After-token-token) c.in-1.is in
    (c.requires, number-stands _ c.token-token.result c.named-name-in-1.ensures r, r.within)

pub returns-in-0 : goal.returns-in-0
unfolding turn arg_then ArgFurther arg_in Fits
returns-in-0 c =
    let s = c.args.text.now in
    let limit = c.args.limit in
    let r = known-word (here (goal.at.returns-in-0 c).After-token-token) c.in-0.is in record {
      at_value = (λ call.
          read_token limit _ (syntax.argument call) _ _ _ r
          ∙ ap (λ (x : Name). read_in limit s (argument_read call (single (record { kind = a_word; name = x }))) c.token-token.result.next.at)
          (same_name s c.token-token.result c.named-name.ensures));
      arg_further = (omega (arith, r.ahead, r.wide), r.within, word_stands s c.token-token.result c.named-name.ensures r);
    }

pub returns-in-1 : goal.returns-in-1
unfolding turn
returns-in-1 c =
    let s = c.args.text.now in
    let limit = c.args.limit in
    let r = known-number (here (goal.at.returns-in-1 c).After-token-token) c.in-1.is in record {
      at_value = (λ call.
          read_token limit _ (syntax.argument call) _ _ _ r
          ∙ ap (λ (x : Name). read_in limit s (number_read call x) c.token-token.result.next.at)
          (same_name s c.token-token.result c.named-name-in-1.ensures)
          ∙ c.number.ensures.at_value call);
      arg_further = further s _ _ c.number.result (omega (arith, r.ahead, r.wide)) c.number.ensures.arg_further;
    }

pub returns-in-42 : goal.returns-in-42
unfolding turn arg_then ArgFurther arg_in Fits
returns-in-42 c =
    let r = known-mark (here (goal.at.returns-in-42 c).After-token-token) 42 c.in-42.is (lit≤ tt) in record { at_value = (λ call. read_token c.args.limit _ (syntax.argument call) _ _ _ r); arg_further = (omega (arith, r.ahead, r.wide), r.within, tt) }

pub returns-in-43 : goal.returns-in-43
unfolding turn arg_then ArgFurther arg_in Fits
returns-in-43 c =
    let r = known-mark (here (goal.at.returns-in-43 c).After-token-token) 43 c.in-43.is (lit≤ tt) in record { at_value = (λ call. read_token c.args.limit _ (syntax.argument call) _ _ _ r); arg_further = (omega (arith, r.ahead, r.wide), r.within, tt) }

pub returns-in-64 : goal.returns-in-64
unfolding turn
returns-in-64 c =
    let limit = c.args.limit in
    let r = known-mark (here (goal.at.returns-in-64 c).After-token-token) 64 c.in-64.is (lit≤ tt) in record { at_value = (λ call. read_token limit _ (syntax.argument call) _ _ _ r ∙ c.symbol.ensures.by_index limit call); arg_further = further _ _ _ c.symbol.result (omega (arith, r.ahead, r.wide)) c.symbol.ensures.arg_further }

pub returns-in-91 : goal.returns-in-91
unfolding turn
returns-in-91 c =
    let limit = c.args.limit in
    let r = known-mark (here (goal.at.returns-in-91 c).After-token-token) 91 c.in-91.is (lit≤ tt) in record { at_value = (λ call. read_token limit _ (syntax.argument call) _ _ _ r ∙ c.array.ensures.by_index limit call); arg_further = further _ _ _ c.array.result (omega (arith, r.ahead, r.wide)) c.array.ensures.arg_further }

pub returns-in-41 : goal.returns-in-41
unfolding turn arg_then ArgFurther arg_in Fits
returns-in-41 c =
    let r = known-mark (here (goal.at.returns-in-41 c).After-token-token) 41 c.in-41.is (lit≤ tt) in record { at_value = (λ call. read_token c.args.limit _ (syntax.argument call) _ _ _ r); arg_further = (omega (arith, r.ahead, r.wide), r.within) }

pub returns-in_default : goal.returns-in_default
unfolding turn arg_then ArgFurther
returns-in_default c =
    let n = c.in_default.in_default-own.rest in record {
      at_value = (λ call.
          rejected c.args.limit _ (syntax.argument call) _ c.token-token.result (here (goal.at.returns-in_default c).After-token-token) (λ w e. absurd (n.0.0.0.0.0.0.1 e))
          (λ w e. absurd (n.0.0.0.0.0.1 e))
          (λ h.
          simp (
            ne_eqb _ 42 n.0.0.0.0.1,
            ne_eqb _ 43 n.0.0.0.1,
            ne_eqb _ 64 n.0.0.1,
            ne_eqb _ 91 n.0.1,
            ne_eqb _ 41 n.1,
          ))
          ∙ ap refused_by (sym c.unexpected.ensures));
      arg_further = tt;
    }

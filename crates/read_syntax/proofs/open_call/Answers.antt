-- `read_syntax::open_call` meets its contract: LET has a form of its own. Assumes nothing.
use mathlib.Core.Path.{◌∙◌, ap}
use mathlib.Core.Bool.{Bool, cond}
use Rattle.reading.specs.Syntax.{keyword, let_keyword}
use Rattle.read_arguments.specs.Answers.{read_in}
use Rattle.read_syntax.proofs.open_call.Goals as goal

pub returns-then-is_let : goal.returns-then-is_let
returns-then-is_let c =
    let a = c.args in record {
      by_index = (λ limit k.
          ap (λ (b : Bool). read_in limit a.text.now (cond b let_keyword (keyword k)) a.cur.at) c.if-is_let.true
          ∙ c.open_let.ensures.by_index limit k);
      opened_further = c.open_let.ensures.opened_further;
    }

pub returns : goal.returns
returns c =
    let a = c.args in record {
      by_index = (λ limit k.
          ap (λ (b : Bool). read_in limit a.text.now (cond b let_keyword (keyword k)) a.cur.at) c.if-is_let.false
          ∙ c.open_feature.ensures.by_index limit k);
      opened_further = c.open_feature.ensures.opened_further;
    }

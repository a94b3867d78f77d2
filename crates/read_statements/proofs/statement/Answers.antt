-- `read_statements::statement` meets its contract: LET has a form of its own, and every other word is a feature's keyword. Assumes nothing.
use Prim.Native.Nat.{ℕ, suc}
use mathlib.Core.Path.{◌≡◌, refl, ◌∙◌, ap, sym, subst}
use mathlib.Core.Bool.{Bool, true, false, cond}
use mathlib.Core.List.{List}
use lib.ListN.{length}
use Rattle.tokens.specs.Token.{word}
use Rattle.reading.specs.Syntax.{State, more, let_keyword, keyword, opened}
use Rattle.read_forms.specs.Items.{name_in}
use Rattle.read_arguments.specs.Answers.{read_in, step_in}
use Rattle.std.specs.Prelude.{Ok, Err}
use Rattle.std.proofs.Common.{rules}
use Rattle.read_syntax.specs.declared.Head.{Head}
use Rattle.read_syntax.specs.Answers.{call_made, call_then, CallFurther}
use Rattle.read_statements.specs.Answers.{one_before, next_then, NextFrom}
use Rattle.read_statements.proofs.Whole.{from_sooner}
use Rattle.read_statements.proofs.statement.Goals.{After-read_call, In_ok-call}
use Rattle.read_statements.proofs.statement.Goals as goal

either_state :
    (limit : ℕ) (s : List ℕ) (o : ℕ) (b : Bool) (x y : State) → step_in limit s (cond b (more x) (more y)) o ≡ read_in limit s (cond b x y) o
either_state limit s o true x y = refl
either_state limit s o false x y = refl

-- how reading goes on behind the first word
told :
    (d : After-read_call)
    → let a = d.args in
    let s = a.text.now in
    let k = name_in s a.name in
    step_in a.limit s (opened a.name.offset (word k.spelling)) a.cur.at ≡ call_then a.limit s k d.read_call.result
unfolding opened
told d =
    let a = d.args in
    let s = a.text.now in
    let k = name_in s a.name in
    ap (λ (b : Bool). step_in a.limit s (cond b (more let_keyword) (more (keyword k))) a.cur.at) (sym d.is_let.ensures)
    ∙ either_state a.limit s a.cur.at d.is_let.result let_keyword (keyword k)
    ∙ d.read_call.ensures.at_value k

-- where the statement that was read ends
further :
    (d : In_ok-call)
    → let a = d.args in
    CallFurther a.text.now a.cur.at (Ok d.in_ok-call.call)
further d = subst (CallFurther _ _) d.in_ok-call.was d.read_call.ensures.call_further

pub feature_statement-requires : goal.feature_statement-requires
unfolding CallFurther
feature_statement-requires c =
    let p = c.requires in
    let f = further (goal.at.feature_statement-requires c).In_ok-call in record { classes_value = (p.0, p.1, p.2); in_text = (p.3, f.2, p.4, f.1) }

pub let_statement-requires : goal.let_statement-requires
unfolding CallFurther
let_statement-requires c =
    let p = c.requires in
    let f = further (goal.at.let_statement-requires c).In_ok-call in
    (p.0, f.2.first, p.4, f.1)

pub returns-in-Feature : goal.returns-in-Feature
unfolding call_then CallFurther
returns-in-Feature c =
    let a = c.args in
    let s = a.text.now in
    let f = further (goal.at.returns-in-Feature c).In_ok-call in record {
      at_value = ap (one_before a.limit (length s) a.n)
          (told (goal.at.returns-in-Feature c).After-read_call
          ∙ ap (call_then a.limit s (name_in s a.name))
          c.in_ok-call.was
          ∙ ap (λ (h : Head). step_in a.limit s (call_made a.limit s (name_in s a.name) h c.in_ok-call.call.args) c.in_ok-call.call.next.at) c.in-Feature.is)
          ∙ c.feature_statement.ensures.at_value;
      next_from = from_sooner s (suc a.cur.at) c.in_ok-call.call.next.at c.feature_statement.result c.feature_statement.ensures.next_from f.0;
    }

pub returns-in-Let : goal.returns-in-Let
unfolding call_then CallFurther
returns-in-Let c =
    let a = c.args in
    let s = a.text.now in
    let f = further (goal.at.returns-in-Let c).In_ok-call in record {
      at_value = ap (one_before a.limit (length s) a.n)
          (told (goal.at.returns-in-Let c).After-read_call
          ∙ ap (call_then a.limit s (name_in s a.name))
          c.in_ok-call.was
          ∙ ap (λ (h : Head). step_in a.limit s (call_made a.limit s (name_in s a.name) h c.in_ok-call.call.args) c.in_ok-call.call.next.at) c.in-Let.is)
          ∙ c.let_statement.ensures.by_index a.limit;
      next_from = from_sooner s (suc a.cur.at) c.in_ok-call.call.next.at c.let_statement.result c.let_statement.ensures.next_from f.0;
    }

pub returns-in_err-call : goal.returns-in_err-call
unfolding call_then next_then NextFrom
returns-in_err-call c =
    let a = c.args in
    let s = a.text.now in
    let wrong : c.from_residual.result ≡ Err c.in_err-call.field-0.0 = search rules in
    rw wrong
    (record {
      at_value = ap (one_before a.limit (length s) a.n) (told (goal.at.returns-in_err-call c).After-read_call ∙ ap (call_then a.limit s (name_in s a.name)) c.in_err-call.was);
      next_from = tt;
    })

-- `resolve_taking::statement_at` meets its contract: a statement is kept, or it is the next one behind the cursor. Assumes nothing.
use Rattle.std.specs.Prelude.{Ok}
use mathlib.Core.Path.{◌∙◌, ap, subst}
use Rattle.read_statements.specs.Answers.{next_then, NextFurther}
use Rattle.resolve_taking.proofs.Reading.{again_kept, again-read, again-ended, again-refused}
use Rattle.resolve_taking.proofs.statement_at.Goals as goal

pub returns-then-index-lt-FEW : goal.returns-then-index-lt-FEW
returns-then-index-lt-FEW c = again_kept c.if-index-lt-FEW.true

pub next_statement-requires : goal.next_statement-requires
next_statement-requires c = let p = c.requires in (p.0, p.1, p.2, p.3 c.if-index-lt-FEW.false)

pub returns-in-Ok-Some : goal.returns-in-Ok-Some
unfolding next_then NextFurther
returns-in-Ok-Some c =
    again-read c.in-Ok-Some.again.statement c.in-Ok-Some.again.cursor c.if-index-lt-FEW.false (c.next_statement.ensures.at_value ∙ ap (next_then _ _ _) (c.in-Ok-Some.is ∙ ap Ok c.in-Ok-Some.field-0-is))
    (subst (NextFurther _ _ _) (c.in-Ok-Some.is ∙ ap Ok c.in-Ok-Some.field-0-is) c.next_statement.ensures.next_further).0

pub returns-in-Ok-None : goal.returns-in-Ok-None
unfolding next_then
returns-in-Ok-None c =
    again-ended c.if-index-lt-FEW.false (c.next_statement.ensures.at_value ∙ ap (next_then _ _ _) (c.in-Ok-None.is ∙ ap Ok c.in-Ok-None.field-0-is))

pub returns-in-Err : goal.returns-in-Err
unfolding next_then
returns-in-Err c =
    again-refused _ _ c.if-index-lt-FEW.false (c.next_statement.ensures.at_value ∙ ap (next_then _ _ _) c.in-Err.is)

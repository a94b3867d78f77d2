-- `read_arguments::read_entry` meets its contract: a word or a number is one more entry, or the 65th, and nothing else may stand there.
-- Assumes nothing.
use mathlib.Core.Path.{refl, ◌∙◌, ap, sym, subst}
use mathlib.Core.List.{◌++◌}
use native.Mathlib.Omega.{arith}
use Rattle.tokens.specs.Token.{Tokens}
use Rattle.reading.specs.Syntax.{turn, item}
use Rattle.read_forms.specs.Items.{tokens_from, entries, after_entries}
use Rattle.tokens.proofs.Views.{Known, known}
use Rattle.read_arguments.specs.Answers.{refused_by, entry_then, EntryFurther, EntryListed}
use Rattle.read_arguments.proofs.Reading.{rejected}
use Rattle.read_arguments.proofs.Entries.{EntryAt, entry_at, behind, taken, one-too_many, entry-further, entry_listed}
use Rattle.read_arguments.proofs.read_entry.Goals.{After-token-token, Else-token-gt-NUMBER}
use Rattle.read_arguments.proofs.read_entry.Goals as goal

-- what the token's kind tells
here : (d : After-token-token) → Known d.args.text.now d.args.cur.at d.token-token.result
here d = known _ _ d.token-token.result d.token-token.ensures

-- an entry stands here
stands : (d : Else-token-gt-NUMBER) → EntryAt d.args.text.now d.args.cur.at d.token-token.result
stands d = entry_at (here (goal.at.Else-token-gt-NUMBER d).After-token-token) d.if-token-gt-NUMBER.false

pub returns-then-token-gt-NUMBER : goal.returns-then-token-gt-NUMBER
unfolding turn entry_then EntryFurther EntryListed
returns-then-token-gt-NUMBER c = record {
  by_index = (λ limit call p items l.
      rejected limit _ (item call p items) _ c.token-token.result (here (goal.at.returns-then-token-gt-NUMBER c).After-token-token) (λ w e. absurd (omega (arith, c.if-token-gt-NUMBER.true)))
      (λ w e. absurd (omega (arith, c.if-token-gt-NUMBER.true))) (λ h. refl)
      ∙ ap refused_by (sym c.unexpected.ensures));
  entry_further = tt;
  entry_listed = tt;
}

pub returns-then-count-ge64 : goal.returns-then-count-ge64
unfolding entry_then EntryFurther EntryListed
returns-then-count-ge64 c = record { by_index = (λ limit call p items l. one-too_many (stands (goal.at.returns-then-count-ge64 c).Else-token-gt-NUMBER) limit call p items (omega (arith, l, c.if-count-ge64.true))); entry_further = tt; entry_listed = tt }

pub returns : goal.returns
returns c =
    let s = c.args.text.now in
    let o = c.args.cur.at in record {
      by_index = (λ limit call p items l.
          taken (stands (goal.at.returns c).Else-token-gt-NUMBER) limit call p items (omega (arith, l, c.if-count-ge64.false))
          ∙ c.after_entry.ensures.by_index limit call p (items ++ entries 1 (tokens_from s o)));
      entry_further = entry-further (stands (goal.at.returns c).Else-token-gt-NUMBER) (after_entries 1 (tokens_from s o)) c.after_entry.result
          (subst (λ (ts : Tokens). EntryFurther s c.token-token.result.next.at ts c.after_entry.result) (sym (behind (stands (goal.at.returns c).Else-token-gt-NUMBER)))
          c.after_entry.ensures.entry_further);
      entry_listed = entry_listed (stands (goal.at.returns c).Else-token-gt-NUMBER) _ c.after_entry.result c.if-count-ge64.false;
    }

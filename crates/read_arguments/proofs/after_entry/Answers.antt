-- `read_arguments::after_entry` meets its contract: the token's kind says what it makes of an array with an entry read. Assumes nothing.
use mathlib.Core.Path.{refl, ◌∙◌, ap, sym}
use native.Mathlib.Omega.{arith}
use borrow.Author.Tests.{ne_eqb}
use lib.Dec.{lit≤}
use Rattle.reading.specs.Syntax.{turn, item_read}
use Rattle.read_forms.specs.Items.{rest}
use Rattle.tokens.proofs.Views.{Known, known, known-mark}
use Rattle.read_arguments.specs.Answers.{refused_by, entry_then, EntryFurther}
use Rattle.read_arguments.proofs.Reading.{read_token, rejected}
use Rattle.read_arguments.proofs.after_entry.Goals.{After-token-token}
use Rattle.read_arguments.proofs.after_entry.Goals as goal

-- what the token's kind tells
here : (d : After-token-token) → Known d.args.text.now d.args.cur.at d.token-token.result
here d = known _ _ d.token-token.result d.token-token.ensures

pub returns-then-token-eq44 : goal.returns-then-token-eq44
unfolding turn entry_then EntryFurther
returns-then-token-eq44 c =
    let r = known-mark (here (goal.at.returns-then-token-eq44 c).After-token-token) 44 c.if-token-eq44.true (lit≤ tt) in record { by_index = (λ limit call p items. read_token limit _ (item_read call p items) _ _ _ r); entry_further = (omega (arith, r.ahead, r.wide), r.within, ap rest r.tokens) }

pub returns-then-token-eq93 : goal.returns-then-token-eq93
unfolding turn entry_then EntryFurther
returns-then-token-eq93 c =
    let r = known-mark (here (goal.at.returns-then-token-eq93 c).After-token-token) 93 c.if-token-eq93.true (lit≤ tt) in record { by_index = (λ limit call p items. read_token limit _ (item_read call p items) _ _ _ r); entry_further = (omega (arith, r.ahead, r.wide), r.within) }

pub returns : goal.returns
unfolding turn entry_then EntryFurther
returns c = record {
  by_index = (λ limit call p items.
      rejected limit _ (item_read call p items) _ c.token-token.result (here (goal.at.returns c).After-token-token) (λ w e. refl) (λ w e. refl)
      (λ h. simp (ne_eqb _ _ c.if-token-eq44.false, ne_eqb _ _ c.if-token-eq93.false))
      ∙ ap refused_by (sym c.unexpected.ensures));
  entry_further = tt;
}

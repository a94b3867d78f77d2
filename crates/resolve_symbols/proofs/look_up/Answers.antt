-- `resolve_symbols::look_up` meets its contract: the last LET of the key has its values, and without one the symbol is a built-in. Assumes nothing.
use mathlib.Core.Path.{◌≡◌, ◌∙◌, ap, sym, subst}
use mathlib.Core.List.{map}
use mathlib.Core.Option.{some}
use native.Mathlib.Omega.{arith}
use Rattle.read_forms.specs.declared.Items.{Items}
use Rattle.read_forms.specs.Items.{items_in}
use Rattle.read_forms.specs.Fits.{Listed}
use Rattle.resolve_symbols.specs.Lets.{last_let}
use Rattle.resolve_symbols.proofs.Lets.{let_found, no_let_found, last-below, look-builtin, look_let}
use Rattle.resolve_symbols.proofs.look_up.Goals.{In-Some, Start}
use Rattle.resolve_symbols.proofs.look_up.Goals as goal

pub returns-in_default : goal.returns-in_default
returns-in_default c =
    let a = c.args in
    let nowhere = no_let_found a.text.now a.lets.now a.word.now a.n c.find_let.ensures c.in_default.is in
    let b = c.builtin.ensures in (
      b.fits a.text.now,
      λ x m. b.means a.text.now x m ∙ sym (look-builtin x a.text.now a.lets.now a.word.now a.n nowhere),
    )

-- the LET that was found
module _ (c : In-Some) where
  abbrev start : Start
  start = (goal.at.In-Some c).Start

  own :
      last_let start.args.text.now start.args.lets.now start.args.n start.args.word.now
      ≡ some c.in-Some.k
  own = let_found _ _ _ _ c.find_let.ensures c.in-Some.is

pub values_at-requires : goal.values_at-requires
values_at-requires c = omega (arith, (start (goal.at.values_at-requires c).In-Some).requires.room, last-below _ _ _ _ _ (own (goal.at.values_at-requires c).In-Some))

pub returns : goal.returns
returns c =
    let a = (start (goal.at.returns c).In-Some).args in
    let k = c.in-Some.k in
    let v = c.values_at.ensures in (
      subst (Listed a.text.now) (sym v) ((start (goal.at.returns c).In-Some).requires.values k (last-below _ _ _ _ k (own (goal.at.returns c).In-Some))),
      λ x m. ap (λ (is : Items). some (map (λ i. i.name.spelling) (items_in a.text.now is))) v
          ∙ sym (look_let x a.text.now a.lets.now a.word.now a.n k (own (goal.at.returns c).In-Some)),
    )

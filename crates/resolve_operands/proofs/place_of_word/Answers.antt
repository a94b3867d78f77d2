-- `resolve_operands::place_of_word` meets its contract: what is found is the word's first place. Assumes nothing.
use mathlib.Core.Path.{◌∙◌, sym, refl}
use Rattle.resolve_context.proofs.Places.{found_at, found_nowhere}
use Rattle.resolve_operands.proofs.place_of_word.Goals as goal

pub returns-in-Some : goal.returns-in-Some
returns-in-Some c =
    record { word = _; are = refl; found = found_at _ _ (sym c.index_of.ensures ∙ c.in-Some.is) }

pub returns-in-None : goal.returns-in-None
returns-in-None c = (refl, record { word = _; are = refl; found = found_nowhere _ (sym c.index_of.ensures ∙ c.in-None.is) })

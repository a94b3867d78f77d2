-- Shapes spelled one after the other.
-- Assumes nothing.
use mathlib.Core.Path.{◌≡◌, refl, ◌∙◌, ap, sym}
use mathlib.Core.List.{List, [], ◌∷◌, ◌++◌, append_assoc}
use Rattle.tokens.specs.Token.{Shape}
use Rattle.tokens.specs.Spelling.{spell, spell_all}

pub spell-append : (xs ys : List Shape) → spell_all (xs ++ ys) ≡ spell_all xs ++ spell_all ys
spell-append [] ys = refl
spell-append (x ∷ xs) ys =
    ap (λ l. spell x ++ l) (spell-append xs ys) ∙ sym (append_assoc (spell x) (spell_all xs) (spell_all ys))

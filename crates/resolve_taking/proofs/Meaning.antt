-- What symbols mean by the LETs of a text is what they mean by the LETs alone, as they stand in the run: a statement that is no LET gives no
-- symbol a meaning.
-- Assumes nothing.
use Prim.Native.Nat.{ℕ}
use mathlib.Core.Path.{◌≡◌, refl, ◌∙◌, ap, sym}
use mathlib.Core.List.{List, [], ◌∷◌, map}
use mathlib.Core.Option.{Option, some, none}
use Rattle.reading.specs.Statement.{Statement}
use Rattle.resolving.specs.Context.{Context}
use Rattle.resolving.specs.Builtins.{builtin}
use Rattle.resolving.specs.Symbols.{Definition, lets, Meaning, letting, meaning_after, look_up}
use Rattle.resolve_symbols.specs.Lets.{definitions_in}
use Rattle.resolve_taking.specs.Collected.{present, CollectedAll}

after_present : (look : Meaning) (ds : List (Option Definition)) → meaning_after look ds ≡ meaning_after look (map some (present ds))
after_present look [] = refl
after_present look (none ∷ ds) = after_present look ds
after_present look (some d ∷ ds) = after_present (letting look (some d)) ds

pub same_meaning : (c : Context) (ds : List (Option Definition)) → look_up c ds ≡ look_up c (map some (present ds))
unfolding look_up
same_meaning c ds = after_present (builtin c) ds

-- where all LETs of a text stand in the run, the run says what symbols mean
pub collected_meaning :
    (c : Context) {s : List ℕ} {ss : List Statement} {run : List ℕ} {n : ℕ}
    → CollectedAll s ss run n
    → look_up c (lets ss) ≡ look_up c (map some (definitions_in s run n))
collected_meaning c {ss} a = same_meaning c (lets ss) ∙ ap (λ (ds : List Definition). look_up c (map some ds)) (sym a.are)

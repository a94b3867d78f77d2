-- Document 01, Resolving: "Collect every LET; the key ignores ASCII case." "A symbol is looked up among the LETs, then among the built-ins of
-- `builtin`, ignoring ASCII case."
use Rattle.std.specs.Prelude.{ℕ, Bool, false, cond, List, [], ◌∷◌, map}
use Rattle.std.proofs.Math.Option.{Option, some, none}
use Rattle.labels.specs.Word.{same_word}
use Rattle.reading.specs.Statement.{Name, Item, Statement, Let, feature}
use Rattle.resolving.specs.Context.{Context}
use Rattle.resolving.specs.Builtins.{builtin}

-- LETs, without their places. A statement that is no LET defines nothing, and keeps its index.

pub record Definition : Type 0 where
  pub key : List ℕ
  pub values : List (List ℕ)

abbrev pub definition : Name → List Item → Definition
definition n is = record { key = n.spelling; values = map (λ i. i.name.spelling) is }

abbrev pub defines : Statement → Option Definition
defines (Let n is) = some (definition n is)
defines (feature f) = none

abbrev pub lets : List Statement → List (Option Definition)
lets ss = map defines ss

-- two LETs of one key
abbrev pub same_key : Option Definition → Option Definition → Bool
same_key none t = false
same_key (some d) none = false
same_key (some d) (some f) = same_word d.key f.key

-- What symbols mean: the names of each, or none.
abbrev pub Meaning : Type 0
Meaning = List ℕ → Option (List (List ℕ))

-- A LET gives its symbol its values, and leaves the others as they were.
abbrev pub letting : Meaning → Option Definition → Meaning
letting look none w = look w
letting look (some d) w = cond (same_word w d.key) (some d.values) (look w)

-- all LETs; their order is nothing to it, since no two have one key where this is asked
abbrev pub meaning_after : Meaning → List (Option Definition) → Meaning
meaning_after look [] = look
meaning_after look (d ∷ ds) = meaning_after (letting look d) ds

unfoldable pub look_up : Context → List (Option Definition) → Meaning
look_up c ds = meaning_after (builtin c) ds

-- Lists of which all elements are among those of another, in the same order. And the names of what is read of a statement before its end.
use Rattle.std.specs.Prelude.{ℕ, List, [], ◌∷◌, ◌++◌}
use Rattle.tokens.specs.Token.{Shape, word, number, mark}
use Rattle.reading.specs.Statement.{Name}
use Rattle.reading.specs.Argument.{Arg, star, plus, symbol, single, range, array}
use Rattle.reading.specs.Syntax.{
  Call,
  feature_call,
  let_call,
  State,
  keyword,
  marked,
  let_keyword,
  let_open,
  let_named,
  argument,
  at_sign,
  number_read,
  range_open,
  array_open,
  item,
  item_read,
  argument_read,
  name,
}
use Rattle.reading.specs.Read.{Where, between, ended, inside}
use Rattle.reading_laws.specs.Spelled.{item_names}
use Rattle.text.specs.Lists.{gather}

pub data Among {A : Type 0} : List A → List A → Type 0 where
  none : Among [] []
  kept : {x : A} {xs ys : List A} → Among xs ys → Among (x ∷ xs) (x ∷ ys)
  dropped : {y : A} {xs ys : List A} → Among xs ys → Among xs (y ∷ ys)

-- What is read of a statement before its end. A keyword is no name of it.

abbrev pub arg_names : Arg → List Name
arg_names (star o) = []
arg_names (plus o) = []
arg_names (symbol o n) = n ∷ []
arg_names (single i) = i.name ∷ []
arg_names (range o a b) = []
arg_names (array o is) = item_names is

abbrev pub args_names : List Arg → List Name
args_names bs = gather arg_names bs

abbrev pub call_names : Call → List Name
call_names (feature_call k m args) = args_names args
call_names (let_call n) = n ∷ []

abbrev pub state_names : State → List Name
state_names (keyword k) = []
state_names (marked k) = []
state_names let_keyword = []
state_names let_open = []
state_names (let_named n) = n ∷ []
state_names (argument c) = call_names c
state_names (at_sign c p) = call_names c
state_names (number_read c n) = call_names c ++ n ∷ []
state_names (range_open c n) = call_names c ++ n ∷ []
state_names (array_open c p) = call_names c
state_names (item c p is) = call_names c ++ item_names is
state_names (item_read c p is) = call_names c ++ item_names is
state_names (argument_read c a) = call_names c ++ arg_names a

abbrev pub where_names : Where → List Name
where_names between = []
where_names ended = []
where_names (inside s) = state_names s

-- names that were read, and a token's
abbrev pub names_then : List Name → ℕ → Shape → List Name
names_then ns o (word w) = ns ++ name o w ∷ []
names_then ns o (number w) = ns ++ name o w ∷ []
names_then ns o (mark m) = ns

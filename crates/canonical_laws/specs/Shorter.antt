-- How many bytes tokens have; how many a statement has where it is printed; and how many that which was read of one was written with at
-- least: what stands between tokens and leading zeros are not counted.
use Rattle.std.specs.Prelude.{ℕ, ◌+◌, ◌-◌, ◌≤◌, Bool, true, false, List, [], ◌∷◌, map, length}
use Rattle.tokens.specs.Token.{Shape, width, Tokens, finish, bad, ◌▸◌}
use Rattle.counts.specs.Decimal.{digits_of}
use Rattle.reading.specs.Statement.{Name, Item, Statement}
use Rattle.reading.specs.Argument.{Arg, star, plus, symbol, single, range, array}
use Rattle.reading.specs.Syntax.{
  Call,
  feature_call,
  let_call,
  State,
  keyword,
  marked,
  let_keyword,
  let_open,
  let_named,
  argument,
  at_sign,
  number_read,
  range_open,
  array_open,
  item,
  item_read,
  argument_read,
  Step,
}
use Rattle.reading.specs.Read.{Where, between, ended, inside}
use Rattle.reading_laws.specs.Turned.{Leads}
use Rattle.canonical.specs.Canonical.{item_shape, statement_shapes}

-- Tokens.

-- all of a list; all of a list with a `,` after each; all of a text
abbrev pub widths : List Shape → ℕ
widths [] = 0
widths (x ∷ xs) = width x + widths xs

abbrev pub entry_widths : List Shape → ℕ
entry_widths [] = 0
entry_widths (x ∷ xs) = width x + 1 + entry_widths xs

abbrev pub token_widths : Tokens → ℕ
token_widths finish = 0
token_widths (bad o) = 0
token_widths (t ▸ ts) = width t.shape + token_widths ts

-- Statements that are printed.

-- arguments with a `,` after each; a `?`
abbrev pub argument_widths : List (List Shape) → ℕ
argument_widths [] = 0
argument_widths (a ∷ rest) = widths a + 1 + argument_widths rest

abbrev pub mark_width : Bool → ℕ
mark_width true = 1
mark_width false = 0

-- a keyword, its `?`, `(`, and arguments with a `,` or a `)` after each
abbrev pub call_width : ℕ → Bool → ℕ → ℕ
call_width k m args = k + mark_width m + 1 + args

-- statements with a `;` before each
abbrev pub statement_widths : List Statement → ℕ
statement_widths [] = 0
statement_widths (s ∷ ss) = 1 + widths (statement_shapes s) + statement_widths ss

-- What was read of a statement.

abbrev pub name_width : Name → ℕ
name_width n = length n.spelling

-- an array's items with a `,` after each; brackets around what has a `,` after each, without the last
abbrev pub item_widths : List Item → ℕ
item_widths is = entry_widths (map item_shape is)

abbrev pub in_brackets : ℕ → ℕ
in_brackets n = 2 + (n - 1)

-- counts are written without leading zeros
abbrev pub arg_width : Arg → ℕ
arg_width (star o) = 1
arg_width (plus o) = 1
arg_width (symbol o n) = 1 + name_width n
arg_width (single i) = name_width i.name
arg_width (range o a b) = length (digits_of a) + 2 + length (digits_of b)
arg_width (array o is) = in_brackets (item_widths is)

-- arguments with a `,` after each
abbrev pub arg_widths : List Arg → ℕ
arg_widths [] = 0
arg_widths (a ∷ rest) = arg_width a + 1 + arg_widths rest

-- a call up to where an argument may start
abbrev pub open_width : Call → ℕ
open_width (feature_call k m args) = call_width (name_width k) m (arg_widths args)
open_width (let_call n) = 5 + name_width n

abbrev pub state_width : State → ℕ
state_width (keyword k) = name_width k
state_width (marked k) = name_width k + 1
state_width let_keyword = 3
state_width let_open = 4
state_width (let_named n) = 4 + name_width n
state_width (argument c) = open_width c
state_width (at_sign c p) = open_width c + 1
state_width (number_read c n) = open_width c + name_width n
state_width (range_open c n) = open_width c + name_width n + 2
state_width (array_open c p) = open_width c + 1
state_width (item c p is) = open_width c + 1 + item_widths is
state_width (item_read c p is) = open_width c + 1 + (item_widths is - 1)
state_width (argument_read c a) = open_width c + arg_width a

-- The `;` before the first statement is not written.
abbrev pub where_width : Where → ℕ
where_width between = 1
where_width ended = 0
where_width (inside s) = 1 + state_width s

-- So much of a statement, or the whole of it as it is printed, is no longer than so many bytes.
abbrev pub Within : ℕ → Step → Type 0
Within n x = Leads (λ s. state_width s ≤ n) (λ s. widths (statement_shapes s) ≤ n) x

-- Document 01, Reading: "Statements are read to their `)`". The form of a statement (000, `statement`, `let_statement`, `args`, `arg`), as
-- what each next token makes of what was read before it:
--     statement = WORD [`?`] `(` [ARG {`,` ARG}] `)`, or LET `(` WORD `,` ARG `)`
--     ARG       = `*` | `+` | `@` WORD | WORD | NUMBER [`..` NUMBER] | `[` [ITEM {`,` ITEM}] `]`
--     ITEM      = WORD | NUMBER
use Rattle.std.specs.Prelude.{ℕ, Bool, true, false, cond, List, [], ◌∷◌, ◌++◌, ltb, length}
use Rattle.text.specs.Bytes.{bytes, is}
use Rattle.tokens.specs.Token.{Shape, word, number, mark}
use Rattle.labels.specs.Word.{same_word}
use Rattle.reading.specs.Statement.{Name, Kind, a_word, a_number, Item, Statement, Feature, Let, feature}
use Rattle.reading.specs.Answer.{Answer, accepted, refused}
use Rattle.reading.specs.Argument.{Arg, star, plus, symbol, single, array, range_of, items_of}
use Rattle.reading.specs.Feature.{build_feature}

-- What arguments belong to: a feature with its `?` and the arguments before, or a LET with its name.
pub data Call : Type 0 where
  feature_call : Name → Bool → List Arg → Call
  let_call : Name → Call

-- What was read of a statement, by what may follow.
pub data State : Type 0 where
  keyword : Name → State
  marked : Name → State
  let_keyword : State
  let_open : State
  let_named : Name → State
  argument : Call → State
  at_sign : Call → ℕ → State
  number_read : Call → Name → State
  range_open : Call → Name → State
  array_open : Call → ℕ → State
  item : Call → ℕ → List Item → State
  item_read : Call → ℕ → List Item → State
  argument_read : Call → Arg → State

-- What a token makes of that: more of the statement, the whole of it, or a refusal.
pub data Step : Type 0 where
  more : State → Step
  made : Statement → Step
  stop : ℕ → ℕ → Step

-- token not allowed
abbrev pub wrong : ℕ → Step
wrong o = stop 3 o

-- a 65th word or number in an array
abbrev pub overfull : ℕ → Step
overfull o = stop 11 o

abbrev pub name : ℕ → List ℕ → Name
name o w = record { place = o; spelling = w }

abbrev pub item_as : Kind → ℕ → List ℕ → Item
item_as k o w = record { kind = k; name = name o w }

-- a statement's first token
unfoldable pub opened : ℕ → Shape → Step
opened o (word w) = cond (same_word w (bytes "LET")) (more let_keyword) (more (keyword (name o w)))
opened o (number w) = wrong o
opened o (mark m) = wrong o

-- the feature of a keyword and its arguments, and the LET of a name and its values
unfoldable pub feature_made : Answer Feature → Step
feature_made (accepted f) = made (feature f)
feature_made (refused n p) = stop n p

unfoldable pub let_made : Name → Answer (List Item) → Step
let_made n (accepted items) = made (Let n items)
let_made n (refused k p) = stop k p

-- the `)` after an argument, the `,` after one, and the `)` where the first would start
unfoldable pub closed : ℕ → Call → Arg → Step
closed limit (feature_call k m args) a = feature_made (build_feature limit k m (args ++ a ∷ []))
closed limit (let_call n) a = let_made n (items_of a)

abbrev pub comma : ℕ → Call → Arg → Step
comma o (feature_call k m args) a = more (argument (feature_call k m (args ++ a ∷ [])))
comma o (let_call n) a = wrong o

abbrev pub empty : ℕ → ℕ → Call → Step
empty limit o (feature_call k m []) = feature_made (build_feature limit k m [])
empty limit o (feature_call k m (a ∷ rest)) = wrong o
empty limit o (let_call n) = wrong o

-- one more item of an array
abbrev pub entered : Call → ℕ → List Item → Kind → ℕ → List ℕ → Step
entered c p items k o w =
    cond (ltb (length items) 64) (more (item_read c p (items ++ item_as k o w ∷ []))) (overfull o)

abbrev pub range_read : Call → Answer Arg → Step
range_read c (accepted a) = more (argument_read c a)
range_read c (refused n p) = stop n p

-- a mark after an argument
abbrev pub after_argument : ℕ → ℕ → ℕ → Call → Arg → Step
after_argument limit o m c a = cond (is "," m) (comma o c a) (cond (is ")" m) (closed limit c a) (wrong o))

unfoldable pub turn : ℕ → State → ℕ → Shape → Step
turn limit (keyword k) o (word w) = wrong o
turn limit (keyword k) o (number w) = wrong o
turn limit (keyword k) o (mark m) =
    cond (is "?" m) (more (marked k)) (cond (is "(" m) (more (argument (feature_call k false []))) (wrong o))
turn limit (marked k) o (word w) = wrong o
turn limit (marked k) o (number w) = wrong o
turn limit (marked k) o (mark m) = cond (is "(" m) (more (argument (feature_call k true []))) (wrong o)
turn limit let_keyword o (word w) = wrong o
turn limit let_keyword o (number w) = wrong o
turn limit let_keyword o (mark m) = cond (is "(" m) (more let_open) (wrong o)
turn limit let_open o (word w) = more (let_named (name o w))
turn limit let_open o (number w) = wrong o
turn limit let_open o (mark m) = wrong o
turn limit (let_named n) o (word w) = wrong o
turn limit (let_named n) o (number w) = wrong o
turn limit (let_named n) o (mark m) = cond (is "," m) (more (argument (let_call n))) (wrong o)
turn limit (argument c) o (word w) = more (argument_read c (single (item_as a_word o w)))
turn limit (argument c) o (number w) = more (number_read c (name o w))
turn limit (argument c) o (mark m) =
    cond (is "*" m) (more (argument_read c (star o)))
    (cond (is "+" m) (more (argument_read c (plus o)))
    (cond (is "@" m) (more (at_sign c o))
    (cond (is "[" m) (more (array_open c o))
    (cond (is ")" m) (empty limit o c)
    (wrong o)))))
turn limit (at_sign c p) o (word w) = more (argument_read c (symbol p (name o w)))
turn limit (at_sign c p) o (number w) = wrong o
turn limit (at_sign c p) o (mark m) = wrong o
turn limit (number_read c n) o (word w) = wrong o
turn limit (number_read c n) o (number w) = wrong o
turn limit (number_read c n) o (mark m) =
    cond (is "." m) (more (range_open c n)) (after_argument limit o m c (single (record { kind = a_number; name = n })))
turn limit (range_open c n) o (word w) = wrong o
turn limit (range_open c n) o (number w) = range_read c (range_of limit n (name o w))
turn limit (range_open c n) o (mark m) = wrong o
turn limit (array_open c p) o (word w) = entered c p [] a_word o w
turn limit (array_open c p) o (number w) = entered c p [] a_number o w
turn limit (array_open c p) o (mark m) = cond (is "]" m) (more (argument_read c (array p []))) (wrong o)
turn limit (item c p items) o (word w) = entered c p items a_word o w
turn limit (item c p items) o (number w) = entered c p items a_number o w
turn limit (item c p items) o (mark m) = wrong o
turn limit (item_read c p items) o (word w) = wrong o
turn limit (item_read c p items) o (number w) = wrong o
turn limit (item_read c p items) o (mark m) =
    cond (is "," m) (more (item c p items)) (cond (is "]" m) (more (argument_read c (array p items))) (wrong o))
turn limit (argument_read c a) o (word w) = wrong o
turn limit (argument_read c a) o (number w) = wrong o
turn limit (argument_read c a) o (mark m) = after_argument limit o m c a

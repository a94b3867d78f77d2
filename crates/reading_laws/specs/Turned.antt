-- What a token makes of what was read of a statement: a case for each token that is not refused. The tests that tell them apart are gone
-- through once, and what holds from token to token is shown case by case.
use Rattle.std.specs.Prelude.{ℕ, ◌<◌, ◌≡◌, Bool, true, false, List, [], ◌∷◌, ◌++◌, length}
use Rattle.text.specs.Bytes.{bytes, is}
use Rattle.tokens.specs.Token.{Shape, word, number, mark}
use Rattle.labels.specs.Word.{same_word}
use Rattle.reading.specs.Statement.{Name, a_word, a_number, Item, Feature, Statement, Let, feature}
use Rattle.reading.specs.Parts.{values_part}
use Rattle.reading.specs.Answer.{accepted}
use Rattle.reading.specs.Argument.{Arg, star, plus, symbol, single, array}
use Rattle.reading.specs.Feature.{build_feature}
use Rattle.reading.specs.Syntax.{
  Call,
  feature_call,
  let_call,
  State,
  keyword,
  marked,
  let_keyword,
  let_open,
  let_named,
  argument,
  at_sign,
  number_read,
  range_open,
  array_open,
  item,
  item_read,
  argument_read,
  Step,
  more,
  made,
  stop,
  item_as,
  name,
}
use Rattle.reading_laws.specs.WellFormed.{is_fault}
use Rattle.reading_laws.specs.Taken.{RangeTaken, TakenAs}

-- A step to a state or to a statement of which something holds, or a refusal by the number of a fault.
pub data Leads (P : State → Type 0) (Q : Statement → Type 0) : Step → Type 0 where
  goes : {s : State} → P s → Leads P Q (more s)
  makes : {x : Statement} → Q x → Leads P Q (made x)
  halts : {n p : ℕ} → is_fault n ≡ true → Leads P Q (stop n p)

-- a statement's first token
pub data Opened : ℕ → Shape → Step → Type 0 where
  no_statement : {o : ℕ} {x : Shape} {n p : ℕ} → is_fault n ≡ true → Opened o x (stop n p)
  a_keyword : {o : ℕ} {w : List ℕ} → Opened o (word w) (more (keyword (name o w)))
  a_let_keyword : {o : ℕ} {w : List ℕ} → same_word w (bytes "LET") ≡ true → Opened o (word w) (more let_keyword)

-- a token inside one
pub data Turned (limit : ℕ) : State → ℕ → Shape → Step → Type 0 where
  refusing : {s : State} {o : ℕ} {x : Shape} {n p : ℕ} → is_fault n ≡ true → Turned limit s o x (stop n p)
  -- the keyword of a feature, its `?` and its `(`
  questioned : {k : Name} {o m : ℕ} → Turned limit (keyword k) o (mark m) (more (marked k))
  called : {k : Name} {o m : ℕ} → Turned limit (keyword k) o (mark m) (more (argument (feature_call k false [])))
  called_marked : {k : Name} {o m : ℕ} → Turned limit (marked k) o (mark m) (more (argument (feature_call k true [])))
  -- the `(` of a LET, its name, and the `,` after it
  called_let : {o m : ℕ} → Turned limit let_keyword o (mark m) (more let_open)
  named : {o : ℕ} {w : List ℕ} → Turned limit let_open o (word w) (more (let_named (name o w)))
  valued : {n : Name} {o m : ℕ} → Turned limit (let_named n) o (mark m) (more (argument (let_call n)))
  -- an argument, or its first token
  a_word_alone : {c : Call} {o : ℕ} {w : List ℕ} → Turned limit (argument c) o (word w) (more (argument_read c (single (item_as a_word o w))))
  a_number_first : {c : Call} {o : ℕ} {w : List ℕ} → Turned limit (argument c) o (number w) (more (number_read c (name o w)))
  a_star : {c : Call} {o m : ℕ} → Turned limit (argument c) o (mark m) (more (argument_read c (star o)))
  a_plus : {c : Call} {o m : ℕ} → Turned limit (argument c) o (mark m) (more (argument_read c (plus o)))
  an_at : {c : Call} {o m : ℕ} → Turned limit (argument c) o (mark m) (more (at_sign c o))
  a_bracket : {c : Call} {o m : ℕ} → Turned limit (argument c) o (mark m) (more (array_open c o))
  no_argument :
      {k : Name} {q : Bool} {o m : ℕ} {f : Feature}
      → build_feature limit k q [] ≡ accepted f
      → Turned limit (argument (feature_call k q [])) o (mark m) (made (feature f))
  -- a symbol, a number alone, and a range
  a_symbol : {c : Call} {p o : ℕ} {w : List ℕ} → Turned limit (at_sign c p) o (word w) (more (argument_read c (symbol p (name o w))))
  a_number_alone :
      {c : Call} {n : Name} {o m : ℕ} {y : Step}
      → Turned limit (argument_read c (single (record { kind = a_number; name = n }))) o (mark m) y
      → Turned limit (number_read c n) o (mark m) y
  points : {c : Call} {n : Name} {o m : ℕ} → is "." m ≡ true → Turned limit (number_read c n) o (mark m) (more (range_open c n))
  a_range :
      {c : Call} {n : Name} {o : ℕ} {w : List ℕ} {a : Arg}
      → RangeTaken limit n (name o w) a
      → Turned limit (range_open c n) o (number w) (more (argument_read c a))
  -- an array: its items, its `,` and its `]`
  first_word :
      {c : Call} {p o : ℕ} {w : List ℕ} → Turned limit (array_open c p) o (word w) (more (item_read c p (item_as a_word o w ∷ [])))
  first_number :
      {c : Call} {p o : ℕ} {w : List ℕ} → Turned limit (array_open c p) o (number w) (more (item_read c p (item_as a_number o w ∷ [])))
  empty_array : {c : Call} {p o m : ℕ} → Turned limit (array_open c p) o (mark m) (more (argument_read c (array p [])))
  next_word :
      {c : Call} {p o : ℕ} {items : List Item} {w : List ℕ}
      → length items < 64
      → Turned limit (item c p items) o (word w) (more (item_read c p (items ++ item_as a_word o w ∷ [])))
  next_number :
      {c : Call} {p o : ℕ} {items : List Item} {w : List ℕ}
      → length items < 64
      → Turned limit (item c p items) o (number w) (more (item_read c p (items ++ item_as a_number o w ∷ [])))
  item_comma : {c : Call} {p o m : ℕ} {items : List Item} → Turned limit (item_read c p items) o (mark m) (more (item c p items))
  an_array :
      {c : Call} {p o m : ℕ} {items : List Item} → Turned limit (item_read c p items) o (mark m) (more (argument_read c (array p items)))
  -- the `,` and the `)` after an argument
  argument_comma :
      {k : Name} {q : Bool} {args : List Arg} {a : Arg} {o m : ℕ}
      → Turned limit (argument_read (feature_call k q args) a) o (mark m) (more (argument (feature_call k q (args ++ a ∷ []))))
  a_feature :
      {k : Name} {q : Bool} {args : List Arg} {a : Arg} {o m : ℕ} {f : Feature}
      → build_feature limit k q (args ++ a ∷ []) ≡ accepted f
      → Turned limit (argument_read (feature_call k q args) a) o (mark m) (made (feature f))
  a_let :
      {n : Name} {a : Arg} {o m : ℕ} {items : List Item}
      → TakenAs limit a (values_part items)
      → Turned limit (argument_read (let_call n) a) o (mark m) (made (Let n items))

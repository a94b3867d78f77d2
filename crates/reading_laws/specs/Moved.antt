-- What becomes of the things of reading where tokens stand elsewhere in the text: each place moves to another, and nothing else changes.
use Rattle.std.specs.Prelude.{ℕ, ◌≡◌, List, map}
use Rattle.std.proofs.Math.Option
use Rattle.tokens.specs.Token.{Tokens, finish, bad, ◌▸◌}
use Rattle.reading.specs.Statement.{
  Name,
  Item,
  Operand,
  everyone,
  names,
  Feature,
  Absorption,
  Elimination,
  Peripherals,
  Transits,
  Lagtime,
  Covariate,
  Allometry,
  DirectEffect,
  EffectComp,
  IndirectEffect,
  Metabolite,
  Iiv,
  Iov,
  Covariance,
  Statement,
  Let,
  feature,
}
use Rattle.reading.specs.Statement as statement
use Rattle.reading.specs.Parts.{
  Part,
  modes_part,
  counts_part,
  estimated_part,
  operand_part,
  name_part,
  values_part,
  operator_part,
  omitted,
  Parts,
  taken,
}
use Rattle.reading.specs.Answer.{Answer, accepted, refused}
use Rattle.reading.specs.Argument.{Arg, star, plus, symbol, single, range, array}
use Rattle.reading.specs.Syntax.{
  Call,
  feature_call,
  let_call,
  State,
  keyword,
  marked,
  let_keyword,
  let_open,
  let_named,
  argument,
  at_sign,
  number_read,
  range_open,
  array_open,
  item,
  item_read,
  argument_read,
  Step,
  more,
  made,
  stop,
}
use Rattle.reading.specs.Read.{Where, between, ended, inside}

-- Tokens, and the place of a byte that starts none.

abbrev pub move_tokens : (ℕ → ℕ) → Tokens → Tokens
move_tokens to finish = finish
move_tokens to (bad o) = bad (to o)
move_tokens to (t ▸ ts) = record { place = to t.place; shape = t.shape } ▸ move_tokens to ts

-- Statements.

abbrev pub move_name : (ℕ → ℕ) → Name → Name
move_name to n = record { place = to n.place; spelling = n.spelling }

abbrev pub move_item : (ℕ → ℕ) → Item → Item
move_item to i = record { kind = i.kind; name = move_name to i.name }

abbrev pub move_operand : (ℕ → ℕ) → Operand → Operand
move_operand to everyone = everyone
move_operand to (statement.symbol n) = statement.symbol (move_name to n)
move_operand to (names ns) = names (map (move_name to) ns)

abbrev pub move_feature : (ℕ → ℕ) → Feature → Feature
move_feature to (Absorption ms) = Absorption ms
move_feature to (Elimination ms) = Elimination ms
move_feature to (Peripherals c ms) = Peripherals c ms
move_feature to (Transits c ms) = Transits c ms
move_feature to (Lagtime ms) = Lagtime ms
move_feature to (Covariate m ps cs es op) = Covariate m (move_operand to ps) (move_operand to cs) es op
move_feature to (Allometry n r) = Allometry (move_name to n) (Option.map (move_name to) r)
move_feature to (DirectEffect ms) = DirectEffect ms
move_feature to (EffectComp ms) = EffectComp ms
move_feature to (IndirectEffect ms ps) = IndirectEffect ms ps
move_feature to (Metabolite ms) = Metabolite ms
move_feature to (Iiv m ps es) = Iiv m (move_operand to ps) es
move_feature to (Iov m ps es) = Iov m (move_operand to ps) es
move_feature to (Covariance m ls ps) = Covariance m ls (move_operand to ps)

abbrev pub move_statement : (ℕ → ℕ) → Statement → Statement
move_statement to (Let n is) = Let (move_name to n) (map (move_item to) is)
move_statement to (feature f) = feature (move_feature to f)

-- The parts of a statement.

abbrev pub move_part : (ℕ → ℕ) → Part → Part
move_part to (modes_part f ms) = modes_part f ms
move_part to (counts_part c) = counts_part c
move_part to estimated_part = estimated_part
move_part to (operand_part p) = operand_part (move_operand to p)
move_part to (name_part n) = name_part (move_name to n)
move_part to (values_part is) = values_part (map (move_item to) is)
move_part to (operator_part op) = operator_part op
move_part to omitted = omitted

abbrev pub move_parts : (ℕ → ℕ) → Parts → Parts
move_parts to p = taken p.keyword p.optional (map (move_part to) p.arguments)

-- What is read of a statement before its end.

abbrev pub move_arg : (ℕ → ℕ) → Arg → Arg
move_arg to (star o) = star (to o)
move_arg to (plus o) = plus (to o)
move_arg to (symbol o n) = symbol (to o) (move_name to n)
move_arg to (single i) = single (move_item to i)
move_arg to (range o a b) = range (to o) a b
move_arg to (array o is) = array (to o) (map (move_item to) is)

abbrev pub move_call : (ℕ → ℕ) → Call → Call
move_call to (feature_call k m args) = feature_call (move_name to k) m (map (move_arg to) args)
move_call to (let_call n) = let_call (move_name to n)

abbrev pub move_state : (ℕ → ℕ) → State → State
move_state to (keyword k) = keyword (move_name to k)
move_state to (marked k) = marked (move_name to k)
move_state to let_keyword = let_keyword
move_state to let_open = let_open
move_state to (let_named n) = let_named (move_name to n)
move_state to (argument c) = argument (move_call to c)
move_state to (at_sign c p) = at_sign (move_call to c) (to p)
move_state to (number_read c n) = number_read (move_call to c) (move_name to n)
move_state to (range_open c n) = range_open (move_call to c) (move_name to n)
move_state to (array_open c p) = array_open (move_call to c) (to p)
move_state to (item c p is) = item (move_call to c) (to p) (map (move_item to) is)
move_state to (item_read c p is) = item_read (move_call to c) (to p) (map (move_item to) is)
move_state to (argument_read c a) = argument_read (move_call to c) (move_arg to a)

abbrev pub move_step : (ℕ → ℕ) → Step → Step
move_step to (more s) = more (move_state to s)
move_step to (made s) = made (move_statement to s)
move_step to (stop n p) = stop n (to p)

abbrev pub move_where : (ℕ → ℕ) → Where → Where
move_where to between = between
move_where to ended = ended
move_where to (inside s) = inside (move_state to s)

-- Answers: a refusal's place moves, and a value as it is told to.

abbrev pub move_answer : {A B : Type 0} → (ℕ → ℕ) → (A → B) → Answer A → Answer B
move_answer to f (accepted a) = accepted (f a)
move_answer to f (refused n p) = refused n (to p)

-- The answer to a moved question is the moved answer: what each law about answers says.
pub record Moves {A B : Type 0} (to : ℕ → ℕ) (r : A → B) (after : Answer B) (before : Answer A) : Type 0 where
  pub is : after ≡ move_answer to r before

-- a value in which no place stands
abbrev pub same : {A : Type 0} → A → A
same a = a

abbrev pub move_read : (ℕ → ℕ) → Answer (List Statement) → Answer (List Statement)
move_read to r = move_answer to (map (move_statement to)) r

-- Each token that is not refused is one of the cases of `Opened` or `Turned`.
-- Assumes nothing.
use Prim.Native.Nat.{ℕ, ◌<◌}
use native.Mathlib.Omega.{arith}
use mathlib.Core.Path.{◌≡◌, refl, subst}
use mathlib.Core.Bool.{Bool, true, false, cond}
use mathlib.Core.List.{List, [], ◌∷◌, ◌++◌}
use borrow.Author.Tests.{ltb-true}
use lib.Dec.{ltb}
use lib.ListN.{length}
use Rattle.text.specs.Bytes.{bytes, is}
use Rattle.tokens.specs.Token.{Shape, word, number, mark}
use Rattle.labels.specs.Word.{same_word}
use Rattle.reading.specs.Statement.{Name, a_number, Item, Feature, Statement, feature}
use Rattle.reading.specs.Parts.{values_part}
use Rattle.reading.specs.Answer.{Answer, accepted, refused}
use Rattle.reading.specs.Argument.{Arg, single}
use Rattle.reading.specs.Feature.{build_feature}
use Rattle.reading.specs.Syntax.{
  Call,
  feature_call,
  let_call,
  State,
  keyword,
  marked,
  let_keyword,
  let_open,
  let_named,
  argument,
  at_sign,
  number_read,
  range_open,
  array_open,
  item,
  item_read,
  argument_read,
  Step,
  more,
  made,
  overfull,
  name,
  opened,
  feature_made,
  let_made,
  closed,
  comma,
  empty,
  range_read,
  after_argument,
  turn,
}
use Rattle.reading_laws.specs.WellFormed.{Gives, given, nothing}
use Rattle.reading_laws.specs.Taken.{RangeTaken, TakenAs}
use Rattle.reading_laws.specs.Turned.{Leads, goes, makes, halts, Opened, Turned}
use Rattle.reading_laws.specs.Turned as case
use Rattle.reading_laws.proofs.Taking.{range-taken, values-taken}
use Rattle.reading_laws.proofs.Parts.{build_taken}

-- what a step is known for
module _ {P : State → Type 0} {Q : Statement → Type 0} where
  pub leads_more : {x : Step} {s : State} → Leads P Q x → x ≡ more s → P s
  leads_more {s} (goes {s = t} h) e = let z : t ≡ s = cc in subst P z h
  leads_more (makes h) e = let z : ◌≡◌ {A = ℕ} 0 1 = cc in absurd (omega arith)
  leads_more (halts f) e = let z : ◌≡◌ {A = ℕ} 0 1 = cc in absurd (omega arith)

  pub leads_made : {x : Step} {s : Statement} → Leads P Q x → x ≡ made s → Q s
  leads_made (goes h) e = let z : ◌≡◌ {A = ℕ} 0 1 = cc in absurd (omega arith)
  leads_made {s} (makes {x = t} h) e = let z : t ≡ s = cc in subst Q z h
  leads_made (halts f) e = let z : ◌≡◌ {A = ℕ} 0 1 = cc in absurd (omega arith)

-- A statement's first token.
pub opening : (o : ℕ) (x : Shape) → Opened o x (opened o x)
unfolding opened
opening o (word w) = go (same_word w (bytes "LET")) refl
  where
    go : (t : Bool) → same_word w (bytes "LET") ≡ t → Opened o (word w) (cond t (more let_keyword) (more (keyword (name o w))))
    go true e = case.a_let_keyword e
    go false e = case.a_keyword
opening o (number w) = case.no_statement refl
opening o (mark m) = case.no_statement refl

module _ {limit : ℕ} {s : State} {o : ℕ} {x : Shape} where
  -- one step or another, by a test
  either : (t : Bool) {y z : Step} → Turned limit s o x y → Turned limit s o x z → Turned limit s o x (cond t y z)
  either true h g = h
  either false h g = g

  -- a feature, a LET and a range that are made of an answer
  feature_turned :
      {P : Feature → Type 0} {r : Answer Feature}
      → Gives P r
      → ((f : Feature) → r ≡ accepted f → Turned limit s o x (made (feature f)))
      → Turned limit s o x (feature_made r)
  unfolding feature_made
  feature_turned (given g) h = h _ refl
  feature_turned (nothing e) h = case.refusing e

  -- one more item of an array
  entered_turned :
      (items : List Item) {y : Step}
      → (length items < 64 → Turned limit s o x y)
      → Turned limit s o x (cond (ltb (length items) 64) y (overfull o))
  entered_turned items {y} h = go (ltb (length items) 64) refl
    where
      go : (t : Bool) → ltb (length items) 64 ≡ t → Turned limit s o x (cond t y (overfull o))
      go true e = h (ltb-true (length items) 64 e)
      go false e = case.refusing refl

range_turned :
    {limit o : ℕ} (c : Call) (n : Name) {w : List ℕ} {r : Answer Arg}
    → Gives (RangeTaken limit n (name o w)) r
    → Turned limit (range_open c n) o (number w) (range_read c r)
range_turned c n (given t) = case.a_range t
range_turned c n (nothing e) = case.refusing e

module _ {limit o m : ℕ} where
  -- the `)` where the first argument would start, and the `)` and the `,` after one
  empty_turned : (c : Call) → Turned limit (argument c) o (mark m) (empty limit o c)
  empty_turned (feature_call k q []) = feature_turned (build_taken limit k q []) λ f e. case.no_argument e
  empty_turned (feature_call k q (a ∷ rest)) = case.refusing refl
  empty_turned (let_call n) = case.refusing refl

  let_turned :
      (n : Name) (a : Arg) {r : Answer (List Item)}
      → Gives (λ is. TakenAs limit a (values_part is)) r
      → Turned limit (argument_read (let_call n) a) o (mark m) (let_made n r)
  unfolding let_made
  let_turned n a (given t) = case.a_let t
  let_turned n a (nothing e) = case.refusing e

  closed_turned : (c : Call) (a : Arg) → Turned limit (argument_read c a) o (mark m) (closed limit c a)
  unfolding closed
  closed_turned (feature_call k q args) a = feature_turned (build_taken limit k q (args ++ a ∷ [])) λ f e. case.a_feature e
  closed_turned (let_call n) a = let_turned n a (values-taken limit a)

  comma_turned : (c : Call) (a : Arg) → Turned limit (argument_read c a) o (mark m) (comma o c a)
  comma_turned (feature_call k q args) a = case.argument_comma
  comma_turned (let_call n) a = case.refusing refl

  after_argument_turned : (c : Call) (a : Arg) → Turned limit (argument_read c a) o (mark m) (after_argument limit o m c a)
  after_argument_turned c a = either (is "," m) (comma_turned c a) (either (is ")" m) (closed_turned c a) (case.refusing refl))

  after_number_turned : (c : Call) (n : Name) → Turned limit (number_read c n) o (mark m) (turn limit (number_read c n) o (mark m))
  unfolding turn
  after_number_turned c n = go (is "." m) refl
    where
      go :
          (t : Bool)
          → is "." m ≡ t
          → Turned limit (number_read c n) o (mark m)
          (cond t (more (range_open c n)) (after_argument limit o m c (single (record { kind = a_number; name = n }))))
      go true e = case.points e
      go false e = case.a_number_alone (after_argument_turned c (single (record { kind = a_number; name = n })))

-- What a token makes of what was read is one of the cases.
pub turning : (limit : ℕ) (s : State) (o : ℕ) (x : Shape) → Turned limit s o x (turn limit s o x)
unfolding turn
turning limit (keyword k) o (word w) = case.refusing refl
turning limit (keyword k) o (number w) = case.refusing refl
turning limit (keyword k) o (mark m) = either (is "?" m) case.questioned (either (is "(" m) case.called (case.refusing refl))
turning limit (marked k) o (word w) = case.refusing refl
turning limit (marked k) o (number w) = case.refusing refl
turning limit (marked k) o (mark m) = either (is "(" m) case.called_marked (case.refusing refl)
turning limit let_keyword o (word w) = case.refusing refl
turning limit let_keyword o (number w) = case.refusing refl
turning limit let_keyword o (mark m) = either (is "(" m) case.called_let (case.refusing refl)
turning limit let_open o (word w) = case.named
turning limit let_open o (number w) = case.refusing refl
turning limit let_open o (mark m) = case.refusing refl
turning limit (let_named n) o (word w) = case.refusing refl
turning limit (let_named n) o (number w) = case.refusing refl
turning limit (let_named n) o (mark m) = either (is "," m) case.valued (case.refusing refl)
turning limit (argument c) o (word w) = case.a_word_alone
turning limit (argument c) o (number w) = case.a_number_first
turning limit (argument c) o (mark m) =
    either (is "*" m) case.a_star
    (either (is "+" m) case.a_plus
    (either (is "@" m) case.an_at
    (either (is "[" m) case.a_bracket
    (either (is ")" m) (empty_turned c)
    (case.refusing refl)))))
turning limit (at_sign c p) o (word w) = case.a_symbol
turning limit (at_sign c p) o (number w) = case.refusing refl
turning limit (at_sign c p) o (mark m) = case.refusing refl
turning limit (number_read c n) o (word w) = case.refusing refl
turning limit (number_read c n) o (number w) = case.refusing refl
turning limit (number_read c n) o (mark m) = after_number_turned c n
turning limit (range_open c n) o (word w) = case.refusing refl
turning limit (range_open c n) o (number w) = range_turned c n (range-taken limit n (name o w))
turning limit (range_open c n) o (mark m) = case.refusing refl
turning limit (array_open c p) o (word w) = case.first_word
turning limit (array_open c p) o (number w) = case.first_number
turning limit (array_open c p) o (mark m) = either (is "]" m) case.empty_array (case.refusing refl)
turning limit (item c p items) o (word w) = entered_turned items case.next_word
turning limit (item c p items) o (number w) = entered_turned items case.next_number
turning limit (item c p items) o (mark m) = case.refusing refl
turning limit (item_read c p items) o (word w) = case.refusing refl
turning limit (item_read c p items) o (number w) = case.refusing refl
turning limit (item_read c p items) o (mark m) = either (is "," m) case.item_comma (either (is "]" m) case.an_array (case.refusing refl))
turning limit (argument_read c a) o (word w) = case.refusing refl
turning limit (argument_read c a) o (number w) = case.refusing refl
turning limit (argument_read c a) o (mark m) = after_argument_turned c a

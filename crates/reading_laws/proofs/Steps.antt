-- What a token makes of what was read, moved.
-- Assumes nothing.
use Prim.Native.Nat.{ℕ}
use mathlib.Core.Path.{◌≡◌, refl}
use mathlib.Core.Bool.{Bool, true, false, cond}
use mathlib.Core.List.{List, [], ◌∷◌, ◌++◌, map, map-append}
use lib.Dec.{ltb}
use lib.ListN.{length, length-map}
use Rattle.text.specs.Bytes.{bytes, is}
use Rattle.tokens.specs.Token.{Shape, word, number, mark}
use Rattle.labels.specs.Word.{same_word}
use Rattle.reading.specs.Statement.{Name, Kind, a_word, a_number, Item, Feature}
use Rattle.reading.specs.Answer.{Answer, accepted, refused}
use Rattle.reading.specs.Argument.{Arg, star, plus, single, array, range_of, items_of}
use Rattle.reading.specs.Feature.{build_feature}
use Rattle.reading.specs.Syntax.{
  Call,
  feature_call,
  let_call,
  State,
  keyword,
  marked,
  let_keyword,
  let_open,
  let_named,
  argument,
  at_sign,
  number_read,
  range_open,
  array_open,
  item,
  item_read,
  argument_read,
  Step,
  more,
  stop,
  wrong,
  name,
  item_as,
  opened,
  feature_made,
  let_made,
  closed,
  comma,
  empty,
  entered,
  range_read,
  after_argument,
  turn,
}
use Rattle.reading_laws.specs.Moved.{move_name, move_item, move_feature, move_arg, move_call, move_state, move_step, Moves}
use Rattle.reading_laws.proofs.Bind.{either}
use Rattle.reading_laws.proofs.Arguments.{range_moved, items_moved}
use Rattle.reading_laws.proofs.Features.{build_moved}

-- a step or a refusal, by a test
unless :
    (to : ℕ → ℕ) (t : Bool) {x : Step} (v : Step) (o : ℕ) → x ≡ move_step to v → cond t x (wrong (to o)) ≡ move_step to (cond t v (wrong o))
unless to t v o e = either (move_step to) t v (wrong o) e refl

-- A statement's first token, moved.
pub opened_moved : (to : ℕ → ℕ) (o : ℕ) (x : Shape) → opened (to o) x ≡ move_step to (opened o x)
unfolding opened
opened_moved to o (word w) =
    either (move_step to) (same_word w (bytes "LET")) (more let_keyword) (more (keyword (name o w))) refl refl
opened_moved to o (number w) = refl
opened_moved to o (mark m) = refl

-- a feature, a LET and a range that are made of an answer
feature_made_moved :
    (to : ℕ → ℕ) {after : Answer Feature} (before : Answer Feature)
    → Moves to (move_feature to) after before
    → feature_made after ≡ move_step to (feature_made before)
unfolding feature_made
feature_made_moved to (accepted f) e = rw e.is
feature_made_moved to (refused n p) e = rw e.is

let_made_moved :
    (to : ℕ → ℕ) (n : Name) {after : Answer (List Item)} (before : Answer (List Item))
    → Moves to (map (move_item to)) after before
    → let_made (move_name to n) after ≡ move_step to (let_made n before)
unfolding let_made
let_made_moved to n (accepted is) e = rw e.is
let_made_moved to n (refused k p) e = rw e.is

range_read_moved :
    (to : ℕ → ℕ) (c : Call) {after : Answer Arg} (before : Answer Arg)
    → Moves to (move_arg to) after before
    → range_read (move_call to c) after ≡ move_step to (range_read c before)
range_read_moved to c (accepted a) e = rw e.is
range_read_moved to c (refused n p) e = rw e.is

-- the `)` and the `,` after an argument, and the `)` where the first would start
closed_moved : (to : ℕ → ℕ) (limit : ℕ) (c : Call) (a : Arg) → closed limit (move_call to c) (move_arg to a) ≡ move_step to (closed limit c a)
unfolding closed
closed_moved to limit (feature_call k m args) a =
    rw (← map-append (move_arg to) args (a ∷ []))
    (feature_made_moved to (build_feature limit k m (args ++ a ∷ [])) (build_moved to limit k m (args ++ a ∷ [])))
closed_moved to limit (let_call n) a = let_made_moved to n (items_of a) (items_moved to a)

comma_moved : (to : ℕ → ℕ) (o : ℕ) (c : Call) (a : Arg) → comma (to o) (move_call to c) (move_arg to a) ≡ move_step to (comma o c a)
comma_moved to o (feature_call k m args) a = simp map-append
comma_moved to o (let_call n) a = refl

empty_moved : (to : ℕ → ℕ) (limit o : ℕ) (c : Call) → empty limit (to o) (move_call to c) ≡ move_step to (empty limit o c)
empty_moved to limit o (feature_call k m []) = feature_made_moved to (build_feature limit k m []) (build_moved to limit k m [])
empty_moved to limit o (feature_call k m (a ∷ rest)) = refl
empty_moved to limit o (let_call n) = refl

-- one more item of an array
entered_moved :
    (to : ℕ → ℕ) (c : Call) (p : ℕ) (is : List Item) (k : Kind) (o : ℕ) (w : List ℕ)
    → entered (move_call to c) (to p) (map (move_item to) is) k (to o) w ≡ move_step to (entered c p is k o w)
entered_moved to c p is k o w =
    rw (length-map is (move_item to))
    (either (move_step to) (ltb (length is) 64) (more (item_read c p (is ++ item_as k o w ∷ []))) (stop 11 o) (simp map-append) refl)

-- a mark after an argument
after_argument_moved :
    (to : ℕ → ℕ) (limit o m : ℕ) (c : Call) (a : Arg)
    → after_argument limit (to o) m (move_call to c) (move_arg to a) ≡ move_step to (after_argument limit o m c a)
after_argument_moved to limit o m c a =
    either (move_step to) (is "," m) (comma o c a) (cond (is ")" m) (closed limit c a) (wrong o)) (comma_moved to o c a)
    (unless to (is ")" m) (closed limit c a) o (closed_moved to limit c a))

-- A moved token makes of what was read, moved, the same step, moved.
pub turn_moved :
    (to : ℕ → ℕ) (limit : ℕ) (s : State) (o : ℕ) (x : Shape) → turn limit (move_state to s) (to o) x ≡ move_step to (turn limit s o x)
unfolding turn
turn_moved to limit (keyword k) o (word w) = refl
turn_moved to limit (keyword k) o (number w) = refl
turn_moved to limit (keyword k) o (mark m) =
    either (move_step to) (is "?" m) (more (marked k)) (cond (is "(" m) (more (argument (feature_call k false []))) (wrong o)) refl
    (unless to (is "(" m) (more (argument (feature_call k false []))) o refl)
turn_moved to limit (marked k) o (word w) = refl
turn_moved to limit (marked k) o (number w) = refl
turn_moved to limit (marked k) o (mark m) = unless to (is "(" m) (more (argument (feature_call k true []))) o refl
turn_moved to limit let_keyword o (word w) = refl
turn_moved to limit let_keyword o (number w) = refl
turn_moved to limit let_keyword o (mark m) = unless to (is "(" m) (more let_open) o refl
turn_moved to limit let_open o (word w) = refl
turn_moved to limit let_open o (number w) = refl
turn_moved to limit let_open o (mark m) = refl
turn_moved to limit (let_named n) o (word w) = refl
turn_moved to limit (let_named n) o (number w) = refl
turn_moved to limit (let_named n) o (mark m) = unless to (is "," m) (more (argument (let_call n))) o refl
turn_moved to limit (argument c) o (word w) = refl
turn_moved to limit (argument c) o (number w) = refl
turn_moved to limit (argument c) o (mark m) =
    either (move_step to) (is "*" m) (more (argument_read c (star o))) _ refl
    (either (move_step to) (is "+" m) (more (argument_read c (plus o))) _ refl
    (either (move_step to) (is "@" m) (more (at_sign c o)) _ refl
    (either (move_step to) (is "[" m) (more (array_open c o)) _ refl
    (unless to (is ")" m) (empty limit o c) o (empty_moved to limit o c)))))
turn_moved to limit (at_sign c p) o (word w) = refl
turn_moved to limit (at_sign c p) o (number w) = refl
turn_moved to limit (at_sign c p) o (mark m) = refl
turn_moved to limit (number_read c n) o (word w) = refl
turn_moved to limit (number_read c n) o (number w) = refl
turn_moved to limit (number_read c n) o (mark m) =
    either (move_step to) (is "." m) (more (range_open c n)) _ refl
    (after_argument_moved to limit o m c (single (record { kind = a_number; name = n })))
turn_moved to limit (range_open c n) o (word w) = refl
turn_moved to limit (range_open c n) o (number w) =
    range_read_moved to c (range_of limit n (name o w)) (range_moved to limit n (name o w))
turn_moved to limit (range_open c n) o (mark m) = refl
turn_moved to limit (array_open c p) o (word w) = entered_moved to c p [] a_word o w
turn_moved to limit (array_open c p) o (number w) = entered_moved to c p [] a_number o w
turn_moved to limit (array_open c p) o (mark m) = unless to (is "]" m) (more (argument_read c (array p []))) o refl
turn_moved to limit (item c p is) o (word w) = entered_moved to c p is a_word o w
turn_moved to limit (item c p is) o (number w) = entered_moved to c p is a_number o w
turn_moved to limit (item c p is) o (mark m) = refl
turn_moved to limit (item_read c p is) o (word w) = refl
turn_moved to limit (item_read c p is) o (number w) = refl
turn_moved to limit (item_read c p items) o (mark m) =
    either (move_step to) (is "," m) (more (item c p items)) _ refl (unless to (is "]" m) (more (argument_read c (array p items))) o refl)
turn_moved to limit (argument_read c a) o (word w) = refl
turn_moved to limit (argument_read c a) o (number w) = refl
turn_moved to limit (argument_read c a) o (mark m) = after_argument_moved to limit o m c a

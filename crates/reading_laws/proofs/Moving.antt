-- Reading does not compute with places: where tokens stand elsewhere, the same is read, with the places moved in the same way.
-- Assumes nothing.
use Prim.Native.Nat.{ℕ, suc}
use mathlib.Core.Path.{◌≡◌, refl}
use mathlib.Core.Bool.{Bool, cond}
use mathlib.Core.List.{List}
use lib.Dec.{leb}
use Rattle.tokens.specs.Token.{Tokens, finish, bad, ◌▸◌}
use Rattle.reading.specs.Statement.{Statement}
use Rattle.reading.specs.Answer.{Answer, accepted, refused, too_many, unexpected}
use Rattle.reading.specs.Syntax.{State, Step, more, made, stop, opened, turn}
use Rattle.reading.specs.Read.{is_separator, Where, between, ended, inside, prepend, onward, read_from}
use Rattle.reading_laws.specs.Moved.{move_statement, move_state, move_step, move_where, move_read, move_tokens}
use Rattle.reading_laws.proofs.Bind.{either}
use Rattle.reading_laws.proofs.Steps.{opened_moved, turn_moved}

-- a statement before those of an answer
prepend_moved :
    (to : ℕ → ℕ) (s : Statement) (r : Answer (List Statement)) → prepend (move_statement to s) (move_read to r) ≡ move_read to (prepend s r)
prepend_moved to s (accepted ss) = refl
prepend_moved to s (refused n p) = refl

-- what a step leads to, moved where what it may lead to is
onward_moved :
    (to : ℕ → ℕ) (x : Step) (f g : State → Answer (List Statement)) (v w : Answer (List Statement))
    → ((s : State) → g (move_state to s) ≡ move_read to (f s))
    → w ≡ move_read to v
    → onward (move_step to x) g w ≡ move_read to (onward x f v)
onward_moved to (more s) f g v w e h = e s
onward_moved to (made s) f g v w e h = rw h (prepend_moved to s v)
onward_moved to (stop n p) f g v w e h = refl

-- a token where a statement may start: a separator, one too many, or a statement's first
first_moved :
    (to : ℕ → ℕ) (a b : Bool) (o : ℕ) (x : Step) (f g : State → Answer (List Statement)) (v w : Answer (List Statement))
    → ((s : State) → g (move_state to s) ≡ move_read to (f s))
    → w ≡ move_read to v
    → cond a w (cond b (too_many (to o)) (onward (move_step to x) g w)) ≡ move_read to (cond a v (cond b (too_many o) (onward x f v)))
first_moved to a b o x f g v w e h =
    either (move_read to) a v (cond b (too_many o) (onward x f v)) h
    (either (move_read to) b (too_many o) (onward x f v) refl (onward_moved to x f g v w e h))

-- The statements of moved tokens are the same, moved, and so is the place of a refusal.
pub reading_moved :
    (to : ℕ → ℕ) (limit size n : ℕ) (w : Where) (ts : Tokens)
    → read_from limit (to size) n (move_where to w) (move_tokens to ts) ≡ move_read to (read_from limit size n w ts)
unfolding read_from
reading_moved to limit size n between finish = refl
reading_moved to limit size n ended finish = refl
reading_moved to limit size n (inside s) finish = refl
reading_moved to limit size n between (bad o) = refl
reading_moved to limit size n ended (bad o) = refl
reading_moved to limit size n (inside s) (bad o) = refl
reading_moved to limit size n between (t ▸ ts) =
    rw (opened_moved to t.place t.shape)
    (first_moved to (is_separator t.shape) (leb 256 n) t.place (opened t.place t.shape) _ _ _ _
    (λ s. reading_moved to limit size n (inside s) ts) (reading_moved to limit size n between ts))
reading_moved to limit size n ended (t ▸ ts) =
    either (move_read to) (is_separator t.shape) _ _ (reading_moved to limit size n between ts)
    (either (move_read to) (leb 256 n) (too_many t.place) (unexpected t.place) refl refl)
reading_moved to limit size n (inside s) (t ▸ ts) =
    rw (turn_moved to limit s t.place t.shape)
    (onward_moved to (turn limit s t.place t.shape) _ _ _ _ (λ s. reading_moved to limit size n (inside s) ts)
    (reading_moved to limit size (suc n) ended ts))

-- An accepted reading, token by token, and back.
-- Assumes nothing.
use Prim.Native.Nat.{ℕ, suc}
use native.Mathlib.Omega.{arith}
use mathlib.Core.Path.{◌≡◌, refl, subst}
use mathlib.Core.Bool.{Bool, true, false, cond}
use mathlib.Core.List.{List, ◌∷◌}
use borrow.Author.Tests.{leb-false, lt-leb}
use lib.Dec.{leb}
use Rattle.tokens.specs.Token.{Shape, Tokens, finish, bad, ◌▸◌}
use Rattle.reading.specs.Statement.{Statement}
use Rattle.reading.specs.Answer.{Answer, accepted, refused, too_many, unexpected}
use Rattle.reading.specs.Syntax.{State, Step, more, made, stop, opened, turn}
use Rattle.reading.proofs.Answers.{not-refused, value_of}
use Rattle.reading.specs.Read.{is_separator, Where, between, ended, inside, prepend, onward, read_from}
use Rattle.reading_laws.specs.Turned.{Opened, no_statement, a_keyword, a_let_keyword}
use Rattle.reading_laws.specs.Reads.{Reads, over, over_ended, passed, passed_ended, begun, carried, completed}
use Rattle.reading_laws.proofs.Turning.{opening}

-- a statement's first token never ends it
opened-goes_on : {o : ℕ} {x : Shape} {y : Step} {s : Statement} → Opened o x y → y ≡ made s → ⊥
opened-goes_on (no_statement f) e = let z : ◌≡◌ {A = ℕ} 0 1 = cc in omega arith
opened-goes_on a_keyword e = let z : ◌≡◌ {A = ℕ} 0 1 = cc in omega arith
opened-goes_on (a_let_keyword l) e = let z : ◌≡◌ {A = ℕ} 0 1 = cc in omega arith

-- what an accepted answer starts with
prepend-accepted :
    (x : Statement) (r : Answer (List Statement)) (ss : List Statement)
    → prepend x r ≡ accepted ss
    → (rest : List Statement) × (r ≡ accepted rest) × (x ∷ rest ≡ ss)
prepend-accepted x (accepted rest) ss e = (rest, refl, value_of e)
prepend-accepted x (refused n p) ss e = absurd (not-refused e)

-- What is accepted is read token by token.
pub accepted_reads :
    (limit size n : ℕ) (w : Where) (ts : Tokens) (ss : List Statement) → read_from limit size n w ts ≡ accepted ss → Reads limit n w ts ss
unfolding read_from
accepted_reads limit size n between finish ss e = subst (Reads limit n between finish) (value_of e) over
accepted_reads limit size n ended finish ss e = subst (Reads limit n ended finish) (value_of e) over_ended
accepted_reads limit size n (inside s) finish ss e = absurd (not-refused e)
accepted_reads limit size n between (bad o) ss e = absurd (not-refused e)
accepted_reads limit size n ended (bad o) ss e = absurd (not-refused e)
accepted_reads limit size n (inside s) (bad o) ss e = absurd (not-refused e)
accepted_reads limit size n between (t ▸ ts) ss e =
    go (is_separator t.shape) (leb 256 n) (opened t.place t.shape) refl refl refl e
    (λ h. accepted_reads limit size n between ts ss h)
    (λ s h. accepted_reads limit size n (inside s) ts ss h)
  where
    go :
        (a b : Bool) (x : Step)
        → is_separator t.shape ≡ a
        → leb 256 n ≡ b
        → opened t.place t.shape ≡ x
        → cond a (read_from limit size n between ts)
        (cond b (too_many t.place) (onward x (λ s. read_from limit size n (inside s) ts) (read_from limit size n between ts)))
        ≡ accepted ss
        → (read_from limit size n between ts ≡ accepted ss → Reads limit n between ts ss)
        → ((s : State) → read_from limit size n (inside s) ts ≡ accepted ss → Reads limit n (inside s) ts ss)
        → Reads limit n between (t ▸ ts) ss
    go true b x p q r e f g = passed p (f e)
    go false true x p q r e f g = absurd (not-refused e)
    go false false (more s) p q r e f g = begun p (leb-false 256 n q) r (g s e)
    go false false (made s) p q r e f g = absurd (opened-goes_on (opening t.place t.shape) r)
    go false false (stop k o) p q r e f g = absurd (not-refused e)
accepted_reads limit size n ended (t ▸ ts) ss e =
    go (is_separator t.shape) (leb 256 n) refl e (λ h. accepted_reads limit size n between ts ss h)
  where
    go :
        (a b : Bool)
        → is_separator t.shape ≡ a
        → cond a (read_from limit size n between ts) (cond b (too_many t.place) (unexpected t.place)) ≡ accepted ss
        → (read_from limit size n between ts ≡ accepted ss → Reads limit n between ts ss)
        → Reads limit n ended (t ▸ ts) ss
    go true b p e f = passed_ended p (f e)
    go false true p e f = absurd (not-refused e)
    go false false p e f = absurd (not-refused e)
accepted_reads limit size n (inside s) (t ▸ ts) ss e =
    go (turn limit s t.place t.shape) refl e
    (λ next h. accepted_reads limit size n (inside next) ts ss h)
    (λ rest h. accepted_reads limit size (suc n) ended ts rest h)
  where
    go :
        (x : Step)
        → turn limit s t.place t.shape ≡ x
        → onward x (λ next. read_from limit size n (inside next) ts) (read_from limit size (suc n) ended ts) ≡ accepted ss
        → ((next : State) → read_from limit size n (inside next) ts ≡ accepted ss → Reads limit n (inside next) ts ss)
        → ((rest : List Statement) → read_from limit size (suc n) ended ts ≡ accepted rest → Reads limit (suc n) ended ts rest)
        → Reads limit n (inside s) (t ▸ ts) ss
    go (more next) r e f g = carried r (f next e)
    go (made x) r e f g =
        let h = prepend-accepted x (read_from limit size (suc n) ended ts) ss e in
        subst (Reads limit n (inside s) (t ▸ ts)) h.2 (completed r (g h.0 h.1))
    go (stop k o) r e f g = absurd (not-refused e)

-- What is read token by token is accepted, in a text of any size.
pub reads_accepted :
    (limit size : ℕ) {n : ℕ} {w : Where} {ts : Tokens} {ss : List Statement} → Reads limit n w ts ss → read_from limit size n w ts ≡ accepted ss
unfolding read_from
reads_accepted limit size over = refl
reads_accepted limit size over_ended = refl
reads_accepted limit size (passed p r) = simp p (reads_accepted limit size r)
reads_accepted limit size (passed_ended p r) = simp p (reads_accepted limit size r)
reads_accepted limit size (begun {n} p h o r) = simp (p, lt-leb 256 n h, o) (reads_accepted limit size r)
reads_accepted limit size (carried e r) = simp e (reads_accepted limit size r)
reads_accepted limit size (completed e r) = simp (e, reads_accepted limit size r)

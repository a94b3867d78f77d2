-- How the reading of a statement goes on at a token: by what the token makes of what was read before, or by a refusal.
-- Assumes nothing.
use mathlib.Core.Path.{◌≡◌, ◌∙◌, ap, sym}
use mathlib.Core.List.{List, []}
use Prim.Native.Nat.{ℕ, ◌≤◌}
use native.Mathlib.Omega.{arith}
use borrow.Author.Tests.{ne_eqb}
use lib.ListN.{length}
use Rattle.tokens.specs.declared.Token as lexer
use Rattle.tokens.specs.Token.{Token, word, number, mark}
use Rattle.reading.specs.Statement.{Name}
use Rattle.reading.specs.Statement as statement
use Rattle.reading.specs.Argument.{single}
use Rattle.reading.specs.Syntax.{Call, State, Step, wrong, turn, number_read, array_open, item, argument_read}
use Rattle.reading.specs.One.{read_one}
use Rattle.tokens.proofs.Views.{Reads, Known, a_word, a_number, a_mark, a_stray, the_end}
use Rattle.read_arguments.specs.Answers.{read_in, step_in, refused_by, refusal_of}

-- a token leads on to the next
pub read_token :
    (limit : ℕ) (s : List ℕ) (st : State) (o n : ℕ) (t : Token)
    → Reads s o t n
    → read_in limit s st o ≡ step_in limit s (turn limit st t.place t.shape) n
unfolding read_one
read_token limit s st o n t r = ap (read_one limit (length s) st) r.tokens

-- a token that is not allowed is refused at its offset
pub rejected :
    (limit : ℕ) (s : List ℕ) (st : State) (o : ℕ) (t : lexer.Token)
    → Known s o t
    → ((w : List ℕ) → t.kind ≡ 0 → turn limit st t.start (word w) ≡ wrong t.start)
    → ((w : List ℕ) → t.kind ≡ 1 → turn limit st t.start (number w) ≡ wrong t.start)
    → (40 ≤ t.kind → turn limit st t.start (mark t.kind) ≡ wrong t.start)
    → read_in limit s st o ≡ refused_by (refusal_of t)
unfolding read_one
rejected limit s st o t (a_word e r) w n m =
    read_token limit s st o _ _ r ∙ ap (λ (x : Step). step_in limit s x t.next.at) (w _ e) ∙ simp e
rejected limit s st o t (a_number e r) w n m =
    read_token limit s st o _ _ r ∙ ap (λ (x : Step). step_in limit s x t.next.at) (n _ e) ∙ simp e
rejected limit s st o t (a_mark e r) w n m =
    read_token limit s st o _ _ r
    ∙ ap (λ (x : Step). step_in limit s x t.next.at) (m e)
    ∙ simp (ne_eqb t.kind 2 (λ q. omega arith))
rejected limit s st o t (a_stray e r q) w n m = ap (read_one limit (length s) st) r ∙ simp e
rejected limit s st o t (the_end e r l q) w n m = ap (read_one limit (length s) st) r ∙ simp (e, l)

-- a number that no `..` follows is an argument alone
pub no_range :
    (limit : ℕ) (s : List ℕ) (c : Call) (n : Name) (o : ℕ) (t : lexer.Token)
    → Known s o t
    → (t.kind ≡ 46 → ⊥)
    → read_in limit s (number_read c n) o ≡ read_in limit s (argument_read c (single (record { kind = statement.a_number; name = n }))) o
unfolding read_one turn
no_range limit s c n o t (a_word e r) d = read_token limit s (number_read c n) o _ _ r ∙ sym (read_token limit s (argument_read c _) o _ _ r)
no_range limit s c n o t (a_number e r) d = read_token limit s (number_read c n) o _ _ r ∙ sym (read_token limit s (argument_read c _) o _ _ r)
no_range limit s c n o t (a_mark e r) d =
    read_token limit s (number_read c n) o _ _ r
    ∙ (simp (ne_eqb t.kind 46 d))
    ∙ sym (read_token limit s (argument_read c _) o _ _ r)
no_range limit s c n o t (a_stray e r q) d = ap (read_one limit (length s) (number_read c n)) r ∙ sym (ap (read_one limit (length s) (argument_read c _)) r)
no_range limit s c n o t (the_end e r l q) d = ap (read_one limit (length s) (number_read c n)) r ∙ sym (ap (read_one limit (length s) (argument_read c _)) r)

-- an array that does not end at once has an entry to come
pub not-empty :
    (limit : ℕ) (s : List ℕ) (c : Call) (p o : ℕ) (t : lexer.Token)
    → Known s o t
    → (t.kind ≡ 93 → ⊥)
    → read_in limit s (array_open c p) o ≡ read_in limit s (item c p []) o
unfolding read_one turn
not-empty limit s c p o t (a_word e r) d = read_token limit s (array_open c p) o _ _ r ∙ sym (read_token limit s (item c p []) o _ _ r)
not-empty limit s c p o t (a_number e r) d = read_token limit s (array_open c p) o _ _ r ∙ sym (read_token limit s (item c p []) o _ _ r)
not-empty limit s c p o t (a_mark e r) d =
    read_token limit s (array_open c p) o _ _ r ∙ (simp (ne_eqb t.kind 93 d)) ∙ sym (read_token limit s (item c p []) o _ _ r)
not-empty limit s c p o t (a_stray e r q) d = ap (read_one limit (length s) (array_open c p)) r ∙ sym (ap (read_one limit (length s) (item c p [])) r)
not-empty limit s c p o t (the_end e r l q) d = ap (read_one limit (length s) (array_open c p)) r ∙ sym (ap (read_one limit (length s) (item c p [])) r)

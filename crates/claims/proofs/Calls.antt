-- Demand 3, whole, of the calls, and what document 02, P2, promises of the profile check and Resolve together.
--
-- Joining. Where Count accepts A and B with n and m statements, the joined text has at most 16,384 bytes and n + m is at most 256, Count gives
-- n + m of A, newline, B, and Statement gives A's statements and then B's, with the offsets of their names and symbols raised by A's length
-- and one.
--
-- Reordering. Where Count accepts A and D, and Statement gives each statement of A as often as of D, Resolve refuses D in a context exactly
-- when it refuses A, and else gives the same set of effects, whatever the buffers hold, if they have full size. The statements are the same
-- where the exported Statement gives equal numbers of them, each pair replaced by the bytes that it points to (`same-values`); so D may as well
-- be known to be a reordering of A by its numbers alone (`reordering_by_numbers`).
--
-- Rereading. Where Resolve gives a ground text for A in a context, Count accepts it, Print gives its own bytes back, and Resolve gives of it in
-- that context the same bytes and the same set of effects, with no note of reason 0.
--
-- Profile. Where the profile check says yes to A, and Resolve gives a ground text for A in a context, the check says yes to the ground text as
-- well, under the same ceiling.
--
-- Assumes nothing.
use Prim.Native.Nat.{ℕ, zero, suc, ◌+◌, ◌≤◌}
use native.Mathlib.Nat.{zero-add}
use native.Mathlib.Omega.{arith}
use mathlib.Core.Path.{◌≡◌, refl, ◌∙◌, ap, ap₂, sym, subst₂}
use mathlib.Core.Bool.{Bool, true, false, cond}
use mathlib.Core.List.{List, [], ◌∷◌, ◌++◌, map, append_assoc}
use mathlib.Core.Option.{Option, some, none}
use borrow.Author.Tests.{le-ltb}
use lib.Dec.{ltb}
use lib.ListN.{length, length-append, get_elem?}
use Rattle.text.specs.Bytes.{count_up}
use Rattle.reading.specs.Statement.{Statement}
use Rattle.reading.specs.Answer.{Answer, accepted, refused, ◌>>=◌}
use Rattle.reading.specs.Read.{read_text}
use Rattle.reading_laws.specs.Spelled.{statement_names, text_names, StandIn}
use Rattle.reading_laws.proofs.Among.{among-all, among_first, among-last}
use Rattle.reading_laws.proofs.Spelled.{stand_some, text-spelled, statement-spelled}
use Rattle.canonical.specs.Numbers.{numbers_of}
use Rattle.canonical_laws.specs.Forgotten.{forget}
use Rattle.numbers_statement.specs.Answers.{numbered}
use Rattle.reading.specs.Calls.{counted, chosen, nth_of, counting, stating}
use Rattle.read_values.specs.Calls.{Joined}
use Rattle.read_values.proofs.Joining.{joined}
use Rattle.text.specs.Lists.{gather}
use Rattle.text.proofs.All.{All, finished, also, map_each}
use Rattle.text.proofs.Permuted.{Permuted, map_permuted}
use Rattle.text.proofs.Often.{permuted_often, often_permuted}
use Rattle.resolving.specs.Faults.{wrong_context}
use Rattle.resolving.specs.Resolve.{Resolved, ground_text, resolve}
use Rattle.resolving.specs.Given.{is_context, context_in, resolve_text}
use Rattle.resolving.specs.Handed.{is_run, given_in, resolve_handed}
use Rattle.resolving.specs.Call.{working_length, Lengths, exceeds, lengths_in, room_for, resolving_call}
use Rattle.resolving_laws.specs.Alike.{Alike, both, neither}
use Rattle.resolving_laws.specs.Claims as definitions
use Rattle.resolving_laws.specs.Claims.{SameEffects}
use Rattle.reading.proofs.Answers.{not-refused, passed_test, bind_passed}
use Rattle.resolving_laws.proofs.Texts.{reordered_alike, ground_text-kept}
use Rattle.resolving_laws.proofs.SameLaws.{as_often_permuted, permuted_as_often}
use Rattle.profiling.specs.Profile.{profile_text}
use Rattle.profiling.proofs.GroundPasses.{ground_passes}
use Rattle.claims.specs.Values.{value_in, same_value}
use Rattle.claims.specs.Claims.{full_size, stated, statements_of, SameStatements, ToldByNumbers, valued, values_of, SameValues, Reordered, Reread}
use Rattle.claims.proofs.FullSize.{resolved_fits}
use Rattle.claims.proofs.Values.{value_of, value-spelled, value_forgets, statement_from, from_value, value-equal, value_self}

pub joining :
    (limit : ℕ) (a b : List ℕ) (n m : ℕ)
    → counting limit a ≡ accepted n
    → counting limit b ≡ accepted m
    → length (a ++ 10 ∷ b) ≤ 16384
    → n + m ≤ 256
    → Joined limit a b n m
joining = joined

-- What Statement gives at all indexes are the statements that were read.

record Read (limit : ℕ) (text : List ℕ) (n : ℕ) : Type 0 where
  statements : List Statement
  read : read_text limit text ≡ accepted statements
  many : length statements ≡ n

-- a text that is read as statements
record IsRead (limit : ℕ) (text : List ℕ) : Type 0 where
  statements : List Statement
  read : read_text limit text ≡ accepted statements

counted-read : (limit : ℕ) (text : List ℕ) (n : ℕ) → counting limit text ≡ accepted n → Read limit text n
counted-read limit text n e = by_answer (read_text limit text) refl e
  where
    by_answer : (a : Answer (List Statement)) → read_text limit text ≡ a → counted 0 a ≡ accepted n → Read limit text n
    by_answer (accepted ss) p h = let z : 0 + length ss ≡ n = cc in record { statements = ss; read = p; many = omega (arith, z) }
    by_answer (refused k o) p h = absurd (not-refused h)

-- what is made of the answer at each index, where of a statement one thing is made
module _ {A : Type 0} (made : Answer Statement → List A) (of_one : Statement → A) (one : (s : Statement) → made (accepted s) ≡ of_one s ∷ []) where
  at_each : (xs ss : List Statement) (i : ℕ) → length xs ≡ i
      → gather (λ j. made (chosen j (get_elem? (xs ++ ss) j))) (count_up i (length ss)) ≡ map of_one ss
  at_each xs [] i h = refl
  at_each xs (s ∷ ss) i h =
      ap (λ (o : Option Statement). made (chosen i o) ++ gather (λ j. made (chosen j (get_elem? (xs ++ s ∷ ss) j))) (count_up (suc i) (length ss)))
      (here xs i h)
      ∙ ap₂ ◌++◌ (one s)
      (ap (λ (l : List Statement). gather (λ j. made (chosen j (get_elem? l j))) (count_up (suc i) (length ss))) (sym (append_assoc xs (s ∷ []) ss))
      ∙ at_each (xs ++ s ∷ []) ss (suc i) (omega (arith, h, length-append xs (s ∷ []))))
    where
      here : (ys : List Statement) (k : ℕ) → length ys ≡ k → get_elem? (ys ++ s ∷ ss) k ≡ some s
      here [] zero e = refl
      here [] (suc k) e = absurd (omega arith)
      here (y ∷ ys) zero e = absurd (omega arith)
      here (y ∷ ys) (suc k) e = here ys k (omega arith)

  all_made :
      (limit : ℕ) (text : List ℕ) (n : ℕ) (r : Read limit text n)
      → gather (λ i. made (stating limit text i)) (count_up 0 n) ≡ map of_one r.statements
  all_made limit text n r =
      ap (λ (a : Answer (List Statement)). gather (λ i. made (nth_of i a)) (count_up 0 n)) r.read
      ∙ ap (λ (k : ℕ). gather (λ i. made (nth_of i (accepted r.statements))) (count_up 0 k)) (sym r.many)
      ∙ at_each [] r.statements 0 refl

statements-are : (limit : ℕ) (text : List ℕ) (n : ℕ) (r : Read limit text n) → statements_of limit text n ≡ map forget r.statements
statements-are limit text n r = all_made stated forget (λ s. refl) limit text n r

same-statements : (limit : ℕ) (a d : List ℕ) → SameStatements limit a d → definitions.SameStatements limit a d
same-statements limit a d s =
    let x = counted-read limit a s.first s.counts in
    let y = counted-read limit d s.second s.counts_too in
    record {
      first = x.statements;
      second = y.statements;
      first_read = x.read;
      second-read = y.read;
      as_often = λ t. rw (sym (statements-are limit a s.first x), sym (statements-are limit d s.second y)) (s.as_often t);
    }

-- Values: the exported Statement's numbers with each pair replaced by its bytes are told by the statement without its places, and tell it.

-- what Statement gives stands in the text
found-spelled : (limit : ℕ) (text : List ℕ) (i : ℕ) (s : Statement) → stating limit text i ≡ accepted s → StandIn text 0 (statement_names s)
found-spelled limit text i s e = by_answer (read_text limit text) refl e
  where
    by_answer : (a : Answer (List Statement)) → read_text limit text ≡ a → nth_of i a ≡ accepted s → StandIn text 0 (statement_names s)
    by_answer (refused k p) q h = absurd (not-refused h)
    by_answer (accepted ss) q h = by-entry (get_elem? ss i) refl h
      where
        by-entry : (o : Option Statement) → get_elem? ss i ≡ o → chosen i o ≡ accepted s → StandIn text 0 (statement_names s)
        by-entry none g k = absurd (not-refused k)
        by-entry (some t) g k = let z : t ≡ s = cc in statement-spelled limit text ss i s q (g ∙ ap some z)

-- Statements of two texts are told apart by their numbers exactly where they differ without their places.
pub same-values :
    (limit : ℕ) (a d : List ℕ) (i j : ℕ) (s t : Statement)
    → stating limit a i ≡ accepted s
    → stating limit d j ≡ accepted t
    → ToldByNumbers a d s t
same-values limit a d i j s t e f =
    let x = value-spelled a s (found-spelled limit a i s e) in
    let y = value-spelled d t (found-spelled limit d j t f) in
    record {
      same = λ h. sym (from_value s) ∙ ap statement_from (sym x ∙ h ∙ y) ∙ from_value t;
      equal = λ h. x ∙ sym (value_forgets s) ∙ ap value_of h ∙ value_forgets t ∙ sym y;
    }

values-are : (limit : ℕ) (text : List ℕ) (n : ℕ) (r : Read limit text n) → values_of limit text n ≡ map value_of r.statements
values-are limit text n r =
    all_made (λ x. valued text (numbered x)) (λ s. value_in text (numbers_of s)) (λ s. refl) limit text n r
    ∙ map_each _ value_of (each-spelled r.statements (text-spelled limit text r.statements r.read))
  where
    each-spelled : {o : ℕ} (ss : List Statement) → StandIn text o (text_names ss) → All (λ s. value_in text (numbers_of s) ≡ value_of s) ss
    each-spelled [] h = finished
    each-spelled (s ∷ ss) h =
        also (value-spelled text s (stand_some (among_first (statement_names s) (text_names ss)) h))
        (each-spelled ss (stand_some (among-last (statement_names s) (among-all (text_names ss))) h))

-- Texts of the same values are of the same statements, and the other way round.

told-again : (ss : List Statement) → map statement_from (map value_of ss) ≡ map forget ss
told-again [] = refl
told-again (s ∷ ss) = ap₂ ◌∷◌ (from_value s) (told-again ss)

valued-again : (ss : List Statement) → map value_of (map forget ss) ≡ map value_of ss
valued-again [] = refl
valued-again (s ∷ ss) = ap₂ ◌∷◌ (value_forgets s) (valued-again ss)

pub values_same : (limit : ℕ) (a d : List ℕ) → SameValues limit a d → SameStatements limit a d
values_same limit a d s =
    let x = counted-read limit a s.first s.counts in
    let y = counted-read limit d s.second s.counts_too in
    let p : Permuted (map value_of x.statements) (map value_of y.statements) =
    often_permuted same_value value-equal value_self _ _
    (λ v. rw (sym (values-are limit a s.first x), sym (values-are limit d s.second y)) (s.as_often v)) in
    let q : Permuted (map forget x.statements) (map forget y.statements) =
    subst₂ Permuted (told-again x.statements) (told-again y.statements) (map_permuted statement_from p) in
    record {
      first = s.first;
      second = s.second;
      counts = s.counts;
      counts_too = s.counts_too;
      as_often = λ t. rw (statements-are limit a s.first x, statements-are limit d s.second y) (permuted_as_often q t);
    }

pub same-valued : (limit : ℕ) (a d : List ℕ) → SameStatements limit a d → SameValues limit a d
same-valued limit a d s =
    let x = counted-read limit a s.first s.counts in
    let y = counted-read limit d s.second s.counts_too in
    let p : Permuted (map forget x.statements) (map forget y.statements) =
    as_often_permuted _ _ (λ t. rw (sym (statements-are limit a s.first x), sym (statements-are limit d s.second y)) (s.as_often t)) in
    let q : Permuted (map value_of x.statements) (map value_of y.statements) =
    subst₂ Permuted (valued-again x.statements) (valued-again y.statements) (map_permuted value_of p) in
    record {
      first = s.first;
      second = s.second;
      counts = s.counts;
      counts_too = s.counts_too;
      as_often = λ v. rw (values-are limit a s.first x, values-are limit d s.second y) (permuted_often same_value value-equal value_self q v);
    }

-- Resolve with buffers of full size.

module _ (limit : ℕ) (block numbers : List ℕ) (work : ℕ) (enough : working_length ≤ work) where
  -- the call's answer is the definition's
  abbrev answer : List ℕ → Answer Resolved
  answer text = room_for full_size (resolve_handed limit block numbers text)

  call_is : (text : List ℕ) → resolving_call limit block numbers text full_size work ≡ answer text
  unfolding resolving_call
  call_is text = ap (λ (t : Bool). cond t (refused 19 0) (answer text)) (le-ltb work working_length enough)

  fits : (text : List ℕ) (a : Answer Resolved) → resolve_text limit (given_in block numbers) text ≡ a → room_for full_size a ≡ a
  fits text (accepted r) e = ap (λ (t : Bool). cond t (refused 19 0) (accepted r)) (resolved_fits limit (given_in block numbers) text r e)
  fits text (refused n p) e = refl

  run : is_run numbers ≡ true → (text : List ℕ) → resolving_call limit block numbers text full_size work ≡ resolve_text limit (given_in block numbers) text
  unfolding resolve_handed
  run h text =
      call_is text
      ∙ ap (λ (t : Bool). room_for full_size (cond t (resolve_text limit (given_in block numbers) text) (read_text limit text >>= (λ ss. refused wrong_context 0)))) h
      ∙ fits text (resolve_text limit (given_in block numbers) text) refl

  abbrev refusal : (a : Answer (List Statement)) → Answer Resolved
  refusal a = a >>= (λ ss. refused wrong_context 0)

  no_run : is_run numbers ≡ false → (text : List ℕ) → resolving_call limit block numbers text full_size work ≡ room_for full_size (refusal (read_text limit text))
  unfolding resolve_handed
  no_run h text =
      call_is text
      ∙ ap (λ (t : Bool). room_for full_size (cond t (resolve_text limit (given_in block numbers) text) (read_text limit text >>= (λ ss. refused wrong_context 0)))) h

  pub reordering : (a d : List ℕ) → SameStatements limit a d → Reordered limit block numbers work a d
  reordering a d s = by_run (is_run numbers) refl
    where
      t : definitions.SameStatements limit a d
      t = same-statements limit a d s

      by_run : (b : Bool) → is_run numbers ≡ b → Reordered limit block numbers work a d
      by_run true h = subst₂ (Alike SameEffects) (sym (run h a)) (sym (run h d)) (reordered_alike limit (given_in block numbers) a d t)
      by_run false h =
          subst₂ (Alike SameEffects)
          (sym (no_run h a ∙ ap (λ (x : Answer (List Statement)). room_for full_size (refusal x)) t.first_read))
          (sym (no_run h d ∙ ap (λ (x : Answer (List Statement)). room_for full_size (refusal x)) t.second-read))
          neither

  pub reordering_by_numbers : (a d : List ℕ) → SameValues limit a d → Reordered limit block numbers work a d
  reordering_by_numbers a d s = reordering a d (values_same limit a d s)

  -- where a text resolves, it was accepted
  read_so : (text : List ℕ) (r : Resolved) → resolve_text limit (given_in block numbers) text ≡ accepted r → IsRead limit text
  unfolding resolve_text
  read_so text r e = by_answer (read_text limit text) refl e
    where
      by_answer : (a : Answer (List Statement)) → read_text limit text ≡ a
          → (a >>= (λ ss. cond (is_context (given_in block numbers)) (resolve (context_in (given_in block numbers)) ss) (refused wrong_context 0))) ≡ accepted r
          → IsRead limit text
      by_answer (accepted ss) p h = record { statements = ss; read = p }
      by_answer (refused n o) p h = absurd (not-refused h)

  pub rereading : (text : List ℕ) (r : Resolved) → resolving_call limit block numbers text full_size work ≡ accepted r → Reread limit block numbers work r
  rereading text r e = by_run (is_run numbers) refl
    where
      by_run : (b : Bool) → is_run numbers ≡ b → Reread limit block numbers work r
      by_run true h =
          let k = ground_text-kept limit (given_in block numbers) text r (sym (run h text) ∙ e) in
          let x = read_so (ground_text r) k.result k.resolves in
          record {
            count = length x.statements;
            counts = ap (counted 0) x.read ∙ ap accepted (zero-add (length x.statements));
            prints = k.prints;
            result = k.result;
            resolves = run h (ground_text r) ∙ k.resolves;
            same = k.same;
            undropped = k.undropped;
            same-effects = k.same-effects;
          }
      by_run false h = absurd (no_answer (read_text limit text) (sym (no_run h text) ∙ e))
        where
          no_answer : (a : Answer (List Statement)) → room_for full_size (refusal a) ≡ accepted r → ⊥
          no_answer (accepted ss) q = not-refused q
          no_answer (refused n p) q = not-refused q

-- The profile check, and Resolve with outputs and a working buffer of whatever lengths.

room-passed : (lent : Lengths) (a : Answer Resolved) (r : Resolved) → room_for lent a ≡ accepted r → a ≡ accepted r
room-passed lent (accepted x) r e = (passed_test (exceeds lent (lengths_in x)) 19 0 (accepted x) e).1
room-passed lent (refused n p) r e = absurd (not-refused e)

pub profiled :
    (limit : ℕ) (block numbers text : List ℕ) (lent : Lengths) (work : ℕ) (r : Resolved)
    → profile_text limit text ≡ accepted tt
    → resolving_call limit block numbers text lent work ≡ accepted r
    → profile_text limit (ground_text r) ≡ accepted tt
unfolding resolving_call resolve_handed
profiled limit block numbers text lent work r p e =
    let q = room-passed lent _ r (passed_test (ltb work working_length) 19 0 _ e).1 in
    by_run (is_run numbers) q
  where
    by_run : (t : Bool)
        → cond t (resolve_text limit (given_in block numbers) text) (read_text limit text >>= (λ ss. refused wrong_context 0)) ≡ accepted r
        → profile_text limit (ground_text r) ≡ accepted tt
    by_run true h = ground_passes limit (given_in block numbers) text r p h
    by_run false h = absurd (not-refused (bind_passed (read_text limit text) _ h).next)

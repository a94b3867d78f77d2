-- Names held to a list one after the other: what is held so far, and one more; and indexes that are held are those of entries.
-- Assumes nothing.
use mathlib.Core.Path.{◌≡◌, refl, sym, ◌∙◌, ap, subst}
use mathlib.Core.Bool.{Bool, cond}
use mathlib.Core.List.{List, [], ◌∷◌, ◌++◌}
use mathlib.Core.Option.{Option, some, none}
use Prim.Native.Nat.{ℕ, zero, suc, ◌≤◌, ◌<◌}
use native.Mathlib.Omega.{arith}
use borrow.Author.Tests.{eqb-true}
use lib.Dec.{eqb}
use lib.ListN.{length, take, get_or}
use lib.Seq.{length-take-le}
use Rattle.reading.specs.Answer.{Answer, accepted, refused, ◌>>=◌}
use Rattle.reading_laws.specs.WellFormed.{given}
use Rattle.reading_laws.proofs.Giving.{value-given}
use Rattle.reading.proofs.Answers.{value_of, not-refused}
use Rattle.text.specs.Lists.{firsts, place_in, same_bytes}
use Rattle.resolving.specs.Faults.{unknown_name}
use Rattle.resolving.specs.Operands.{entered, entry_of, entries_of, held}
use Rattle.text.proofs.All.{All, finished, also, all_weaker}
use Rattle.text.proofs.Appended.{firsts-one_more}
use Rattle.text.proofs.Runs.{any-firsts}
use Rattle.resolving_laws.proofs.Entries.{held_gives}
use Rattle.resolving_laws.proofs.Fewness.{place-below}
use Rattle.resolve_operands.specs.Picked.{with_index, Picked}

-- names whose indexes, each once, are these
record Entered (list vs : List (List ℕ)) (is : List ℕ) : Type 0 where
  indexes : List ℕ
  are : entries_of list vs ≡ accepted indexes
  once : firsts eqb indexes ≡ is

module _ (list : List (List ℕ)) where
  -- lists of names one after the other
  entries-append : (vs ws : List (List ℕ))
      → entries_of list (vs ++ ws) ≡ (entries_of list vs >>= λ is. entries_of list ws >>= λ js. accepted (is ++ js))
  entries-append [] ws = unchanged (entries_of list ws)
    where
      unchanged : (a : Answer (List ℕ)) → a ≡ (a >>= λ js. accepted js)
      unchanged (accepted js) = refl
      unchanged (refused n p) = refl
  entries-append (v ∷ vs) ws = by-entry (entry_of list v) (entries-append vs ws)
    where
      others : (i : ℕ) (a b : Answer (List ℕ))
          → ((a >>= λ is. b >>= λ js. accepted (is ++ js)) >>= λ is. accepted (i ∷ is))
          ≡ ((a >>= λ is. accepted (i ∷ is)) >>= λ is. b >>= λ js. accepted (is ++ js))
      others i (accepted is) (accepted js) = refl
      others i (accepted is) (refused n p) = refl
      others i (refused n p) b = refl

      by-entry : (a : Answer ℕ)
          → entries_of list (vs ++ ws) ≡ (entries_of list vs >>= λ is. entries_of list ws >>= λ js. accepted (is ++ js))
          → (a >>= λ i. entries_of list (vs ++ ws) >>= λ is. accepted (i ∷ is))
          ≡ ((a >>= λ i. entries_of list vs >>= λ is. accepted (i ∷ is)) >>= λ is. entries_of list ws >>= λ js. accepted (is ++ js))
      by-entry (accepted i) e =
          ap (λ (a : Answer (List ℕ)). a >>= λ is. accepted (i ∷ is)) e ∙ others i (entries_of list vs) (entries_of list ws)
      by-entry (refused n p) e = refl

  -- names that are held, and one more: its index is added, or it is missing
  module _ (vs : List (List ℕ)) (is : List ℕ) (e : held list (accepted vs) ≡ accepted is) where
    entered_so : Entered list vs is
    entered_so = by_entries (entries_of list vs) refl e
      where
        by_entries : (a : Answer (List ℕ)) → entries_of list vs ≡ a → (a >>= λ js. accepted (firsts eqb js)) ≡ accepted is → Entered list vs is
        by_entries (accepted js) q r = record { indexes = js; are = q; once = value_of r }
        by_entries (refused n p) q r = absurd (not-refused r)

    -- the answer, from what one name and those behind it answer
    then-held : (ws : List (List ℕ))
        → held list (accepted (vs ++ ws)) ≡ (entries_of list ws >>= λ js. accepted (firsts eqb (entered_so.indexes ++ js)))
    then-held ws =
        ap (λ (a : Answer (List ℕ)). a >>= λ is. accepted (firsts eqb is)) (entries-append vs ws)
        ∙ ap
        (λ (a : Answer (List ℕ)). (a >>= λ is. entries_of list ws >>= λ js. accepted (is ++ js)) >>= λ is. accepted (firsts eqb is))
        entered_so.are
        ∙ by_entries (entries_of list ws)
      where
        by_entries : (a : Answer (List ℕ))
            → ((a >>= λ js. accepted (entered_so.indexes ++ js)) >>= λ is. accepted (firsts eqb is))
            ≡ (a >>= λ js. accepted (firsts eqb (entered_so.indexes ++ js)))
        by_entries (accepted js) = refl
        by_entries (refused n p) = refl

    pub held-one-more : (w : List ℕ) (i : ℕ) → place_in (same_bytes w) list ≡ some i → held list (accepted (vs ++ w ∷ [])) ≡ accepted (with_index is i)
    held-one-more w i q =
        let js = entered_so.indexes in
        then-held (w ∷ [])
        ∙ ap (λ (o : Option ℕ). (entered o >>= λ i. accepted (i ∷ [])) >>= λ ks. accepted (firsts eqb (js ++ ks))) q
        ∙ ap accepted
        (firsts-one_more eqb js i
        ∙ ap (λ (t : Bool). firsts eqb js ++ cond t [] (i ∷ [])) (sym (any-firsts eqb eqb-true (λ j. eqb j i) js))
        ∙ ap (λ (ks : List ℕ). with_index ks i) entered_so.once)

    pub held-missing : (w : List ℕ) (ws : List (List ℕ)) → place_in (same_bytes w) list ≡ none
        → held list (accepted (vs ++ w ∷ ws)) ≡ refused unknown_name 0
    held-missing w ws q =
        let js = entered_so.indexes in
        then-held (w ∷ ws)
        ∙ ap
        (λ (o : Option ℕ). (entered o >>= λ i. entries_of list ws >>= λ is. accepted (i ∷ is)) >>= λ ks. accepted (firsts eqb (js ++ ks)))
        q

  -- indexes that are held are below the number of entries
  pub held_below : (ws : List (List ℕ)) (is : List ℕ) → held list (accepted ws) ≡ accepted is → All (λ i. i < length list) is
  held_below ws is e = all_weaker (λ i h. place-below (same_bytes (get_or list i [])) list i h) (value-given (held_gives list (given {a = ws} tt)) e).first

all_at : {P : ℕ → Type 0} {l : List ℕ} → All P l → (k d : ℕ) → k < length l → P (get_or l k d)
all_at finished k d h = absurd (omega arith)
all_at (also p r) zero d h = p
all_at (also p r) (suc k) d h = all_at r k d (omega arith)

-- indexes that are held stand in an array, as many as are answered
pub picked_of : (list ws : List (List ℕ)) (n : ℕ) (is : List ℕ) (k : ℕ)
    → length list ≡ n → length is ≡ 64 → k ≤ 64 → held list (accepted ws) ≡ accepted (take k is)
    → Picked n (held list (accepted ws)) is k
picked_of list ws n is k many size few e =
    let l : length (take k is) ≡ k = length-take-le k is (omega (arith, size, few)) in
    let below = subst (λ (m : ℕ). All (λ i. i < m) (take k is)) many (held_below list ws (take k is) e) in
    record { size = size; few = few; indexes = record { few = omega (arith, l, few); below = λ j h. all_at below j 0 h }; found = e }

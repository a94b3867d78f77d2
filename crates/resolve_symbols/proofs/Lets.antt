-- LETs in a run of numbers: one more behind the others, the last of a key, and what a symbol stands for by it.
-- Assumes nothing.
use mathlib.Core.Path.{◌≡◌, refl, ◌∙◌, ap, ap₂, sym, subst}
use mathlib.Core.Bool.{Bool, true, false, cond, ◌||◌, or-false}
use mathlib.Core.List.{List, [], ◌∷◌, ◌++◌, map}
use mathlib.Core.Option.{Option, some, none}
use Prim.Native.Nat.{ℕ, zero, suc, ◌+◌, ◌*◌, ◌-◌, ◌≤◌, ◌<◌}
use native.Mathlib.Numerals.{add-one}
use native.Mathlib.Omega.{arith}
use borrow.Author.Tests.{leb-true, leb-false}
use lib.Dec.{leb}
use lib.ListN.{length, get_or, set, drop, length-set}
use lib.Seq.{get_or-set_same, get_or-set_other, drop-set-lt}
use Rattle.labels.specs.Word.{same_word}
use Rattle.labels.proofs.Words.{same_sym}
use Rattle.reading.specs.Statement.{Item}
use Rattle.resolving.specs.Context.{Context}
use Rattle.resolving.specs.Builtins.{builtin}
use Rattle.resolving.specs.Symbols.{Definition, definition, Meaning, letting, meaning_after, look_up}
use Rattle.text.proofs.Bools.{equally}
use Rattle.text.proofs.Appended.{any_append, map-append}
use Rattle.read_forms.specs.declared.Name.{Name}
use Rattle.read_forms.specs.declared.Items.{Items}
use Rattle.read_forms.specs.Items.{name_in, items_in}
use Rattle.read_forms.specs.Fits.{InText, Listed}
use Rattle.resolve_context.specs.Lists.{found_as}
use Rattle.resolve_context.proofs.Places.{found_at, found_nowhere}
use Rattle.std.specs.Prelude as prelude
use Rattle.std.specs.Prelude.{is_some}
use Rattle.resolve_symbols.specs.Lets.{key_at, values_at, definition_at, definitions_in, last_let, has_key, LetsFit, LetPut}

abbrev is_there : Option ℕ → Bool
is_there none = false
is_there (some k) = true

-- The last LET of a key.
module _ (s l w : List ℕ) where
  last_more : (k : ℕ) → 0 < k → last_let s l k w ≡ cond (same_word w (definition_at s l (k - 1)).key) (some (k - 1)) (last_let s l (k - 1) w)
  unfolding last_let
  last_more zero h = absurd (omega arith)
  last_more (suc k) h = let e : suc k - 1 ≡ k = omega arith in rw e

  -- none of those behind the first k has the key
  pub record Passed (n k : ℕ) : Type 0 where
    pub same : last_let s l n w ≡ last_let s l k w
    pub most : k ≤ n

  pub passed-more : {n k : ℕ} → Passed n k → 0 < k → same_word w (definition_at s l (k - 1)).key ≡ false → Passed n (k - 1)
  passed-more {n} {k} p h e = record { same = p.same ∙ last_more k h ∙ simp e; most = omega arith }

  pub passed-found : {n k : ℕ} → Passed n k → 0 < k → same_word w (definition_at s l (k - 1)).key ≡ true → prelude.Some (k - 1) ≡ found_as (last_let s l n w)
  passed-found {n} {k} p h e = let there : last_let s l k w ≡ some (k - 1) = last_more k h ∙ simp e in sym (ap found_as (p.same ∙ there))

  pub passed-all : {n k : ℕ} → Passed n k → k ≤ 0 → prelude.None ≡ found_as (last_let s l n w)
  unfolding last_let
  passed-all {n} {k} p h = let z : k ≡ 0 = omega arith in sym (ap found_as (p.same ∙ ap (λ (j : ℕ). last_let s l j w) z))

  pub last-below : (n k : ℕ) → last_let s l n w ≡ some k → k < n
  unfolding last_let
  last-below zero k e = let z : ◌≡◌ {A = ℕ} 0 1 = cc in absurd (omega arith)
  last-below (suc n) k e = by_test (same_word w (definition_at s l n).key) (last-below n k) e
    where
      by_test : (t : Bool) → (last_let s l n w ≡ some k → k < n) → cond t (some n) (last_let s l n w) ≡ some k → k < suc n
      by_test true f h = let j : n ≡ k = cc in omega arith
      by_test false f h = let j = f h in omega arith

  has_last : (n : ℕ) → has_key (definitions_in s l n) w ≡ is_there (last_let s l n w)
  unfolding definitions_in last_let
  has_last zero = refl
  has_last (suc n) =
      any_append (λ d. same_word d.key w) (definitions_in s l n) (definition_at s l n ∷ [])
      ∙ ap
      (λ (t : Bool). has_key (definitions_in s l n) w || (t || false))
      (equally (same_word key w) (same_word w key) (same_sym key w) (same_sym w key))
      ∙ by_test (same_word w key) (has_last n)
    where
      key : List ℕ
      key = (definition_at s l n).key

      by_test : (t : Bool) → has_key (definitions_in s l n) w ≡ is_there (last_let s l n w)
          → has_key (definitions_in s l n) w || (t || false) ≡ is_there (cond t (some n) (last_let s l n w))
      by_test true h = always (has_key (definitions_in s l n) w)
        where
          always : (a : Bool) → a || true ≡ true
          always true = refl
          always false = refl
      by_test false h = or-false (has_key (definitions_in s l n) w) ∙ h

  pub has_none : (n : ℕ) → last_let s l n w ≡ none → false ≡ has_key (definitions_in s l n) w
  has_none n e = sym (has_last n ∙ ap is_there e)

  pub has_one : (n k : ℕ) → last_let s l n w ≡ some k → true ≡ has_key (definitions_in s l n) w
  has_one n k e = sym (has_last n ∙ ap is_there e)

  -- whether there is one, as the answer tells
  pub has_told : (n : ℕ) → is_some (found_as (last_let s l n w)) ≡ has_key (definitions_in s l n) w
  has_told n = told (last_let s l n w) ∙ sym (has_last n)
    where
      told : (o : Option ℕ) → is_some (found_as o) ≡ is_there o
      told none = refl
      told (some k) = refl

  -- what the answer tells
  pub let_found : (n : ℕ) {k : ℕ} {r : prelude.Option ℕ} → r ≡ found_as (last_let s l n w) → r ≡ prelude.Some k → last_let s l n w ≡ some k
  let_found n {k} e f = found_at (last_let s l n w) k (sym e ∙ f)

  pub no_let_found : (n : ℕ) {r : prelude.Option ℕ} → r ≡ found_as (last_let s l n w) → r ≡ prelude.None → last_let s l n w ≡ none
  no_let_found n e f = found_nowhere (last_let s l n w) (sym e ∙ f)

-- one LET more is looked at before the others
meaning_last : (look : Meaning) (ds : List (Option Definition)) (d : Option Definition) (w : List ℕ)
    → meaning_after look (ds ++ d ∷ []) w ≡ letting (meaning_after look ds) d w
meaning_last look [] d w = refl
meaning_last look (x ∷ ds) d w = meaning_last (letting look x) ds d w

-- What a symbol stands for: the last LET's values, or what it stands for without one.
abbrev values_or : List ℕ → List ℕ → Option (List (List ℕ)) → Option ℕ → Option (List (List ℕ))
values_or s l m none = m
values_or s l m (some k) = some (definition_at s l k).values

look-last : (look : Meaning) (s l w : List ℕ) (n : ℕ)
    → meaning_after look (map some (definitions_in s l n)) w ≡ values_or s l (look w) (last_let s l n w)
unfolding definitions_in last_let
look-last look s l w zero = refl
look-last look s l w (suc n) =
    ap (λ (ds : List (Option Definition)). meaning_after look ds w) (map-append some (definitions_in s l n) (definition_at s l n ∷ []))
    ∙ meaning_last look (map some (definitions_in s l n)) (some (definition_at s l n)) w
    ∙ by_test (same_word w (definition_at s l n).key) (look-last look s l w n)
  where
    by_test : (t : Bool) → meaning_after look (map some (definitions_in s l n)) w ≡ values_or s l (look w) (last_let s l n w)
        → cond t (some (definition_at s l n).values) (meaning_after look (map some (definitions_in s l n)) w)
        ≡ values_or s l (look w) (cond t (some n) (last_let s l n w))
    by_test true h = refl
    by_test false h = h

module _ (c : Context) (s l w : List ℕ) (n : ℕ) where
  pub look-builtin : last_let s l n w ≡ none → look_up c (map some (definitions_in s l n)) w ≡ builtin c w
  unfolding look_up
  look-builtin e = look-last (builtin c) s l w n ∙ ap (values_or s l (builtin c w)) e

  pub look_let : (k : ℕ) → last_let s l n w ≡ some k → look_up c (map some (definitions_in s l n)) w ≡ some (definition_at s l k).values
  unfolding look_up
  look_let k e = look-last (builtin c) s l w n ∙ ap (values_or s l (builtin c w)) e

-- No LET yet, and one more.

pub no_lets : (s l : List ℕ) → LetsFit s l 0
no_lets s l = record { room = omega arith; few = omega arith; keys = λ k h. absurd (omega arith); values = λ k h. absurd (omega arith) }

abbrev four : List ℕ → ℕ → ℕ → ℕ → ℕ → ℕ → List ℕ
four l i a b c d = set (set (set (set l i a) (i + 1) b) (i + 2) c) (i + 3) d

module _ (l : List ℕ) (i a b c d : ℕ) where
  four_size : length (four l i a b c d) ≡ length l
  four_size = simp length-set

  four_before : (j : ℕ) → j < i → get_or (four l i a b c d) j 0 ≡ get_or l j 0
  four_before j h =
      let p : j ≡ i → ⊥ = λ e. omega arith in
      let q : j ≡ i + 1 → ⊥ = λ e. omega arith in
      let r : j ≡ i + 2 → ⊥ = λ e. omega arith in
      let t : j ≡ i + 3 → ⊥ = λ e. omega arith in
      rw (get_or-set_other, get_or-set_other, get_or-set_other, get_or-set_other)

  module _ (h : i + 4 ≤ length l) where
    four-first : get_or (four l i a b c d) i 0 ≡ a
    four-first =
        let q : i ≡ i + 1 → ⊥ = λ e. omega arith in
        let r : i ≡ i + 2 → ⊥ = λ e. omega arith in
        let t : i ≡ i + 3 → ⊥ = λ e. omega arith in
        let k : i < length l = omega arith in
        rw (get_or-set_other, get_or-set_other, get_or-set_other, get_or-set_same)

    four-second : get_or (four l i a b c d) (i + 1) 0 ≡ b
    four-second =
        let r : i + 1 ≡ i + 2 → ⊥ = λ e. omega arith in
        let t : i + 1 ≡ i + 3 → ⊥ = λ e. omega arith in
        let k : i + 1 < length (set l i a) = rw length-set (omega arith) in
        rw (get_or-set_other, get_or-set_other, get_or-set_same)

    four-third : get_or (four l i a b c d) (i + 2) 0 ≡ c
    four-third =
        let t : i + 2 ≡ i + 3 → ⊥ = λ e. omega arith in
        let k : i + 2 < length (set (set l i a) (i + 1) b) = simp length-set (omega arith) in
        rw (get_or-set_other, get_or-set_same)

    four-last : get_or (four l i a b c d) (i + 3) 0 ≡ d
    four-last =
        let k : i + 3 < length (set (set (set l i a) (i + 1) b) (i + 2) c) = simp length-set (omega arith) in
        rw get_or-set_same

    four-behind : drop (i + 4) (four l i a b c d) ≡ drop (i + 4) l
    four-behind =
        let p : i < i + 4 = omega arith in
        let q : i + 1 < i + 4 = omega arith in
        let r : i + 2 < i + 4 = omega arith in
        let t : i + 3 < i + 4 = omega arith in
        rw (drop-set-lt, drop-set-lt, drop-set-lt, drop-set-lt)

-- The run with a LET behind the first n.
module _ (s l : List ℕ) (n : ℕ) (fit : LetsFit s l n) (few : n < 256) (room : 4 * (n + 1) ≤ length l) where
  module _ (key : Name) (items : Items) where
    abbrev pub withLet : List ℕ
    withLet = four l (4 * n) key.offset key.length items.first.at items.count

    key-before : (k : ℕ) → k < n → key_at withLet k ≡ key_at l k
    key-before k h = rw (four_before l (4 * n) _ _ _ _ (4 * k) (omega arith), four_before l (4 * n) _ _ _ _ (4 * k + 1) (omega arith))

    values-before : (k : ℕ) → k < n → values_at withLet k ≡ values_at l k
    values-before k h = rw (four_before l (4 * n) _ _ _ _ (4 * k + 2) (omega arith), four_before l (4 * n) _ _ _ _ (4 * k + 3) (omega arith))

    key-own : key_at withLet n ≡ key
    key-own = rw (four-first l (4 * n) _ _ _ _ (omega arith), four-second l (4 * n) _ _ _ _ (omega arith))

    values-own : values_at withLet n ≡ items
    values-own = rw (four-third l (4 * n) _ _ _ _ (omega arith), four-last l (4 * n) _ _ _ _ (omega arith))

    definition-before : (k : ℕ) → k < n → definition_at s withLet k ≡ definition_at s l k
    definition-before k h =
        ap₂ (λ (m : Name) (is : Items). definition (name_in s m) (items_in s is)) (key-before k h) (values-before k h)

    definitions-before : (m : ℕ) → m ≤ n → definitions_in s withLet m ≡ definitions_in s l m
    unfolding definitions_in
    definitions-before zero h = refl
    definitions-before (suc m) h =
        ap₂ (λ (ds : List Definition) (d : Definition). ds ++ d ∷ []) (definitions-before m (omega arith)) (definition-before m h)

    -- where the key and the values are those of a LET
    pub let-put : (values : Items) → InText s key → Listed s items → items_in s items ≡ items_in s values
        → LetPut s l withLet n (definition (name_in s key) (items_in s values))
    unfolding definitions_in
    let-put values inside listed same =
        record {
          size = four_size l (4 * n) _ _ _ _;
          fit =
              record {
                room = rw (four_size l (4 * n) key.offset key.length items.first.at items.count) room;
                few = omega arith;
                keys = λ k h. keys k h (leb n k) refl;
                values = λ k h. lists k h (leb n k) refl;
              };
          definitions =
              ap (definitions_in s withLet) (add-one n)
              ∙ ap₂ (λ (ds : List Definition) (d : Definition). ds ++ d ∷ []) (definitions-before n (omega arith)) own;
          behind =
              let e : 4 * (n + 1) ≡ 4 * n + 4 = omega arith in
              rw e (four-behind l (4 * n) _ _ _ _ (omega arith));
        }
      where
        own : definition_at s withLet n ≡ definition (name_in s key) (items_in s values)
        own =
            ap₂
            (λ (w : List ℕ) (is : List Item). record { key = w; values = map (λ i. i.name.spelling) is })
            (ap (λ (m : Name). (name_in s m).spelling) key-own)
            (ap (items_in s) values-own ∙ same)

        keys : (k : ℕ) → k < n + 1 → (t : Bool) → leb n k ≡ t → InText s (key_at withLet k)
        keys k h true e =
            let own : k ≡ n = omega (arith, leb-true n k e) in
            subst (λ (j : ℕ). InText s (key_at withLet j)) (sym own) (subst (InText s) (sym key-own) inside)
        keys k h false e =
            let below : k < n = leb-false n k e in
            subst (InText s) (sym (key-before k below)) (fit.keys k below)

        lists : (k : ℕ) → k < n + 1 → (t : Bool) → leb n k ≡ t → Listed s (values_at withLet k)
        lists k h true e =
            let own : k ≡ n = omega (arith, leb-true n k e) in
            subst (λ (j : ℕ). Listed s (values_at withLet j)) (sym own) (subst (Listed s) (sym values-own) listed)
        lists k h false e =
            let below : k < n = leb-false n k e in
            subst (Listed s) (sym (values-before k below)) (fit.values k below)

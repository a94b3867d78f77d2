-- What crates above use: what a check's answer says, and of a context that stands, that each of its lists is sound and has the names of the
-- definition's context.
-- Assumes nothing.
use mathlib.Core.Path.{◌≡◌, refl, sym, ap, ◌∙◌, subst}
use mathlib.Core.Bool.{Bool, true, false, cond, ◌&&◌, false≢true}
use mathlib.Core.List.{List, [], ◌∷◌, map}
use mathlib.Core.Option.{Option, some, none}
use Prim.Native.Nat.{ℕ, zero, suc, ◌+◌, ◌*◌, ◌≤◌, ◌<◌}
use native.Mathlib.Omega.{arith}
use borrow.Author.Tests.{eqb-true}
use lib.Dec.{leb, eqb}
use lib.ListN.{length, get_or, drop, get_elem?, length-map, length-drop}
use lib.Seq.{length-take-le}
use Rattle.text.proofs.Tests.{halves}
use Rattle.tokens.specs.Spelling.{is_name}
use Rattle.labels.specs.Word.{same_word}
use Rattle.text.specs.Lists.{later_by_one, all, place_in}
use Rattle.resolving.specs.Context.{Declared, kind_or, kind_at, covariates_or, covariates}
use Rattle.resolving.specs.Builtins.{matching}
use Rattle.resolving.specs.Given.{Pair, is_entry, in_order, spelled, kind_of, only_if, binding_in, declared_in}
use Rattle.resolving.specs.Handed.{pair_at, pairs_at, bindings_at, declared_at, template_start, past_all, is_handed, given_in, handed_context}
use Rattle.resolve_context.specs.Lists.{
  layout_of,
  checked_as,
  Stands,
  Sound,
  pairs_in,
  names_in,
  kinds_in,
  template_in,
  block_in,
  both_of,
  variables_of,
  covariates_of,
  heads_fit,
  order_of,
  lists_of,
  lists_fit,
}
use Rattle.resolve_context.specs.declared.Names.{Names}
use Rattle.resolve_context.specs.declared.Layout.{Layout}
use Rattle.std.specs.Prelude as prelude
use Rattle.resolve_context.proofs.Pairs.{kinds_at, sound_at, name-is, kind-is, length-bindings, length_declared}
use Rattle.resolve_context.proofs.Heads.{Heads, heads_of, handed_by}

-- What the check answers.
module _ (b l : List ℕ) where
  pub is_context : is_handed b l ≡ true → checked_as b l ≡ prelude.Some (layout_of l)
  unfolding checked_as
  is_context h = rw h

  pub is-wrong : is_handed b l ≡ false → checked_as b l ≡ prelude.None
  unfolding checked_as
  is-wrong h = rw h

abbrev layout_in : Layout → prelude.Option Layout → Layout
layout_in y (prelude.Some z) = z
layout_in y prelude.None = y

abbrev is_wrong : prelude.Option Layout → Bool
is_wrong (prelude.Some z) = false
is_wrong prelude.None = true

pub checked_stands : (b l : List ℕ) (y : Layout) → checked_as b l ≡ prelude.Some y → Stands b l y
unfolding checked_as
checked_stands b l y e = by_cases (is_handed b l) refl
  where
    by_cases : (t : Bool) → is_handed b l ≡ t → Stands b l y
    by_cases true h = record { is = h; there = ap (layout_in y) (sym e ∙ is_context b l h) }
    by_cases false h = let w : true ≡ false = ap is_wrong (sym (is-wrong b l h) ∙ e) in absurd (false≢true (sym w))

pub checked_wrong : (b l : List ℕ) → checked_as b l ≡ prelude.None → is_handed b l ≡ false
checked_wrong b l e = by_cases (is_handed b l) refl
  where
    by_cases : (t : Bool) → is_handed b l ≡ t → is_handed b l ≡ false
    by_cases true h = let w : true ≡ false = ap is_wrong (sym e ∙ is_context b l h) in absurd (false≢true (sym w))
    by_cases false h = h

-- Lists that are in order have names alone; of a list of pairs every second one.

pub in_order-entries : (b : List ℕ) (end : ℕ) (ps : List Pair) → in_order b end ps ≡ true → all (is_entry b) ps ≡ true
in_order-entries b end [] h = refl
in_order-entries b end (p ∷ ps) h =
    let e = halves (is_entry b p) (leb end p.offset && in_order b (p.offset + p.size) ps) h in
    let o = halves (leb end p.offset) (in_order b (p.offset + p.size) ps) e.1 in
    rw e.0 (in_order-entries b (p.offset + p.size) ps o.1)

order_sound : (b l : List ℕ) (n : Names) → order_of b l n ≡ true → n.count ≤ 64 → Sound b l n
order_sound b l n h k = record { named = in_order-entries b 0 (pairs_in l n) h; few = k }

pub every-second : (b l : List ℕ) (i n : ℕ) → all (is_entry b) (pairs_at l i 2 (2 * n)) ≡ true
    → (all (is_entry b) (pairs_at l i 4 n) ≡ true) × (all (is_entry b) (pairs_at l (i + 2) 4 n) ≡ true)
unfolding pairs_at
every-second b l i zero h = (refl, refl)
every-second b l i (suc n) h =
    let e : 2 * suc n ≡ suc (suc (2 * n)) = omega arith in
    let k : i + 2 + 2 ≡ i + 4 = omega arith in
    let m : i + 2 + 4 ≡ i + 4 + 2 = omega arith in
    let g : (is_entry b (pair_at l i) && (is_entry b (pair_at l (i + 2)) && all (is_entry b) (pairs_at l (i + 4) 2 (2 * n)))) ≡ true =
    ap (λ (j : ℕ). is_entry b (pair_at l i) && (is_entry b (pair_at l (i + 2)) && all (is_entry b) (pairs_at l j 2 (2 * n)))) (sym k)
    ∙ ap (λ (j : ℕ). all (is_entry b) (pairs_at l i 2 j)) (sym e)
    ∙ h in
    let p = halves (is_entry b (pair_at l i)) _ g in
    let q = halves (is_entry b (pair_at l (i + 2))) _ p.1 in
    let r = every-second b l (i + 4) n q.1 in
    (rw p.0 r.0, rw (q.0, m) r.1)

record SoundLists (b l : List ℕ) (y : Layout) : Type 0 where
  pub parameters : Sound b l y.parameters
  pub iiv : Sound b l y.iiv
  pub roles : Sound b l y.template
  pub variables : Sound b l (variables_of y.template)
  pub declared : Sound b l y.declared
  pub columns : Sound b l y.columns

pub handed-heads_fit : (b l : List ℕ) → is_handed b l ≡ true → heads_fit l ≡ true
handed-heads_fit b l h = (halves (heads_fit l) _ (halves (leb (length b) 16384) _ (sym (handed_by b l) ∙ h)).1).0

handed_heads : (b l : List ℕ) → is_handed b l ≡ true → Heads l
handed_heads b l h = heads_of l (handed-heads_fit b l h)

handed_full : (b l : List ℕ) → is_handed b l ≡ true → past_all l ≡ length l
handed_full b l h =
    let a = halves (leb (length b) 16384) _ (sym (handed_by b l) ∙ h) in
    eqb-true _ _ (halves (eqb (past_all l) (length l)) _ (halves (heads_fit l) _ a.1).1).0

sound_lists : (b l : List ℕ) → is_handed b l ≡ true → SoundLists b l (layout_of l)
unfolding lists_fit layout_of
sound_lists b l h =
    let n = handed_heads b l h in
    let a = halves (leb (length b) 16384) _ (sym (handed_by b l) ∙ h) in
    let c = halves (heads_fit l) _ a.1 in
    let d = halves (eqb (past_all l) (length l)) _ c.1 in
    let o = halves (all (order_of b l) (lists_of (layout_of l))) _ d.1 in
    let e = halves (order_of b l (layout_of l).parameters) _ o.0 in
    let f = halves (order_of b l (layout_of l).iiv) _ e.1 in
    let g = halves (order_of b l (both_of (layout_of l).template)) _ f.1 in
    let i = halves (order_of b l (layout_of l).declared) _ g.1 in
    let j = halves (order_of b l (layout_of l).columns) _ i.1 in
    let t = every-second b l (template_start l) (get_or l 2 0) (in_order-entries b 0 (pairs_in l (both_of (layout_of l).template)) g.0) in
    record {
      parameters = order_sound b l (layout_of l).parameters e.0 n.parameters;
      iiv = order_sound b l (layout_of l).iiv f.0 n.iiv;
      roles = record { named = t.0; few = n.template };
      variables = record { named = t.1; few = n.template };
      declared = order_sound b l (layout_of l).declared i.0 n.declared;
      columns = order_sound b l (layout_of l).columns j.0 n.columns;
    }

-- A context that stands.
module _ (b l : List ℕ) (y : Layout) (s : Stands b l y) where
  lists_sound : SoundLists b l y
  lists_sound = subst (SoundLists b l) (sym s.there) (sound_lists b l s.is)

  pub parameters_sound : Sound b l y.parameters
  parameters_sound = lists_sound.parameters

  pub iiv_sound : Sound b l y.iiv
  iiv_sound = lists_sound.iiv

  pub roles_sound : Sound b l y.template
  roles_sound = lists_sound.roles

  pub variables_sound : Sound b l (variables_of y.template)
  variables_sound = lists_sound.variables

  pub declared_sound : Sound b l y.declared
  declared_sound = lists_sound.declared

  pub columns_sound : Sound b l y.columns
  columns_sound = lists_sound.columns

  pub covariates_sound : Sound b l (covariates_of y)
  covariates_sound = by-mark y.declares
    where
      by-mark : (t : Bool) → Sound b l (cond t y.declared y.columns)
      by-mark true = declared_sound
      by-mark false = columns_sound

  -- what `variables_of` and `kind_at` ask for
  pub template-near : y.template.start ≤ 1000
  unfolding layout_of
  template-near = let h = handed_heads b l s.is in rw s.there (omega (arith, h))

  pub kinds-within : y.declared.start + 3 * y.declared.count ≤ length l
  unfolding layout_of
  kinds-within = let h = handed_full b l s.is in rw s.there (omega (arith, h))

  -- the names of the definition's context
  pub parameters-are : (handed_context b l).parameters ≡ names_in b l y.parameters
  unfolding handed_context given_in names_in layout_of
  parameters-are = rw s.there refl

  pub iiv-are : (handed_context b l).iiv ≡ names_in b l y.iiv
  unfolding handed_context given_in names_in layout_of
  iiv-are = rw s.there refl

  pub columns-are : (handed_context b l).columns ≡ names_in b l y.columns
  unfolding handed_context given_in names_in layout_of
  columns-are = rw s.there refl

  pub template-is : (handed_context b l).template ≡ only_if y.templated (template_in b l y.template)
  unfolding handed_context given_in template_in layout_of
  template-is = rw s.there refl

  pub block-is : (handed_context b l).block ≡ only_if y.declares (block_in b l y.declared)
  unfolding handed_context given_in block_in layout_of
  block-is = rw s.there refl

-- The k-th binding and the k-th declared covariate, as a walk over the list meets them.

bindings_at_lem : (b l : List ℕ) (i n k : ℕ) → k < n
    → drop k (map (binding_in b) (bindings_at l i n))
    ≡ record { role = spelled b (pair_at l (i + 4 * k)); variable = spelled b (pair_at l (i + 2 + 4 * k)) }
    ∷ drop (suc k) (map (binding_in b) (bindings_at l i n))
unfolding bindings_at
bindings_at_lem b l i zero k h = absurd (omega arith)
bindings_at_lem b l i (suc n) zero h =
    let e : i + 4 * 0 ≡ i = omega arith in
    let f : i + 2 + 4 * 0 ≡ i + 2 = omega arith in
    rw (e, f)
bindings_at_lem b l i (suc n) (suc k) h =
    let e : i + 4 * suc k ≡ i + 4 + 4 * k = omega arith in
    let f : i + 2 + 4 * suc k ≡ i + 4 + 2 + 4 * k = omega arith in
    rw (e, f) (bindings_at_lem b l (i + 4) n k (omega arith))

declared_at_lem : (b l : List ℕ) (i n k : ℕ) → k < n
    → drop k (map (declared_in b) (declared_at l i n))
    ≡ record { name = spelled b (pair_at l (i + 3 * k)); kind = kind_of (get_or l (i + 3 * k + 2) 0) }
    ∷ drop (suc k) (map (declared_in b) (declared_at l i n))
unfolding declared_at
declared_at_lem b l i zero k h = absurd (omega arith)
declared_at_lem b l i (suc n) zero h =
    let e : i + 3 * 0 ≡ i = omega arith in
    rw e
declared_at_lem b l i (suc n) (suc k) h =
    let e : i + 3 * suc k ≡ i + 3 + 3 * k = omega arith in
    rw e (declared_at_lem b l (i + 3) n k (omega arith))

names-declared : (b l : List ℕ) (i n : ℕ) → map (λ d. d.name) (map (declared_in b) (declared_at l i n)) ≡ map (spelled b) (pairs_at l i 3 n)
unfolding declared_at pairs_at
names-declared b l i zero = refl
names-declared b l i (suc n) = ap (λ (ws : List (List ℕ)). spelled b (pair_at l i) ∷ ws) (names-declared b l (i + 3) n)

kinds-declared : (b l : List ℕ) (i n k : ℕ) → k < n
    → get_elem? (map (λ d. d.kind) (map (declared_in b) (declared_at l i n))) k ≡ some (kind_of (get_or (kinds_at l i n) k 0))
unfolding declared_at
kinds-declared b l i zero k h = absurd (omega arith)
kinds-declared b l i (suc n) zero h = refl
kinds-declared b l i (suc n) (suc k) h = kinds-declared b l (i + 3) n k (omega arith)

module _ (b l : List ℕ) (n : Names) where
  pub template-length : length (template_in b l n) ≡ n.count
  unfolding template_in
  template-length = length-map (bindings_at l n.start n.count) (binding_in b) ∙ length-bindings l n.start n.count

  pub block-length : length (block_in b l n) ≡ n.count
  unfolding block_in
  block-length = length-map (declared_at l n.start n.count) (declared_in b) ∙ length_declared l n.start n.count

  pub binding_more : (k : ℕ) → n.step ≡ 4 → k < n.count
      → drop k (template_in b l n)
      ≡ record { role = get_or (names_in b l n) k []; variable = get_or (names_in b l (variables_of n)) k [] } ∷ drop (suc k) (template_in b l n)
  unfolding template_in
  binding_more k e h =
      bindings_at_lem b l n.start n.count k h ∙ rw (name-is b l n k h, name-is b l (variables_of n) k h, e)

  pub declared-more : (k : ℕ) → n.step ≡ 3 → k < n.count
      → drop k (block_in b l n)
      ≡ record { name = get_or (names_in b l n) k []; kind = kind_of (get_or (kinds_in l n) k 0) } ∷ drop (suc k) (block_in b l n)
  unfolding block_in
  declared-more k e h = declared_at_lem b l n.start n.count k h ∙ rw (name-is b l n k h, kind-is l n k h, e)

module _ (b l : List ℕ) (y : Layout) (s : Stands b l y) where
  pub template_step : y.template.step ≡ 4
  unfolding layout_of
  template_step = rw s.there

  pub declared_step : y.declared.step ≡ 3
  unfolding layout_of
  declared_step = rw s.there

  pub block-names : map (λ d. d.name) (block_in b l y.declared) ≡ names_in b l y.declared
  unfolding block_in names_in
  block-names = names-declared b l y.declared.start y.declared.count ∙ rw declared_step

  pub covariates-are : covariates (handed_context b l) ≡ names_in b l (covariates_of y)
  covariates-are =
      ap (λ (o : Option (List Declared)). covariates_or o (handed_context b l).columns) (block-is b l y s)
      ∙ ap (covariates_or (only_if y.declares (block_in b l y.declared))) (columns-are b l y s)
      ∙ by-mark y.declares
    where
      by-mark : (t : Bool)
          → covariates_or (only_if t (block_in b l y.declared)) (names_in b l y.columns) ≡ names_in b l (cond t y.declared y.columns)
      by-mark true = block-names
      by-mark false = refl

  -- the kind of the covariate at an index, where there is a block
  pub kind-declared : (k : ℕ) → y.declares ≡ true → k < y.declared.count
      → kind_at (handed_context b l) k ≡ some (kind_of (get_or (kinds_in l y.declared) k 0))
  unfolding block_in kinds_in
  kind-declared k e h =
      ap (λ (o : Option (List Declared)). kind_or o k) (block-is b l y s)
      ∙ rw e (kinds-declared b l y.declared.start y.declared.count k h)

  pub kind_undeclared : (k : ℕ) → y.declares ≡ false → kind_at (handed_context b l) k ≡ none
  kind_undeclared k e = ap (λ (o : Option (List Declared)). kind_or o k) (block-is b l y s) ∙ rw e

-- A name of a list that was checked is a word or a number of 1 to 32 bytes.
pub record Named (w : List ℕ) : Type 0 where
  pub named : is_name w ≡ true
  pub some : 1 ≤ length w
  pub few : length w ≤ 32

pub sound_named : (b l : List ℕ) (n : Names) → Sound b l n → (k : ℕ) → k < n.count → Named (get_or (names_in b l n) k [])
sound_named b l n s k h =
    let i = n.start + n.step * k in
    let w = sound_at b l n s k h in
    let e : length (spelled b (pair_at l i)) ≡ get_or l (i + 1) 0 =
    length-take-le (get_or l (i + 1) 0) (drop (get_or l i 0) b) (omega (arith, length-drop (get_or l i 0) b, w.ends)) in
    subst Named (sym (name-is b l n k h)) (record { named = w.named; some = omega (arith, e, w.some); few = omega (arith, e, w.few) })

-- A template variable's match is the first parameter that is the same word.
abbrev pub one_of : List (List ℕ) → Option ℕ → List (List ℕ)
one_of ps none = []
one_of ps (some i) = get_or ps i [] ∷ []

one_later : (p : List ℕ) (ps : List (List ℕ)) (o : Option ℕ) → one_of ps o ≡ one_of (p ∷ ps) (later_by_one o)
one_later p ps none = refl
one_later p ps (some i) = refl

pub matching-is : (ps : List (List ℕ)) (v : List ℕ) → matching ps v ≡ one_of ps (place_in (same_word v) ps)
matching-is [] v = refl
matching-is (p ∷ ps) v = by_test (same_word v p) (matching-is ps v ∙ one_later p ps (place_in (same_word v) ps))
  where
    by_test : (t : Bool) → matching ps v ≡ one_of (p ∷ ps) (later_by_one (place_in (same_word v) ps))
        → cond t (p ∷ []) (matching ps v) ≡ one_of (p ∷ ps) (cond t (some 0) (later_by_one (place_in (same_word v) ps)))
    by_test true e = refl
    by_test false e = e

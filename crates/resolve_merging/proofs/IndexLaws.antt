-- The groups with their indexes in the table, and the forms of each collected by them.
-- Assumes nothing.
use Prim.Native.Nat.{ℕ, ◌+◌, ◌*◌, ◌%◌, ◌≤◌, ◌<◌}
use native.Mathlib.Omega.{arith}
use mathlib.Core.Path.{◌≡◌, refl, sym, ◌∙◌, ap, ap₂, subst}
use mathlib.Core.Bool.{Bool, true, false, cond}
use mathlib.Core.List.{List, [], ◌∷◌, map}
use borrow.Author.Tests.{eqb-true, eqb-false, lt-ltb, le-ltb, ltb-true, ltb-false}
use lib.Dec.{eqb, ltb}
use lib.ListN.{length, take, drop, get_or, set, length-set}
use lib.Seq.{get_or-drop, get_or-take, get_or-set_same, get_or-set_other, take-set-le, length-take-le}
use Rattle.read_packs.specs.Packs.{places, Snug, Joined}
use Rattle.text.proofs.All.{All, finished, also, all_map, all_firsts}
use Rattle.text.proofs.Once.{firsts-once}
use Rattle.resolve_merging.specs.Packing.{pair_of, group_number, form_number}
use Rattle.resolve_merging.specs.Flags.{byte_at, with_byte}
use Rattle.resolve_merging.specs.Runs.{groups_in, forms_of}
use Rattle.resolve_merging.specs.Tables.{place, entry, Kept, Tallied, Agree, zeros}
use Rattle.resolve_merging.specs.Outcomes.{Plain, group_at, forms_at}
use Rattle.resolve_merging.specs.Grouping.{GroupNumbers, index_of, Unnumbered, indexed, Numbered, Ready, Packed, Collected, Formed}
use Rattle.resolve_merging.proofs.FlagLaws.{byte_put, no_byte}
use Rattle.resolve_merging.proofs.TableLaws.{kept_self, kept_on, kept_set, pair_below, take_front, get_d_front, entry_set, cleared_table}
use Rattle.resolve_merging.proofs.FormLaws.{plain-forms, Forms, forms-start, forms-room, forms-next, forms-end, other-group, own-group}
use Rattle.resolve_merging.proofs.GroupLists.{all_at, group_pair, group_low, group-numbers, apart, Stands, group-stands_at}

-- what stands from 6,144 on
group-kept : (a b : List ℕ) → drop 6144 b ≡ drop 6144 a → (j : ℕ) → group_at b j ≡ group_at a j
group-kept a b e j = sym (get_or-drop 6144 b (2 * j) 0) ∙ ap (λ (l : List ℕ). get_or l (2 * j) 0) e ∙ get_or-drop 6144 a (2 * j) 0

all-zero : (t : ℕ → ℕ) (l : List ℕ) → Agree l t zeros → All (λ e. t (pair_of e) ≡ 0) l
all-zero t [] h = finished
all-zero t (w ∷ l) h = also h.0 (all-zero t l h.1)

-- The groups before they have indexes: the table is cleared.
module _ {a b : List ℕ} (m : ℕ) {k : ℕ} (ns : GroupNumbers (groups_in (take m a)) a k) (t : Tallied (λ w v. 0) (take m a) a b) where
  number_at : (j : ℕ) → j < k → group_at b j ≡ get_or (groups_in (take m a)) j 0
  number_at j h = group-kept a b t.groups j ∙ ns.each j h

  own-number : (j : ℕ) → j < k → group_number (group_at b j) ≡ group_at b j
  own-number j h =
      subst (λ (g : ℕ). group_number g ≡ g) (sym (number_at j h)) (group-numbers (take m a) j (omega (arith, h, ns.count)))

  pub unnumbered : Unnumbered k b
  unnumbered = record {
    once = λ i j h g e.
        apart (groups_in (take m a)) (firsts-once eqb (map group_number (take m a))) i j (omega (arith, h, ns.count)) (omega (arith, g, ns.count))
        (sym (own-number i h ∙ number_at i h) ∙ e ∙ own-number j g ∙ number_at j g);
    none = λ j h.
        ap (λ (g : ℕ). entry b (pair_of g)) (number_at j h)
        ∙ all_at {P = λ g. entry b (pair_of g) ≡ 0}
        (all_firsts eqb
        (all_map group_number (λ x e. ap (entry b) (group_pair x) ∙ e) (all-zero (entry b) (take m a) (cleared_table t))))
        j
        (omega (arith, h, ns.count));
  }

-- Indexes, group by group.
pub record Numbering (a b : List ℕ) (j k : ℕ) : Type 0 where
  pub kept : Kept a b
  pub terms : take 2048 b ≡ take 2048 a
  pub groups : (n : ℕ) → group_at b n ≡ group_at a n
  pub empty : (n : ℕ) → n < j → forms_at b n ≡ 0
  pub indexes : (n : ℕ) → n < k → index_of b (group_at a n) ≡ cond (ltb n j) n 0

pub numbering_start : {a : List ℕ} (k : ℕ) → Unnumbered k a → Numbering a a 0 k
numbering_start {a} k u = record {
  kept = kept_self a;
  terms = refl;
  groups = λ n. refl;
  empty = λ n h. absurd (omega arith);
  indexes = λ n h.
      ap (λ (v : ℕ). byte_at v (group_at a n % 4)) (u.none n h)
      ∙ no_byte (group_at a n % 4)
      ∙ sym (ap (λ (t : Bool). cond t n 0) (le-ltb n 0 (omega arith)));
}

module _ {a b : List ℕ} {j k : ℕ} (room : 6656 ≤ length a) (most : k ≤ 256) (so : j < k) (u : Unnumbered k a) (v : Numbering a b j k) where
  pub numbering_ready : index_of b (group_at b j) ≡ 0
  numbering_ready =
      ap (index_of b) (v.groups j) ∙ v.indexes j so ∙ ap (λ (t : Bool). cond t j 0) (le-ltb j j (omega arith))

  -- the table with the index put in
  index-put :
      (g n : ℕ) → g ≡ group_at a j → byte_at (entry b (pair_of g)) (g % 4) ≡ 0 → n < k
      → index_of (set b (place g) (with_byte (entry b (pair_of g)) (g % 4) j)) (group_at a n) ≡ cond (ltb n (j + 1)) n 0
  index-put g n q z h =
      ap
      (λ (x : ℕ). byte_at x (group_at a n % 4))
      (entry_set b (pair_of g) (with_byte (entry b (pair_of g)) (g % 4) j) (pair_of (group_at a n)) (omega (arith, v.kept.size)) (pair_below g))
      ∙ by-pair (eqb (pair_of g) (pair_of (group_at a n))) refl
    where
      later : (n ≡ j → ⊥) → cond (ltb n j) n 0 ≡ cond (ltb n (j + 1)) n 0
      later d = by_order (ltb n j) refl
        where
          by_order : (t : Bool) → ltb n j ≡ t → cond t n 0 ≡ cond (ltb n (j + 1)) n 0
          by_order true e =
              sym (ap (λ (t : Bool). cond t n 0) (lt-ltb n (j + 1) (let l : n < j = ltb-true n j e in omega (arith, l))))
          by_order false e =
              sym (ap (λ (t : Bool). cond t n 0) (le-ltb n (j + 1) (let l : j ≤ n = ltb-false n j e in omega (arith, l, d))))

      other : (n ≡ j → ⊥) → byte_at (entry b (pair_of (group_at a n))) (group_at a n % 4) ≡ cond (ltb n (j + 1)) n 0
      other d = v.indexes n h ∙ later d

      by-low :
          (t : Bool) → eqb (group_at a n % 4) (g % 4) ≡ t → pair_of g ≡ pair_of (group_at a n)
          → cond t j (byte_at (entry b (pair_of g)) (group_at a n % 4)) ≡ cond (ltb n (j + 1)) n 0
      by-low true e p =
          let same : group_number (group_at a n) ≡ group_number (group_at a j) =
          ap₂ (λ (x y : ℕ). x * 32 + y) (sym p ∙ ap pair_of q) (eqb-true (group_at a n % 4) (g % 4) e ∙ ap (λ (x : ℕ). x % 4) q) in
          let i : n ≡ j = u.once n j h so same in
          sym (ap (λ (t : Bool). cond t n 0) (lt-ltb n (j + 1) (omega (arith, i))) ∙ i)
      by-low false e p =
          ap (λ (x : ℕ). byte_at (entry b x) (group_at a n % 4)) p
          ∙ other (λ i. eqb-false (group_at a n % 4) (g % 4) e (ap (λ (x : ℕ). group_at a x % 4) i ∙ ap (λ (x : ℕ). x % 4) (sym q)))

      by-pair :
          (t : Bool) → eqb (pair_of g) (pair_of (group_at a n)) ≡ t
          → byte_at (cond t (with_byte (entry b (pair_of g)) (g % 4) j) (entry b (pair_of (group_at a n)))) (group_at a n % 4)
          ≡ cond (ltb n (j + 1)) n 0
      by-pair true e =
          byte_put (entry b (pair_of g)) (g % 4) j (group_at a n % 4) z (omega arith)
          ∙ by-low (eqb (group_at a n % 4) (g % 4)) refl (eqb-true (pair_of g) (pair_of (group_at a n)) e)
      by-pair false e =
          other (λ i. eqb-false (pair_of g) (pair_of (group_at a n)) e (ap pair_of q ∙ ap (λ (x : ℕ). pair_of (group_at a x)) (sym i)))

  set-numbered :
      (g x : ℕ) → g ≡ group_at a j → ((n : ℕ) → n < k → index_of (set b (place g) x) (group_at a n) ≡ cond (ltb n (j + 1)) n 0)
      → Numbering a (set (set b (place g) x) (6145 + 2 * j) 0) (j + 1) k
  set-numbered g x q is = record {
    kept = kept_on v.kept (kept_on (kept_set b (place g) x (omega arith)) (kept_set (set b (place g) x) (6145 + 2 * j) 0 (omega arith)));
    terms = take-set-le 2048 (set b (place g) x) (6145 + 2 * j) 0 (omega arith) ∙ take-set-le 2048 b (place g) x (omega arith) ∙ v.terms;
    groups = λ n.
        get_or-set_other (set b (place g) x) (6145 + 2 * j) (6144 + 2 * n) 0 0 (λ e. omega (arith, e))
        ∙ get_or-set_other b (place g) (6144 + 2 * n) x 0 (λ e. omega (arith, e))
        ∙ v.groups n;
    empty = λ n h. by_cases n h (eqb n j) refl;
    indexes = λ n h.
        ap
        (λ (y : ℕ). byte_at y (group_at a n % 4))
        (get_or-set_other (set b (place g) x) (6145 + 2 * j) (place (group_at a n)) 0 0 (λ e. omega (arith, e)))
        ∙ is n h;
  }
    where
      by_cases : (n : ℕ) → n < j + 1 → (t : Bool) → eqb n j ≡ t → forms_at (set (set b (place g) x) (6145 + 2 * j) 0) n ≡ 0
      by_cases n h true e =
          let wide : 6145 + 2 * j < length (set b (place g) x) = omega (arith, length-set b (place g) x, v.kept.size) in
          ap (forms_at (set (set b (place g) x) (6145 + 2 * j) 0)) (eqb-true n j e)
          ∙ get_or-set_same (set b (place g) x) (6145 + 2 * j) 0 0 wide
      by_cases n h false e =
          let d : n ≡ j → ⊥ = eqb-false n j e in
          let l : n < j = omega (arith, d, h) in
          get_or-set_other (set b (place g) x) (6145 + 2 * j) (6145 + 2 * n) 0 0 (λ r. omega (arith, r, l))
          ∙ get_or-set_other b (place g) (6145 + 2 * n) x 0 (λ r. omega (arith, r))
          ∙ v.empty n l

  pub numbering-next : {c : List ℕ} → c ≡ indexed b j → Numbering a c (j + 1) k
  numbering-next {c} e =
      subst (λ (l : List ℕ). Numbering a l (j + 1) k) (sym e)
      (set-numbered
      (group_at b j)
      (with_byte (entry b (pair_of (group_at b j))) (group_at b j % 4) j)
      (v.groups j)
      (λ n h. index-put (group_at b j) n (v.groups j) numbering_ready h))

pub numbering-end : {a b : List ℕ} {j k : ℕ} → j ≡ k → Numbering a b j k → Numbered k a b
numbering-end {a} {b} {j} {k} e v = record {
  kept = v.kept;
  terms = v.terms;
  groups = v.groups;
  empty = λ n h. v.empty n (omega (arith, e, h));
  indexes = λ n h. v.indexes n h ∙ ap (λ (t : Bool). cond t n 0) (lt-ltb n j (omega (arith, e, h)));
}

-- Each effect finds its group.
module _ {a b c : List ℕ} {m k : ℕ} (room : 6656 ≤ length a) (few : m ≤ 2048) (p : Plain (take m a))
    (ns : GroupNumbers (groups_in (take m a)) a k) (t : Tallied (λ w v. 0) (take m a) a b) (v : Numbered k b c) where
  run-kept : take m c ≡ take m a
  run-kept = take_front b c m few v.terms ∙ take_front a b m few t.terms

  finds : (i : ℕ) → i < m → Stands (groups_in (take m a)) (group_number (get_or c i 0))
  finds i h =
      subst
      (λ (e : ℕ). Stands (groups_in (take m a)) (group_number e))
      (get_or-take m a i 0 h ∙ sym (get_d_front b c i (omega arith) v.terms ∙ get_d_front a b i (omega arith) t.terms))
      (group-stands_at (take m a) i (omega (arith, length-take-le m a (omega arith))))

  index-found : (i : ℕ) (h : i < m) → index_of c (get_or c i 0) ≡ (finds i h).index
  index-found i h =
      let s = finds i h in
      let n : s.index < k = omega (arith, s.within, ns.count) in
      let g : group_at b s.index ≡ group_number (get_or c i 0) = number_at m ns t s.index n ∙ s.there in
      ap₂ (λ (x y : ℕ). byte_at (entry c x) y) (sym (group_pair (get_or c i 0))) (sym (group_low (get_or c i 0)))
      ∙ ap (index_of c) (sym g)
      ∙ v.indexes s.index n

  pub forms_ready : Ready m k c
  forms_ready = record {
    below = λ i h. let s = finds i h in omega (arith, index-found i h, s.within, ns.count);
    own = λ i h.
        let s = finds i h in
        ap (group_at c) (index-found i h)
        ∙ v.groups s.index
        ∙ number_at m ns t s.index (omega (arith, s.within, ns.count))
        ∙ s.there;
    empty = v.empty;
    apart = λ i j h g e. (unnumbered m ns t).once i j h g (ap group_number (sym (v.groups i) ∙ e ∙ v.groups j));
    once = λ j h. plain-forms (group_at c j) (subst Plain (sym run-kept) p);
  }

  pub formed_all : {d : List ℕ} → Formed m k c d → Formed m k a d
  formed_all {d} f = record {
    kept = kept_on t.kept (kept_on v.kept f.kept);
    terms = f.terms ∙ v.terms ∙ t.terms;
    groups = λ j. f.groups j ∙ v.groups j ∙ group-kept a b t.groups j;
    forms = λ j h. subst (Packed (forms_at d j)) (ap₂ forms_of (v.groups j ∙ group-kept a b t.groups j) run-kept) (f.forms j h);
  }

-- Forms, effect by effect.
pub record Collecting (a b : List ℕ) (m k i : ℕ) : Type 0 where
  pub kept : Kept a b
  pub terms : take 2048 b ≡ take 2048 a
  pub entries : (p : ℕ) → p < 4096 → entry b p ≡ entry a p
  pub groups : (j : ℕ) → group_at b j ≡ group_at a j
  pub forms : (j : ℕ) → j < k → Forms a m (group_at a j) (forms_at b j) i

pub collecting_start : {a : List ℕ} {m k : ℕ} → Ready m k a → Collecting a a m k 0
collecting_start {a} {m} {k} r = record {
  kept = kept_self a;
  terms = refl;
  entries = λ p h. refl;
  groups = λ j. refl;
  forms = λ j h. subst (λ (x : ℕ). Forms a m (group_at a j) x 0) (sym (r.empty j h)) (forms-start a m (group_at a j));
}

module _ {a b : List ℕ} {m k i : ℕ} (room : 6656 ≤ length a) (few : m ≤ 2048) (most : k ≤ 256) (so : i < m) (r : Ready m k a)
    (v : Collecting a b m k i) where
  own-effect : get_or b i 0 ≡ get_or a i 0
  own-effect = get_d_front a b i (omega arith) v.terms

  own-index : index_of b (get_or b i 0) ≡ index_of a (get_or a i 0)
  own-index =
      ap (λ (x : ℕ). byte_at x (get_or b i 0 % 4)) (v.entries (pair_of (get_or b i 0)) (pair_below (get_or b i 0)))
      ∙ ap (index_of a) own-effect

  index_low : index_of b (get_or b i 0) < k
  index_low = omega (arith, own-index, r.below i so)

  own-group_number : group_number (get_or a i 0) ≡ group_at a (index_of b (get_or b i 0))
  own-group_number = sym (r.own i so) ∙ ap (group_at a) (sym own-index)

  pub collecting_ready :
      let at = index_of b (get_or b i 0) in
      (i < length b) × (6656 ≤ length b) × (at < 256) × Snug (forms_at b at) × (length (places (forms_at b at)) ≤ 7)
  collecting_ready =
      let at = index_of b (get_or b i 0) in
      let f = v.forms at index_low in (
        omega (arith, v.kept.size),
        omega (arith, v.kept.size),
        omega (arith, index_low),
        f.snug,
        forms-room so (omega arith) (r.once at index_low) f own-group_number,
      )

  forms-joined :
      (at x : ℕ) → at ≡ index_of b (get_or b i 0) → Joined (forms_at b at) (form_number (get_or a i 0)) x
      → (j : ℕ) → j < k → Forms a m (group_at a j) (forms_at (set b (6145 + 2 * at) x) j) (i + 1)
  forms-joined at x q f j h = by_cases (eqb j at) refl
    where
      by_cases : (t : Bool) → eqb j at ≡ t → Forms a m (group_at a j) (forms_at (set b (6145 + 2 * at) x) j) (i + 1)
      by_cases true e =
          let d : j ≡ at = eqb-true j at e in
          let s : forms_at (set b (6145 + 2 * at) x) j ≡ x =
          ap (forms_at (set b (6145 + 2 * at) x)) d ∙ get_or-set_same b (6145 + 2 * at) x 0 (omega (arith, d, h, most, v.kept.size)) in
          let g : group_number (get_or a i 0) ≡ group_at a j = own-group_number ∙ ap (group_at a) (sym (d ∙ q)) in
          subst (λ (y : ℕ). Forms a m (group_at a j) y (i + 1)) (sym s)
          (forms-next so (omega arith) (r.once j h) (v.forms j h)
          (own-group (forms_at b j) (get_or a i 0) (group_at a j) g
          (subst (λ (n : ℕ). Joined (forms_at b n) (form_number (get_or a i 0)) x) (sym d) f)))
      by_cases false e =
          let d : j ≡ at → ⊥ = eqb-false j at e in
          let s : forms_at (set b (6145 + 2 * at) x) j ≡ forms_at b j =
          get_or-set_other b (6145 + 2 * at) (6145 + 2 * j) x 0 (λ y. d (omega (arith, y))) in
          subst (λ (y : ℕ). Forms a m (group_at a j) y (i + 1)) (sym s)
          (forms-next so (omega arith) (r.once j h) (v.forms j h)
          (other-group (forms_at b j) (get_or a i 0) (group_at a j)
          (λ g. d (r.apart j (index_of b (get_or b i 0)) h index_low (sym g ∙ own-group_number) ∙ sym q))
          (v.forms j h).snug))

  pub collecting_next : {c : List ℕ} → Collected b c (get_or b i 0) → Collecting a c m k (i + 1)
  collecting_next {c} w =
      subst (λ (l : List ℕ). Collecting a l m k (i + 1)) (sym w.numbers)
      (joined (index_of b (get_or b i 0)) w.joined refl
      (subst (λ (e : ℕ). Joined (forms_at b (index_of b (get_or b i 0))) (form_number e) w.joined) own-effect w.forms))
    where
      joined :
          (at x : ℕ) → at ≡ index_of b (get_or b i 0) → Joined (forms_at b at) (form_number (get_or a i 0)) x
          → Collecting a (set b (6145 + 2 * at) x) m k (i + 1)
      joined at x q f =
          let l : at < k = omega (arith, q, index_low) in
          record {
            kept = kept_on v.kept (kept_set b (6145 + 2 * at) x (omega (arith, l)));
            terms = take-set-le 2048 b (6145 + 2 * at) x (omega arith) ∙ v.terms;
            entries = λ p h. get_or-set_other b (6145 + 2 * at) (2048 + p) x 0 (λ e. omega (arith, e)) ∙ v.entries p h;
            groups = λ j. get_or-set_other b (6145 + 2 * at) (6144 + 2 * j) x 0 (λ e. omega (arith, e)) ∙ v.groups j;
            forms = forms-joined at x q f;
          }

pub collecting_end : {a b : List ℕ} {m k i : ℕ} → m ≤ i → Collecting a b m k i → Formed m k a b
collecting_end h v = record {
  kept = v.kept;
  terms = v.terms;
  groups = v.groups;
  forms = λ j l. forms-end h (v.forms j l);
}

-- Both as code has them: the place of the pair, and the index behind the group's number.
pub index-there : (a : List ℕ) {p : ℕ} (e : ℕ) → p ≡ place e → byte_at (get_or a p 0) (e % 4) ≡ index_of a e
index-there a e q = ap (λ (x : ℕ). byte_at (get_or a x 0) (e % 4)) q

pub number-made :
    (a : List ℕ) (j : ℕ) {p x : ℕ} → p ≡ place (group_at a j) → x ≡ with_byte (get_or a p 0) (group_at a j % 4) j
    → set (set a p x) (6144 + 2 * j + 1) 0 ≡ indexed a j
number-made a j {p} {x} q e =
    let i : 6144 + 2 * j + 1 ≡ 6145 + 2 * j = omega arith in
    ap (λ (n : ℕ). set (set a p x) n 0) i
    ∙ ap₂
    (λ (m y : ℕ). set (set a m y) (6145 + 2 * j) 0)
    q
    (e ∙ ap (λ (m : ℕ). with_byte (get_or a m 0) (group_at a j % 4) j) q)

pub forms-there : (a : List ℕ) (n : ℕ) → get_or a (6144 + 2 * n + 1) 0 ≡ forms_at a n
forms-there a n = let i : 6144 + 2 * n + 1 ≡ 6145 + 2 * n = omega arith in ap (λ (m : ℕ). get_or a m 0) i

pub form-made :
    (a : List ℕ) (e : ℕ) {n x : ℕ} → n ≡ index_of a e → Joined (get_or a (6144 + 2 * n + 1) 0) (form_number e) x
    → Collected a (set a (6144 + 2 * n + 1) x) e
form-made a e {n} {x} q f = record {
  joined = x;
  forms = subst (λ (y : ℕ). Joined y (form_number e) x) (forms-there a n ∙ ap (forms_at a) q) f;
  numbers = let i : 6144 + 2 * n + 1 ≡ 6145 + 2 * index_of a e = omega (arith, q) in ap (λ (m : ℕ). set a m x) i;
}

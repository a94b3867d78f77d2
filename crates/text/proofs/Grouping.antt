-- Things grouped by a key, the groups in order of first occurrence: they are the same things, and grouping them again changes nothing.
-- Assumes nothing.
use mathlib.Core.Path.{◌≡◌, refl, sym, ◌∙◌, ap}
use mathlib.Core.Bool.{Bool, true, false, cond, ◌||◌, true≢false, false≢true}
use mathlib.Core.List.{List, [], ◌∷◌, ◌++◌, map, append-nil}
use Rattle.text.proofs.Tests.{refuted}
use Rattle.text.specs.Lists.{any, keep, firsts, gather, is_nil}
use Rattle.text.proofs.Permuted.{Permuted, front, further, equal_permuted, append-before, moved}
use Rattle.text.proofs.All.{
  All,
  finished,
  also,
  neither-one,
  all_weaker,
  all_of,
  all_keep,
  none-all,
  keep_all,
  keep-none,
  gather-each,
  all_members,
  all_map,
}
use Rattle.text.proofs.Appended.{gather-nothing, map-gather, keep-gather}
use Rattle.text.proofs.Clashing.{clashes}
use Rattle.text.proofs.Once.{firsts-once}
use Rattle.text.proofs.Runs.{any-firsts, firsts-runs}

or_true : (a : Bool) {b : Bool} → b ≡ true → a || b ≡ true
or_true true e = refl
or_true false e = e

module _
    {A K : Type 0}
    (key : A → K)
    (same : K → K → Bool)
    (same-equal : (x y : K) → same x y ≡ true → x ≡ y)
    (same_self : (x : K) → same x x ≡ true)
  where
    abbrev «in» : K → A → Bool
    «in» k e = same k (key e)

    abbrev block : List A → K → List A
    block l k = keep («in» k) l

    abbrev keys : List A → List K
    keys l = firsts same (map key l)

    abbrev pub regroup : List A → List A
    regroup l = gather (block l) (keys l)

    -- a thing has one key
    apart : (e : A) (k j : K) → «in» k e ≡ true → same k j ≡ false → «in» j e ≡ false
    apart e k j h g =
        refuted («in» j e)
        (λ i. true≢false (sym (same_self k) ∙ ap (same k) (same-equal k (key e) h ∙ sym (same-equal j (key e) i)) ∙ g))

    -- The same things.

    abbrev add : (K → List A) → A → K → List A
    add b e j = cond («in» j e) (e ∷ b j) (b j)

    add_none : (b : K → List A) (e : A) {ks : List K} → All (λ j. «in» j e ≡ false) ks → gather b ks ≡ gather (add b e) ks
    add_none b e {ks} h = gather-each b (add b e) (all_weaker (λ j f. sym (ap (λ (t : Bool). cond t (e ∷ b j) (b j)) f)) h)

    add-one :
        (b : K → List A) (e : A) (ks : List K)
        → clashes same ks ≡ false
        → any (λ j. «in» j e) ks ≡ true
        → Permuted (e ∷ gather b ks) (gather (add b e) ks)
    add-one b e [] f h = absurd (false≢true h)
    add-one b e (k ∷ ks) f h =
        let g = neither-one (any (same k) ks) (clashes same ks) f in
        by_cases («in» k e) refl g.0 h (add-one b e ks g.1)
      where
        by_cases :
            (t : Bool)
            → «in» k e ≡ t
            → any (same k) ks ≡ false
            → t || any (λ j. «in» j e) ks ≡ true
            → (any (λ j. «in» j e) ks ≡ true → Permuted (e ∷ gather b ks) (gather (add b e) ks))
            → Permuted (e ∷ (b k ++ gather b ks)) (cond t (e ∷ b k) (b k) ++ gather (add b e) ks)
        by_cases true i g h r =
            equal_permuted
            (ap (λ (m : List A). e ∷ (b k ++ m)) (add_none b e (all_weaker (λ j q. apart e k j i q) (none-all (same k) ks g))))
        by_cases false i g h r = further (moved e (b k) (gather b ks)) (append-before (b k) (r h))

    grouped :
        (ks : List K) → clashes same ks ≡ false → {l : List A} → All (λ e. any (λ j. «in» j e) ks ≡ true) l
        → Permuted l (gather (block l) ks)
    grouped ks f finished = equal_permuted (sym (gather-nothing ks))
    grouped ks f (also {x = e} {l} h r) = further (front e (grouped ks f r)) (add-one (block l) e ks f h)

    keyed-all : (l : List A) → All (λ e. any (λ j. «in» j e) (map key l) ≡ true) l
    keyed-all [] = finished
    keyed-all (x ∷ l) =
        also
        (ap (λ (t : Bool). t || any (λ j. «in» j x) (map key l)) (same_self (key x)))
        (all_weaker (λ e h. or_true (same (key x) (key e)) h) (keyed-all l))

    keyed : (l : List A) → All (λ e. any (λ j. «in» j e) (keys l) ≡ true) l
    keyed l = all_weaker (λ e h. any-firsts same same-equal (λ j. «in» j e) (map key l) ∙ h) (keyed-all l)

    pub regrouped : (l : List A) → Permuted l (regroup l)
    regrouped l = grouped (keys l) (firsts-once same (map key l)) (keyed l)

    -- The same groups.

    one_block : (b : List A) (k : K) (ks : List K) → clashes same ks ≡ false → any (same k) ks ≡ true → gather (λ j. cond (same k j) b []) ks ≡ b
    one_block b k [] f h = absurd (false≢true h)
    one_block b k (j ∷ ks) f h =
        let g = neither-one (any (same j) ks) (clashes same ks) f in
        by_cases (same k j) refl g.0 h (one_block b k ks g.1)
      where
        by_cases :
            (t : Bool)
            → same k j ≡ t
            → any (same j) ks ≡ false
            → t || any (same k) ks ≡ true
            → (any (same k) ks ≡ true → gather (λ j. cond (same k j) b []) ks ≡ b)
            → cond t b [] ++ gather (λ j. cond (same k j) b []) ks ≡ b
        by_cases true i g h r =
            ap
            (λ (m : List A). b ++ m)
            (gather-each (λ j. cond (same k j) b []) (λ j. [])
            (all_weaker
            (λ x q. ap (λ (t : Bool). cond t b []) (ap (λ (y : K). same y x) (same-equal k j i) ∙ q))
            (none-all (same j) ks g))
            ∙ gather-nothing ks)
            ∙ append-nil b
        by_cases false i g h r = r h

    blocks : (l : List A) (k j : K) → block (block l j) k ≡ cond (same k j) (block l k) []
    blocks l k j = by_cases (same k j) refl
      where
        by_cases : (t : Bool) → same k j ≡ t → block (block l j) k ≡ cond t (block l k) []
        by_cases true i =
            ap (λ (x : K). block (block l x) k) (sym (same-equal k j i))
            ∙ keep_all («in» k) (all_weaker (λ e h. h.0) (all_keep («in» k) (all_of {P = λ e. e ≡ e} (λ e. refl) l)))
        by_cases false i =
            keep-none («in» k)
            (all_weaker
            (λ e h. refuted («in» k e) (λ q. true≢false (sym h.0 ∙ apart e k j q i)))
            (all_keep («in» j) (all_of {P = λ e. e ≡ e} (λ e. refl) l)))

    pub same_block : (l : List A) (k : K) → any (same k) (keys l) ≡ true → block (regroup l) k ≡ block l k
    same_block l k h =
        keep-gather («in» k) (block l) (keys l)
        ∙ gather-each (λ j. block (block l j) k) (λ j. cond (same k j) (block l k) []) (all_of (blocks l k) (keys l))
        ∙ one_block (block l k) k (keys l) (firsts-once same (map key l)) h

    pub some_block : (l : List A) (k : K) → any (same k) (map key l) ≡ true → is_nil (map key (block l k)) ≡ false
    some_block [] k h = absurd (false≢true h)
    some_block (x ∷ l) k h = by_cases (same k (key x)) h (some_block l k)
      where
        by_cases :
            (t : Bool)
            → t || any (same k) (map key l) ≡ true
            → (any (same k) (map key l) ≡ true → is_nil (map key (block l k)) ≡ false)
            → is_nil (map key (cond t (x ∷ block l k) (block l k))) ≡ false
        by_cases true h r = refl
        by_cases false h r = r h

    pub same_keys : (l : List A) → keys (regroup l) ≡ keys l
    same_keys l =
        ap (firsts same) (map-gather key (block l) (keys l))
        ∙ firsts-runs same same-equal same_self (λ k. map key (block l k)) (firsts-once same (map key l))
        (all_members same same_self (keys l)
        (λ k h. (
          some_block l k (sym (any-firsts same same-equal (same k) (map key l)) ∙ h),
          all_map key (λ e g. same-equal k (key e) g.0) (all_keep («in» k) (all_of {P = λ e. e ≡ e} (λ e. refl) l)),
        )))

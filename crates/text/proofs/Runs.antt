-- First occurrences where equal ones stand together: each run leaves one.
-- Assumes nothing.
use mathlib.Core.Path.{◌≡◌, refl, sym, ◌∙◌, ap, subst}
use mathlib.Core.Bool.{Bool, true, false, cond, not, ◌||◌, true≢false}
use mathlib.Core.List.{List, [], ◌∷◌, ◌++◌}
use Rattle.text.specs.Lists.{any, keep, firsts, gather, is_nil}
use Rattle.text.proofs.All.{All, finished, also, neither-one, all_weaker, all_of, all_keep, none-all, keep_all}
use Rattle.text.proofs.Clashing.{clashes}

module _ {K : Type 0} (same : K → K → Bool) (same-equal : (x y : K) → same x y ≡ true → x ≡ y) where
  -- A test that equal ones pass alike is passed by a first occurrence, if it is passed.
  keep-others :
      (p : K → Bool) (x : K) → p x ≡ false → (l : List K) → any p (keep (λ y. not (same x y)) l) ≡ any p l
  keep-others p x e [] = refl
  keep-others p x e (y ∷ l) = by_cases (same x y) refl (keep-others p x e l)
    where
      by_cases :
          (t : Bool) → same x y ≡ t → any p (keep (λ y. not (same x y)) l) ≡ any p l
          → any p (cond (not t) (y ∷ keep (λ y. not (same x y)) l) (keep (λ y. not (same x y)) l)) ≡ p y || any p l
      by_cases true i r = r ∙ ap (λ (t : Bool). t || any p l) (sym e ∙ ap p (same-equal x y i))
      by_cases false i r = ap (λ (t : Bool). p y || t) r

  pub any-firsts : (p : K → Bool) (l : List K) → any p (firsts same l) ≡ any p l
  any-firsts p [] = refl
  any-firsts p (x ∷ l) = by_cases (p x) refl (any-firsts p l)
    where
      by_cases : (t : Bool) → p x ≡ t → any p (firsts same l) ≡ any p l → t || any p (keep (λ y. not (same x y)) (firsts same l)) ≡ t || any p l
      by_cases true e r = refl
      by_cases false e r = keep-others p x e (firsts same l) ∙ r

  module _ (same_self : (x : K) → same x x ≡ true) where
    keep-twice : (x : K) (l : List K) → keep (λ y. not (same x y)) (keep (λ y. not (same x y)) l) ≡ keep (λ y. not (same x y)) l
    keep-twice x l =
        keep_all (λ y. not (same x y))
        (all_weaker (λ y h. h.0) (all_keep (λ y. not (same x y)) (all_of {P = λ y. y ≡ y} (λ y. refl) l)))

    repeats-go :
        (k : K) (r : List K) {m : List K} → All (λ x. k ≡ x) m
        → keep (λ y. not (same k y)) (firsts same (m ++ r)) ≡ keep (λ y. not (same k y)) (firsts same r)
    repeats-go k r finished = refl
    repeats-go k r (also {l = m} e h) =
        subst
        (λ (y : K). keep (λ z. not (same k z)) (firsts same (y ∷ (m ++ r))) ≡ keep (λ z. not (same k z)) (firsts same r))
        e
        (ap
        (λ (t : Bool).
        cond (not t)
        (k ∷ keep (λ z. not (same k z)) (keep (λ z. not (same k z)) (firsts same (m ++ r))))
        (keep (λ z. not (same k z)) (keep (λ z. not (same k z)) (firsts same (m ++ r)))))
        (same_self k)
        ∙ keep-twice k (firsts same (m ++ r))
        ∙ repeats-go k r h)

    one-run :
        (k : K) (ks r : List K) (m : List K)
        → is_nil m ≡ false
        → All (λ x. k ≡ x) m
        → any (same k) ks ≡ false
        → firsts same r ≡ ks
        → firsts same (m ++ r) ≡ k ∷ ks
    one-run k ks r [] n h f e = absurd (true≢false n)
    one-run k ks r (x ∷ m) n (also g h) f e =
        subst
        (λ (y : K). firsts same (y ∷ (m ++ r)) ≡ k ∷ ks)
        g
        (ap
        (λ (l : List K). k ∷ l)
        (repeats-go k r h
        ∙ ap (keep (λ y. not (same k y))) e
        ∙ keep_all (λ y. not (same k y)) (all_weaker (λ y q. ap not q) (none-all (same k) ks f))))

    -- Runs of equal ones, in the order of the list.
    pub firsts-runs :
        (b : K → List K) {ks : List K} → clashes same ks ≡ false
        → All (λ k. (is_nil (b k) ≡ false) × All (λ x. k ≡ x) (b k)) ks
        → firsts same (gather b ks) ≡ ks
    firsts-runs b f finished = refl
    firsts-runs b f (also {x = k} {l = ks} h r) =
        let g = neither-one (any (same k) ks) (clashes same ks) f in
        one-run k ks (gather b ks) (b k) h.0 h.1 g.0 (firsts-runs b g.1 r)

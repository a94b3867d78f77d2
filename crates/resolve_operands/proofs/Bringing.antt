-- What the loop over a source's list keeps: what its entries brought so far is held, and what is picked are their indexes.
-- Assumes nothing.
use mathlib.Core.Path.{◌≡◌, refl, sym, ◌∙◌, ap}
use mathlib.Core.List.{List, [], ◌∷◌, ◌++◌, append-nil, append_assoc}
use mathlib.Core.Option.{some, none}
use Prim.Native.Nat.{ℕ, zero, suc, ◌+◌, ◌-◌, ◌≤◌, ◌<◌}
use native.Mathlib.Numerals.{add-one}
use native.Mathlib.Omega.{arith}
use lib.ListN.{length, take}
use Rattle.reading.specs.Answer.{accepted, refused}
use Rattle.text.specs.Lists.{place_in, same_bytes}
use Rattle.resolving.specs.Faults.{unknown_name}
use Rattle.resolving.specs.Operands.{held}
use Rattle.resolve_symbols.specs.Brings.{brought_by}
use Rattle.resolve_operands.specs.Picked.{with_index, Picked}
use Rattle.resolve_operands.proofs.Holding.{held-one-more, held-missing, picked_of}

module _ (f : ℕ → List (List ℕ)) where
  -- what the first so many bring is what fewer of them bring, and more
  record Later (i n : ℕ) : Type 0 where
    more : List (List ℕ)
    are : brought_by f n ≡ brought_by f i ++ more

  later : (k i n : ℕ) → n ≡ k + i → Later i n
  unfolding brought_by
  later zero i n e =
      let q : n ≡ i = omega (arith, e) in
      record { more = []; are = ap (brought_by f) q ∙ sym (append-nil (brought_by f i)) }
  later (suc k) i n e =
      let q : n ≡ suc (k + i) = omega (arith, e) in
      let r = later k i (k + i) refl in
      record {
        more = r.more ++ f (k + i);
        are =
            ap (brought_by f) q
            ∙ ap (λ (l : List (List ℕ)). l ++ f (k + i)) r.are
            ∙ append_assoc (brought_by f i) r.more (f (k + i));
      }

  one_later : (i : ℕ) → brought_by f (i + 1) ≡ brought_by f i ++ f i
  unfolding brought_by
  one_later i = ap (brought_by f) (add-one i)

module _ (list : List (List ℕ)) (f : ℕ → List (List ℕ)) where
  -- so many indexes stand in the array, and are those of what the first so many entries brought
  pub record HeldSoFar (is : List ℕ) (n i : ℕ) : Type 0 where
    pub size : length is ≡ 64
    pub few : n ≤ 64
    pub most : n ≤ i
    pub so_far : held list (accepted (brought_by f i)) ≡ accepted (take n is)

  pub brings-none : (is : List ℕ) → length is ≡ 64 → HeldSoFar is 0 0
  unfolding brought_by
  brings-none is e = record { size = e; few = omega arith; most = omega arith; so_far = refl }

  module _ (is : List ℕ) (n i : ℕ) (g : HeldSoFar is n i) where
    pub brings-pair :
        (js : List ℕ) (m : ℕ) (w : List ℕ) (j : ℕ)
        → f i ≡ w ∷ []
        → place_in (same_bytes w) list ≡ some j
        → length js ≡ 64
        → take m js ≡ with_index (take n is) j
        → m ≤ n + 1
        → n < 64
        → HeldSoFar js m (i + 1)
    brings-pair js m w j e h v k l room =
        record {
          size = v;
          few = omega (arith, l, room);
          most = omega (arith, g.most, l);
          so_far =
              ap (λ (vs : List (List ℕ)). held list (accepted vs))
              (one_later f i ∙ ap (λ (l : List (List ℕ)). brought_by f i ++ l) e)
              ∙ held-one-more list (brought_by f i) (take n is) g.so_far w j h
              ∙ ap accepted (sym k);
        }

    pub brings-nothing : f i ≡ [] → HeldSoFar is n (i + 1)
    brings-nothing e =
        record {
          size = g.size;
          few = g.few;
          most = omega (arith, g.most);
          so_far =
              ap (λ (vs : List (List ℕ)). held list (accepted vs))
              (one_later f i ∙ ap (λ (l : List (List ℕ)). brought_by f i ++ l) e ∙ append-nil (brought_by f i))
              ∙ g.so_far;
        }

    pub brings-missing : (w : List ℕ) (m : ℕ) → i < m → f i ≡ w ∷ [] → place_in (same_bytes w) list ≡ none
        → held list (accepted (brought_by f m)) ≡ refused unknown_name 0
    brings-missing w m h e q =
        let z : m ≡ (m - (i + 1)) + (i + 1) = omega (arith, h) in
        let r = later f (m - (i + 1)) (i + 1) m z in
        ap (λ (vs : List (List ℕ)). held list (accepted vs))
        (r.are
        ∙ ap (λ (l : List (List ℕ)). l ++ r.more) (one_later f i ∙ ap (λ (l : List (List ℕ)). brought_by f i ++ l) e)
        ∙ append_assoc (brought_by f i) (w ∷ []) r.more)
        ∙ held-missing list (brought_by f i) (take n is) g.so_far w r.more q

    pub brings-end : (m k : ℕ) → i ≡ m → length list ≡ k → Picked k (held list (accepted (brought_by f m))) is n
    brings-end m k e many =
        picked_of list (brought_by f m) k is n many g.size g.few
        (ap (λ (j : ℕ). held list (accepted (brought_by f j))) (sym e) ∙ g.so_far)

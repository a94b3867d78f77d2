-- Lists: the first i of ps unpacked, and the rest of ys. One more of them is one element set, and they are as many as ys.
-- Assumes nothing.
use Rattle.std.proofs.Common.{◌≡◌, ◌∙◌, ap, refl, ℕ, zero, suc, ◌≤◌, ◌<◌, List, [], ◌∷◌, ◌++◌, map, length, take, drop, get_or, set, length-append, length-drop, arith}
use lib.ListN.{length-map}
use lib.Seq.{length-take-le}
use native.Mathlib.Nat.{not-suc-le-zero, le_of_suc-le-suc}

module _ {X : Type 0} (u : ℕ → X) where
  abbrev pub stored : List ℕ → List X → ℕ → List X
  stored ps ys i = map u (take i ps) ++ drop i ys

  pub one_more :
      (ps : List ℕ) (ys : List X) (i : ℕ)
      → i < length ps
      → i < length ys
      → set (stored ps ys i) i (u (get_or ps i 0)) ≡ stored ps ys (suc i)
  one_more [] ys i lp ly = absurd (not-suc-le-zero lp)
  one_more (p ∷ ps) [] i lp ly = absurd (not-suc-le-zero ly)
  one_more (p ∷ ps) (y ∷ ys) zero lp ly = refl
  one_more (p ∷ ps) (y ∷ ys) (suc i) lp ly = ap (λ l. u p ∷ l) (one_more ps ys i (le_of_suc-le-suc lp) (le_of_suc-le-suc ly))

  pub same_length : (ps : List ℕ) (ys : List X) (i : ℕ) → i ≤ length ps → i ≤ length ys → length (stored ps ys i) ≡ length ys
  same_length ps ys i lp ly =
      let a : length (map u (take i ps)) ≡ i = length-map (take i ps) u ∙ length-take-le i ps lp in
      omega (arith, length-append (map u (take i ps)) (drop i ys), length-drop i ys)

-- The number of arguments: as many as a form counts, so that each number of arguments that a feature takes has its law, and so has every
-- other number.
-- Assumes nothing.
use mathlib.Core.Path.{◌≡◌, refl}
use mathlib.Core.List.{List, ◌∷◌}
use mathlib.Core.Option.{Option, some, none}
use mathlib.Core.Bool.{cond}
use mathlib.Core.Logic.{◌⊎◌, inl, inr}
use Prim.Native.Nat.{ℕ, zero, suc, ◌-◌, ◌≤◌, ◌<◌}
use native.Mathlib.Omega.{arith}
use lib.Dec.{eqb}
use lib.ListN.{take, replicate}
use borrow.Author.Tests.{ne_eqb}
use Rattle.reading.specs.Statement.{Name}
use Rattle.reading.specs.Answer.{Answer, wrong_number}
use Rattle.reading.specs.Argument.{Arg, star}
use Rattle.reading.specs.Feature.{one, one_or_two, two, three_or_four}
use Rattle.read_forms.specs.declared.Args.{Args}
use Rattle.read_forms.specs.Forms.{arg_in, args_in}
use Rattle.read_features.specs.Answers.{second_in, fourth_in}

-- the first so many of four arguments and more
module _ (a b c d : Arg) where
  abbrev these : ℕ → List Arg
  these n = take n (a ∷ b ∷ c ∷ d ∷ replicate (n - 4) (star 0))

  module _ {A : Type 0} (k : Name) where
    one-other : (n : ℕ) (f : Arg → Answer A) → (n ≡ 1 → ⊥) → one k (these n) f ≡ wrong_number k.place
    one-other zero f h = refl
    one-other (suc zero) f h = absurd (h refl)
    one-other (suc (suc n)) f h = refl

    two-other : (n : ℕ) (f : Arg → Arg → Answer A) → (n ≡ 2 → ⊥) → two k (these n) f ≡ wrong_number k.place
    two-other zero f h = refl
    two-other (suc zero) f h = refl
    two-other (suc (suc zero)) f h = absurd (h refl)
    two-other (suc (suc (suc n))) f h = refl

    one_or_two-above : (n : ℕ) (f : Arg → Option Arg → Answer A) → 2 < n → one_or_two k (these n) f ≡ wrong_number k.place
    one_or_two-above zero f h = absurd (omega arith)
    one_or_two-above (suc zero) f h = absurd (omega arith)
    one_or_two-above (suc (suc zero)) f h = absurd (omega arith)
    one_or_two-above (suc (suc (suc n))) f h = refl

    one_or_two-of :
        (n : ℕ) (f : Arg → Option Arg → Answer A)
        → (n ≡ 0 → ⊥)
        → n ≤ 2
        → one_or_two k (these n) f ≡ f a (cond (eqb n 1) none (some b))
    one_or_two-of zero f h l = absurd (h refl)
    one_or_two-of (suc zero) f h l = refl
    one_or_two-of (suc (suc zero)) f h l = refl
    one_or_two-of (suc (suc (suc n))) f h l = absurd (omega arith)

    three_or_four-below : (n : ℕ) (f : Arg → Arg → Arg → Option Arg → Answer A) → n < 3 → three_or_four k (these n) f ≡ wrong_number k.place
    three_or_four-below zero f h = refl
    three_or_four-below (suc zero) f h = refl
    three_or_four-below (suc (suc zero)) f h = refl
    three_or_four-below (suc (suc (suc n))) f h = absurd (omega arith)

    three_or_four-above : (n : ℕ) (f : Arg → Arg → Arg → Option Arg → Answer A) → 4 < n → three_or_four k (these n) f ≡ wrong_number k.place
    three_or_four-above zero f h = absurd (omega arith)
    three_or_four-above (suc zero) f h = absurd (omega arith)
    three_or_four-above (suc (suc zero)) f h = absurd (omega arith)
    three_or_four-above (suc (suc (suc zero))) f h = absurd (omega arith)
    three_or_four-above (suc (suc (suc (suc zero)))) f h = absurd (omega arith)
    three_or_four-above (suc (suc (suc (suc (suc n))))) f h =
        let e : suc (suc (suc (suc (suc n)))) - 4 ≡ suc n = omega arith in
        rw e

    three_or_four-of :
        (n : ℕ) (f : Arg → Arg → Arg → Option Arg → Answer A)
        → 3 ≤ n
        → n ≤ 4
        → three_or_four k (these n) f ≡ f a b c (cond (eqb n 3) none (some d))
    three_or_four-of zero f h l = absurd (omega arith)
    three_or_four-of (suc zero) f h l = absurd (omega arith)
    three_or_four-of (suc (suc zero)) f h l = absurd (omega arith)
    three_or_four-of (suc (suc (suc zero))) f h l = refl
    three_or_four-of (suc (suc (suc (suc zero)))) f h l = refl
    three_or_four-of (suc (suc (suc (suc (suc n))))) f h l = absurd (omega arith)

-- the same of the arguments of a form
module _ (xs : Args) where
  module _ {A : Type 0} where
    pub one-is : xs.count ≡ 1 → (s : List ℕ) (k : Name) (f : Arg → Answer A) → one k (args_in s xs) f ≡ f (arg_in s xs.first)
    unfolding args_in
    one-is h s k f = rw h

    pub one-not : (xs.count ≡ 1 → ⊥) → (s : List ℕ) (k : Name) (f : Arg → Answer A) → one k (args_in s xs) f ≡ wrong_number k.place
    unfolding args_in
    one-not h s k f = one-other _ _ _ _ k xs.count f h

    pub two_is :
        xs.count ≡ 2
        → (s : List ℕ) (k : Name) (f : Arg → Arg → Answer A)
        → two k (args_in s xs) f ≡ f (arg_in s xs.first) (arg_in s xs.second)
    unfolding args_in
    two_is h s k f = rw h

    pub two-not : (xs.count ≡ 2 → ⊥) → (s : List ℕ) (k : Name) (f : Arg → Arg → Answer A) → two k (args_in s xs) f ≡ wrong_number k.place
    unfolding args_in
    two-not h s k f = two-other _ _ _ _ k xs.count f h

    pub one_or_two-not :
        (xs.count ≡ 0) ⊎ (2 < xs.count)
        → (s : List ℕ) (k : Name) (f : Arg → Option Arg → Answer A)
        → one_or_two k (args_in s xs) f ≡ wrong_number k.place
    unfolding args_in
    one_or_two-not (inl h) s k f = rw h
    one_or_two-not (inr h) s k f = one_or_two-above _ _ _ _ k xs.count f h

    pub one_or_two-is :
        (xs.count ≡ 0 → ⊥)
        → xs.count ≤ 2
        → (s : List ℕ) (k : Name) (f : Arg → Option Arg → Answer A)
        → one_or_two k (args_in s xs) f ≡ f (arg_in s xs.first) (second_in s xs)
    unfolding args_in second_in
    one_or_two-is h l s k f = one_or_two-of _ _ _ _ k xs.count f h l

    pub three_or_four-not :
        (xs.count < 3) ⊎ (4 < xs.count)
        → (s : List ℕ) (k : Name) (f : Arg → Arg → Arg → Option Arg → Answer A)
        → three_or_four k (args_in s xs) f ≡ wrong_number k.place
    unfolding args_in
    three_or_four-not (inl h) s k f = three_or_four-below _ _ _ _ k xs.count f h
    three_or_four-not (inr h) s k f = three_or_four-above _ _ _ _ k xs.count f h

    pub three_or_four-is :
        3 ≤ xs.count
        → xs.count ≤ 4
        → (s : List ℕ) (k : Name) (f : Arg → Arg → Arg → Option Arg → Answer A)
        → three_or_four k (args_in s xs) f ≡ f (arg_in s xs.first) (arg_in s xs.second) (arg_in s xs.third) (fourth_in s xs)
    unfolding args_in fourth_in
    three_or_four-is h l s k f = three_or_four-of _ _ _ _ k xs.count f h l

  -- an argument that may be left out
  pub second_none : xs.count ≡ 1 → (s : List ℕ) → second_in s xs ≡ none
  unfolding second_in
  second_none h s = rw h

  pub second_some : (xs.count ≡ 1 → ⊥) → (s : List ℕ) → second_in s xs ≡ some (arg_in s xs.second)
  unfolding second_in
  second_some h s = rw (ne_eqb xs.count 1 h)

  pub fourth-none : xs.count ≡ 3 → (s : List ℕ) → fourth_in s xs ≡ none
  unfolding fourth_in
  fourth-none h s = rw h

  pub fourth_some : (xs.count ≡ 3 → ⊥) → (s : List ℕ) → fourth_in s xs ≡ some (arg_in s xs.fourth)
  unfolding fourth_in
  fourth_some h s = rw (ne_eqb xs.count 3 h)

-- Comparisons of fields together are comparisons of each.
-- Assumes nothing.
use Prim.Native.Nat.{ℕ, ◌+◌, ◌*◌, ◌/◌, ◌%◌, ◌-◌, ◌<◌}
use native.Mathlib.Omega.{arith}
use mathlib.Core.Path.{◌≡◌, refl, sym, ◌∙◌, ap, ap₂}
use mathlib.Core.Bool.{Bool, true, false, ◌&&◌}
use lib.Dec.{eqb}
use borrow.Author.Tests.{eq-eqb, ne_eqb, eqb-true, eqb-false}
use Rattle.resolving.specs.Merging.{same_pair, same_form, same_effect, is_mandatory}
use Rattle.resolve_merging.specs.Packing.{effect_of, bare, pair_of, group_number}

-- two tests in one
pub both_eqb : (a b c d e f : ℕ) → (a ≡ b → c ≡ d → e ≡ f) → (e ≡ f → (a ≡ b) × (c ≡ d)) → eqb a b && eqb c d ≡ eqb e f
both_eqb a b c d e f h g = by_cases (eqb a b) refl (eqb c d) refl
  where
    by_cases : (s : Bool) → eqb a b ≡ s → (t : Bool) → eqb c d ≡ t → s && t ≡ eqb e f
    by_cases true x true y = sym (eq-eqb e f (h (eqb-true a b x) (eqb-true c d y)))
    by_cases true x false y = sym (ne_eqb e f (λ q. eqb-false c d y (g q).1))
    by_cases false x t y = sym (ne_eqb e f (λ q. eqb-false a b x (g q).0))

pub same_eqb : (a b c d : ℕ) → (a ≡ b → c ≡ d) → (c ≡ d → a ≡ b) → eqb a b ≡ eqb c d
same_eqb a b c d h g = by_cases (eqb a b) refl
  where
    by_cases : (t : Bool) → eqb a b ≡ t → t ≡ eqb c d
    by_cases true e = sym (eq-eqb c d (h (eqb-true a b e)))
    by_cases false e = sym (ne_eqb c d (λ q. eqb-false a b e (g q)))

pub other_way : (a b : ℕ) → eqb a b ≡ eqb b a
other_way a b = same_eqb a b b a sym sym

-- two digits in one number
pub by_2 : (a b c d : ℕ) → c < 2 → d < 2 → eqb a b && eqb c d ≡ eqb (a * 2 + c) (b * 2 + d)
by_2 a b c d h g = both_eqb a b c d (a * 2 + c) (b * 2 + d) (λ x y. omega arith) (λ e. (omega arith, omega arith))

by_32 : (a b c d : ℕ) → c < 32 → d < 32 → eqb a b && eqb c d ≡ eqb (a * 32 + c) (b * 32 + d)
by_32 a b c d h g = both_eqb a b c d (a * 32 + c) (b * 32 + d) (λ x y. omega arith) (λ e. (omega arith, omega arith))

by_64 : (a b c d : ℕ) → c < 64 → d < 64 → eqb a b && eqb c d ≡ eqb (a * 64 + c) (b * 64 + d)
by_64 a b c d h g = both_eqb a b c d (a * 64 + c) (b * 64 + d) (λ x y. omega arith) (λ e. (omega arith, omega arith))

and_assoc : (a b c : Bool) → (a && b) && c ≡ a && (b && c)
and_assoc true b c = refl
and_assoc false b c = refl

module _ (u : ℕ) where
  pair_digits : u / 2048 % 64 * 64 + u / 32 % 64 ≡ u / 32 % 4096
  pair_digits = omega arith

  form_digits : u / 4 % 8 * 2 + u / 2 % 2 ≡ u / 2 % 16
  form_digits = omega arith

  low_digits : u / 2 % 16 * 2 + u % 2 ≡ u % 32
  low_digits = omega arith

  effect_digits : u / 32 % 4096 * 32 + u % 32 ≡ u % 131072
  effect_digits = omega arith

module _ (u w : ℕ) where
  pub pair_eqb : same_pair (effect_of u) (effect_of w) ≡ eqb (pair_of u) (pair_of w)
  pair_eqb =
      by_64 (u / 2048 % 64) (w / 2048 % 64) (u / 32 % 64) (w / 32 % 64) (omega arith) (omega arith)
      ∙ ap₂ eqb (pair_digits u) (pair_digits w)

  form_eqb : eqb (u / 4 % 8) (w / 4 % 8) && eqb (u / 2 % 2) (w / 2 % 2) ≡ eqb (u / 2 % 16) (w / 2 % 16)
  form_eqb = by_2 (u / 4 % 8) (w / 4 % 8) (u / 2 % 2) (w / 2 % 2) (omega arith) (omega arith) ∙ ap₂ eqb (form_digits u) (form_digits w)

  -- an effect is its pair and the five bits below
  pub bare_eqb : eqb (pair_of u) (pair_of w) && eqb (u % 32) (w % 32) ≡ eqb (bare u) (bare w)
  bare_eqb = by_32 (pair_of u) (pair_of w) (u % 32) (w % 32) (omega arith) (omega arith) ∙ ap₂ eqb (effect_digits u) (effect_digits w)

  -- a group is its pair and the two bits of operator and optional mark
  pub group_eqb : eqb (pair_of u) (pair_of w) && eqb (u % 4) (w % 4) ≡ eqb (group_number u) (group_number w)
  group_eqb = by_32 (pair_of u) (pair_of w) (u % 4) (w % 4) (omega arith) (omega arith)

  pub effect_eqb : same_effect (effect_of u) (effect_of w) ≡ eqb (bare u) (bare w)
  effect_eqb =
      ap₂ (λ (s t : Bool). s && t && eqb (u % 2) (w % 2)) pair_eqb form_eqb
      ∙ and_assoc (eqb (pair_of u) (pair_of w)) (eqb (u / 2 % 16) (w / 2 % 16)) (eqb (u % 2) (w % 2))
      ∙ ap
      (λ (t : Bool). eqb (pair_of u) (pair_of w) && t)
      (by_2 (u / 2 % 16) (w / 2 % 16) (u % 2) (w % 2) (omega arith) (omega arith) ∙ ap₂ eqb (low_digits u) (low_digits w))
      ∙ bare_eqb

  -- a mandatory one of the form, where the other is optional
  pub mandatory_eqb :
      (w % 2 ≡ 0 → ⊥)
      → is_mandatory (effect_of u) && same_form (effect_of w) (effect_of u)
      ≡ eqb (pair_of u) (pair_of w) && (eqb (u % 2) 0 && eqb (w % 32 - 1) (u % 32))
  mandatory_eqb o =
      ap₂ (λ (s t : Bool). eqb (u % 2) 0 && (s && t)) pair form
      ∙ by_cases (eqb (u % 2) 0) refl (eqb (pair_of u) (pair_of w))
    where
      pair : same_pair (effect_of w) (effect_of u) ≡ eqb (pair_of u) (pair_of w)
      pair =
          by_64 (w / 2048 % 64) (u / 2048 % 64) (w / 32 % 64) (u / 32 % 64) (omega arith) (omega arith)
          ∙ ap₂ eqb (pair_digits w) (pair_digits u)
          ∙ other_way (pair_of w) (pair_of u)

      form : eqb (w / 4 % 8) (u / 4 % 8) && eqb (w / 2 % 2) (u / 2 % 2) ≡ eqb (w / 2 % 16) (u / 2 % 16)
      form = by_2 (w / 4 % 8) (u / 4 % 8) (w / 2 % 2) (u / 2 % 2) (omega arith) (omega arith) ∙ ap₂ eqb (form_digits w) (form_digits u)

      lower : u % 2 ≡ 0 → eqb (w / 2 % 16) (u / 2 % 16) ≡ eqb (w % 32 - 1) (u % 32)
      lower e =
          let d : w / 2 % 16 * 2 + w % 2 ≡ w % 32 = low_digits w in
          let c : u / 2 % 16 * 2 + u % 2 ≡ u % 32 = low_digits u in
          let m : w % 2 < 2 = omega arith in
          numbers (w / 2 % 16) (u / 2 % 16) (w % 32) (u % 32) (w % 2) d (rw e at c) o m
        where
          numbers : (x y p q r : ℕ) → x * 2 + r ≡ p → y * 2 + 0 ≡ q → (r ≡ 0 → ⊥) → r < 2 → eqb x y ≡ eqb (p - 1) q
          numbers x y p q r d c o m = same_eqb x y (p - 1) q (λ z. omega (arith, d, c, o, m, z)) (λ z. omega (arith, d, c, o, m, z))

      by_cases : (t : Bool) → eqb (u % 2) 0 ≡ t → (s : Bool)
          → t && (s && eqb (w / 2 % 16) (u / 2 % 16)) ≡ s && (t && eqb (w % 32 - 1) (u % 32))
      by_cases true e true = lower (eqb-true (u % 2) 0 e)
      by_cases true e false = refl
      by_cases false e true = refl
      by_cases false e false = refl

-- the number of an effect has the effect
pub bare-effect : (w : ℕ) → effect_of (bare w) ≡ effect_of w
bare-effect w = made (bare w) w (omega arith) (omega arith) (omega arith) (omega arith) (omega arith)
  where
    made :
        (u w : ℕ) → u / 2048 % 64 ≡ w / 2048 % 64 → u / 32 % 64 ≡ w / 32 % 64 → u / 4 % 8 ≡ w / 4 % 8 → u / 2 % 2 ≡ w / 2 % 2 → u % 2 ≡ w % 2
        → effect_of u ≡ effect_of w
    made u w a b c d e =
        ap (λ (x : ℕ). record { parameter = x; covariate = u / 32 % 64; form = u / 4 % 8; operator = u / 2 % 2; optional = u % 2 }) a
        ∙ ap (λ (x : ℕ). record { parameter = w / 2048 % 64; covariate = x; form = u / 4 % 8; operator = u / 2 % 2; optional = u % 2 }) b
        ∙ ap (λ (x : ℕ). record { parameter = w / 2048 % 64; covariate = w / 32 % 64; form = x; operator = u / 2 % 2; optional = u % 2 }) c
        ∙ ap (λ (x : ℕ). record { parameter = w / 2048 % 64; covariate = w / 32 % 64; form = w / 4 % 8; operator = x; optional = u % 2 }) d
        ∙ ap (λ (x : ℕ). record { parameter = w / 2048 % 64; covariate = w / 32 % 64; form = w / 4 % 8; operator = w / 2 % 2; optional = x }) e

pub bare_twice : (w : ℕ) → bare (bare w) ≡ bare w
bare_twice w = omega arith

-- A set in one number: a number is in it after it was put in, and no other is by that. The same of four bytes in one number.
-- Assumes nothing.
use Prim.Native.Nat.{ℕ, zero, suc, ◌+◌, ◌*◌, ◌/◌, ◌%◌, ◌^◌, ◌≤◌, ◌<◌}
use native.Mathlib.Nat.{mul_assoc, mul_comm}
use native.Mathlib.Omega.{arith}
use mathlib.Core.Path.{◌≡◌, refl, sym, ◌∙◌, ap}
use mathlib.Core.Bool.{Bool, true, false, cond, ◌||◌}
use borrow.Author.Tests.{eq-eqb, ne_eqb, eqb-true, eqb-false}
use lib.Dec.{eqb}
use lib.Pow.{shr-shr, shl_exact, pow-add}
use Rattle.resolve_merging.specs.Flags.{flagged, with_flag, byte_at, with_byte}

-- a bit, by halves
abbrev bit : ℕ → ℕ → ℕ
bit n zero = n % 2
bit n (suc k) = bit (n / 2) k

bit_shifted : (n k : ℕ) → n / 2 ^ k % 2 ≡ bit n k
bit_shifted n zero = omega arith
bit_shifted n (suc k) = ap (λ (m : ℕ). m % 2) (shifted n k) ∙ bit_shifted (n / 2) k
  where
    shifted : (n k : ℕ) → n / 2 ^ suc k ≡ n / 2 / 2 ^ k
    shifted n k = let e : 1 + k ≡ suc k = omega arith in sym (rw e at (shr-shr n 1 k))

-- one bit more, where it is 0
bit_own : (n k : ℕ) → bit n k ≡ 0 → bit (n + 2 ^ k) k ≡ 1
bit_own n zero e = omega arith
bit_own n (suc k) e = let h : (n + 2 ^ suc k) / 2 ≡ n / 2 + 2 ^ k = omega arith in rw h (bit_own (n / 2) k e)

bit_other : (n k j : ℕ) → bit n k ≡ 0 → (j ≡ k → ⊥) → bit (n + 2 ^ k) j ≡ bit n j
bit_other n zero zero e d = absurd (d refl)
bit_other n zero (suc j) e d = let h : (n + 1) / 2 ≡ n / 2 = omega arith in rw h
bit_other n (suc k) zero e d = omega arith
bit_other n (suc k) (suc j) e d =
    let h : (n + 2 ^ suc k) / 2 ≡ n / 2 + 2 ^ k = omega arith in rw h (bit_other (n / 2) k j e (λ q. d (ap suc q)))

bit_below : (n k b : ℕ) → n < 2 ^ b → k < b → bit n k ≡ 0 → n + 2 ^ k < 2 ^ b
bit_below n k zero h l e = absurd (omega arith)
bit_below n zero (suc b) h l e = omega arith
bit_below n (suc k) (suc b) h l e = let r = bit_below (n / 2) k b (omega arith) (omega arith) e in omega (arith, r)

not_set : (n k : ℕ) → flagged n k ≡ false → bit n k ≡ 0
not_set n k f =
    let d : n / 2 ^ k % 2 ≡ 1 → ⊥ = eqb-false (n / 2 ^ k % 2) 1 f in
    let m : n / 2 ^ k % 2 < 2 = omega arith in
    omega (arith, d, bit_shifted n k, m)

pub flag_fits : (n k : ℕ) → n < 4294967296 → k < 32 → flagged n k ≡ false → n + 2 ^ k < 4294967296
flag_fits n k h l f = bit_below n k 32 h l (not_set n k f)

pub flag_put : (n k j : ℕ) → flagged (with_flag n k) j ≡ eqb j k || flagged n j
flag_put n k j = by_cases (flagged n k) refl (eqb j k) refl
  where
    by_cases : (s : Bool) → flagged n k ≡ s → (t : Bool) → eqb j k ≡ t → flagged (cond s n (n + 2 ^ k)) j ≡ t || flagged n j
    by_cases true f true e = ap (flagged n) (eqb-true j k e) ∙ f
    by_cases true f false e = refl
    by_cases false f true e =
        ap (flagged (n + 2 ^ k)) (eqb-true j k e) ∙ eq-eqb _ 1 (bit_shifted (n + 2 ^ k) k ∙ bit_own n k (not_set n k f))
    by_cases false f false e =
        ap (λ (b : ℕ). eqb b 1)
        (bit_shifted (n + 2 ^ k) j ∙ bit_other n k j (not_set n k f) (eqb-false j k e) ∙ sym (bit_shifted n j))

pub no_flag : (k : ℕ) → flagged 0 k ≡ false
no_flag k = ne_eqb (0 / 2 ^ k % 2) 1 (λ q. zero≢one (sym (bit-zero k) ∙ sym (bit_shifted 0 k) ∙ q))
  where
    bit-zero : (k : ℕ) → bit 0 k ≡ 0
    bit-zero zero = refl
    bit-zero (suc k) = bit-zero k

    zero≢one : ◌≡◌ {A = ℕ} 0 1 → ⊥
    zero≢one q = omega arith

-- `1 << k`, which the machine has as a product cut to 32 bits
pub bit_of : (k : ℕ) → k < 32 → 1 * 2 ^ k % 2 ^ 32 ≡ 2 ^ k
bit_of k h = let few : 1 + k ≤ 32 = omega arith in shl_exact 1 k 32 (omega arith) few ∙ (omega arith)

-- a byte, by parts of 256; and one put at its place
abbrev byte : ℕ → ℕ → ℕ
byte n zero = n % 256
byte n (suc k) = byte (n / 256) k

abbrev raised : ℕ → ℕ → ℕ
raised x zero = x
raised x (suc k) = 256 * raised x k

eight_more : (k : ℕ) → 8 * suc k ≡ 8 + 8 * k
eight_more k = omega arith

byte_shifted : (n k : ℕ) → byte_at n k ≡ byte n k
byte_shifted n zero = omega arith
byte_shifted n (suc k) =
    ap (λ (j : ℕ). n / 2 ^ j % 256) (eight_more k) ∙ ap (λ (m : ℕ). m % 256) (sym (shr-shr n 8 (8 * k))) ∙ byte_shifted (n / 256) k

raised_shifted : (x k : ℕ) → x * 2 ^ (8 * k) ≡ raised x k
raised_shifted x zero = omega arith
raised_shifted x (suc k) =
    ap (λ (j : ℕ). x * 2 ^ j) (eight_more k)
    ∙ ap (λ (j : ℕ). x * j) (pow-add 2 8 (8 * k))
    ∙ sym (mul_assoc x 256 (2 ^ (8 * k)))
    ∙ ap (λ (j : ℕ). j * 2 ^ (8 * k)) (mul_comm x 256)
    ∙ mul_assoc 256 x (2 ^ (8 * k))
    ∙ ap (λ (j : ℕ). 256 * j) (raised_shifted x k)

byte_own : (n k x : ℕ) → byte n k ≡ 0 → x < 256 → byte (n + raised x k) k ≡ x
byte_own n zero x e h = omega arith
byte_own n (suc k) x e h =
    let q : (n + 256 * raised x k) / 256 ≡ n / 256 + raised x k = omega arith in rw q (byte_own (n / 256) k x e h)

byte_other : (n k x j : ℕ) → byte n k ≡ 0 → x < 256 → (j ≡ k → ⊥) → byte (n + raised x k) j ≡ byte n j
byte_other n zero x zero e h d = absurd (d refl)
byte_other n zero x (suc j) e h d = let q : (n + x) / 256 ≡ n / 256 = omega arith in rw q
byte_other n (suc k) x zero e h d = omega arith
byte_other n (suc k) x (suc j) e h d =
    let q : (n + 256 * raised x k) / 256 ≡ n / 256 + raised x k = omega arith in
    rw q (byte_other (n / 256) k x j e h (λ i. d (ap suc i)))

byte_below : (n k x b : ℕ) → n < 256 ^ b → k < b → byte n k ≡ 0 → x < 256 → n + raised x k < 256 ^ b
byte_below n k x zero h l e g = absurd (omega arith)
byte_below n zero x (suc b) h l e g = omega arith
byte_below n (suc k) x (suc b) h l e g = let r = byte_below (n / 256) k x b (omega arith) (omega arith) e g in omega (arith, r)

pub byte_put : (n k x j : ℕ) → byte_at n k ≡ 0 → x < 256 → byte_at (with_byte n k x) j ≡ cond (eqb j k) x (byte_at n j)
byte_put n k x j e h =
    byte_shifted (n + x * 2 ^ (8 * k)) j
    ∙ ap (λ (y : ℕ). byte (n + y) j) (raised_shifted x k)
    ∙ by_cases (eqb j k) refl
  where
    by_cases : (t : Bool) → eqb j k ≡ t → byte (n + raised x k) j ≡ cond t x (byte_at n j)
    by_cases true q = ap (byte (n + raised x k)) (eqb-true j k q) ∙ byte_own n k x (sym (byte_shifted n k) ∙ e) h
    by_cases false q = byte_other n k x j (sym (byte_shifted n k) ∙ e) h (eqb-false j k q) ∙ sym (byte_shifted n j)

pub no_byte : (k : ℕ) → byte_at 0 k ≡ 0
no_byte k = byte_shifted 0 k ∙ byte-zero k
  where
    byte-zero : (k : ℕ) → byte 0 k ≡ 0
    byte-zero zero = refl
    byte-zero (suc k) = byte-zero k

-- as the machine has it
module _ (n k x : ℕ) (l : k < 4) (g : x < 256) where
  pub byte_of : x * 2 ^ (8 * k) % 2 ^ 32 ≡ x * 2 ^ (8 * k)
  byte_of = let few : 8 + 8 * k ≤ 32 = omega arith in shl_exact 8 (8 * k) 32 g few

  pub byte_fits : n < 4294967296 → byte_at n k ≡ 0 → n + x * 2 ^ (8 * k) < 4294967296
  byte_fits h e = rw (raised_shifted x k) (byte_below n k x 4 h l (sym (byte_shifted n k) ∙ e) g)

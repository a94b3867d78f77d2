-- Writing bytes, or elements of any type, into a buffer: one run after another is one run, a buffer keeps its length, and where there is room the bytes stand there.
-- Assumes nothing.
use mathlib.Core.Path.{◌≡◌, refl, ◌∙◌, ap, sym, subst}
use mathlib.Core.List.{List, [], ◌∷◌, ◌++◌}
use Prim.Native.Nat.{ℕ, zero, suc, ◌+◌, ◌≤◌, ◌<◌}
use native.Mathlib.Nat.{le_of_lt, le_of_suc-le-suc, not-suc-le-zero, add-zero, zero-add, suc-add}
use native.Mathlib.Numerals.{add-one}
use native.Mathlib.Omega.{arith}
use lib.ListN.{length, take, drop, get_or, set, length-append}
use lib.Seq.{take-suc, length-take-le}
use Rattle.print_writing.specs.Written.{patch, Room, Written}

module _ {A : Type 0} where
  pub patch-none : (at : ℕ) (xs : List A) → patch at xs [] ≡ xs
  unfolding patch
  patch-none at [] = refl
  patch-none zero (x ∷ xs) = refl
  patch-none (suc at) (x ∷ xs) = ap (λ l. x ∷ l) (patch-none at xs)

  -- no room, nothing written
  pub patch-empty : (at : ℕ) (bs : List A) → patch at [] bs ≡ []
  unfolding patch
  patch-empty at bs = refl

  pub patch-past : (at : ℕ) (xs bs : List A) → length xs ≤ at → patch at xs bs ≡ xs
  unfolding patch
  patch-past at [] bs h = refl
  patch-past zero (x ∷ xs) bs h = absurd (not-suc-le-zero h)
  patch-past (suc at) (x ∷ xs) bs h = ap (λ l. x ∷ l) (patch-past at xs bs (le_of_suc-le-suc h))

  -- one byte is one element set, which past the end changes nothing
  pub patch-one : (at : ℕ) (xs : List A) (b : A) → patch at xs (b ∷ []) ≡ set xs at b
  unfolding patch
  patch-one at [] b = refl
  patch-one zero (x ∷ xs) b = ap (λ l. b ∷ l) (patch-none zero xs)
  patch-one (suc at) (x ∷ xs) b = ap (λ l. x ∷ l) (patch-one at xs b)

  pub length-patch : (at : ℕ) (xs bs : List A) → length (patch at xs bs) ≡ length xs
  unfolding patch
  length-patch at [] bs = refl
  length-patch zero (x ∷ xs) [] = refl
  length-patch zero (x ∷ xs) (b ∷ bs) = ap suc (length-patch zero xs bs)
  length-patch (suc at) (x ∷ xs) bs = ap suc (length-patch at xs bs)

  -- writing on behind what was written
  pub patch-more : (at : ℕ) (xs bs cs : List A) → patch (at + length bs) (patch at xs bs) cs ≡ patch at xs (bs ++ cs)
  unfolding patch
  patch-more at [] bs cs = refl
  patch-more zero (x ∷ xs) [] cs = refl
  patch-more zero (x ∷ xs) (b ∷ bs) cs =
      rw (zero-add (suc (length bs))) (ap (λ l. b ∷ l) (rw (zero-add (length bs)) at (patch-more zero xs bs cs)))
  patch-more (suc at) (x ∷ xs) bs cs = rw (suc-add at (length bs)) (ap (λ l. x ∷ l) (patch-more at xs bs cs))

  -- a buffer with room for the bytes has them in front
  pub patch_front : (xs bs : List A) → length bs ≤ length xs → patch 0 xs bs ≡ bs ++ drop (length bs) xs
  unfolding patch
  patch_front [] [] h = refl
  patch_front [] (b ∷ bs) h = absurd (not-suc-le-zero h)
  patch_front (x ∷ xs) [] h = refl
  patch_front (x ∷ xs) (b ∷ bs) h = ap (λ l. b ∷ l) (patch_front xs bs (le_of_suc-le-suc h))

  pub nothing_written : (xs : List A) (at : ℕ) → Written xs at [] xs at
  nothing_written xs at = record { next = sym (add-zero at); bytes = sym (patch-none at xs) }

  pub written_on :
      {a b c bs cs : List A} {at m n : ℕ} → Written a at bs b m → Written b m cs c n → Written a at (bs ++ cs) c n
  written_on {a} {b} {c} {bs} {cs} {at} {m} {n} v w = record {
    next = omega (arith, v.next, w.next, length-append bs cs);
    bytes =
        w.bytes
        ∙ ap (λ (k : ℕ). patch k b cs) v.next
        ∙ ap (λ (xs : List A). patch (at + length bs) xs cs) v.bytes
        ∙ patch-more at a bs cs;
  }

  -- one byte, where there is no room for it and where there is
  pub one-past : (xs : List A) (at : ℕ) (b : A) → length xs ≤ at → Written xs at (b ∷ []) xs (at + 1)
  one-past xs at b h = record { next = refl; bytes = sym (patch-past at xs (b ∷ []) h) }

  pub one_set : (xs : List A) (at : ℕ) (b : A) → Written xs at (b ∷ []) (set xs at b) (at + 1)
  one_set xs at b = record { next = refl; bytes = sym (patch-one at xs b) }

  -- one more element of a list
  pub written_next :
      {a b c : List A} {at m n : ℕ} (bs : List A) (i : ℕ) (x : A)
      → x ≡ get_or bs i x
      → i < length bs
      → Written a at (take i bs) b m
      → Written b m (x ∷ []) c n
      → Written a at (take (i + 1) bs) c n
  written_next bs i x e h v w = rw (add-one, take-suc bs i x, sym e) (written_on v w)

  -- and so is one element set, behind the first elements of a list
  pub patch-next :
      {b : List A} (at : ℕ) (a bs : List A) (i : ℕ) (x : A)
      → x ≡ get_or bs i x
      → i < length bs
      → b ≡ patch at a (take i bs)
      → set b (at + i) x ≡ patch at a (take (i + 1) bs)
  patch-next {b} at a bs i x q h e =
      let first : Written a at (take i bs) b (at + i) = record { next = ap (λ (n : ℕ). at + n) (sym (length-take-le i bs (le_of_lt h))); bytes = e } in
      (written_next bs i x q h first (one_set b (at + i) x)).bytes

  pub same-room : {a b bs : List A} {at r : ℕ} → Written a at bs b r → length b ≡ length a
  same-room {a} {b} {bs} {at} w = ap length w.bytes ∙ length-patch at a bs

  pub room-same : (at : ℕ) {bs cs : List A} → bs ≡ cs → Room at bs → Room at cs
  room-same at e r = subst (Room at) e r

  pub room-before : (at : ℕ) (bs cs : List A) → Room at (bs ++ cs) → Room at bs
  room-before at bs cs h = omega (arith, length-append bs cs)

  pub room-behind : (at : ℕ) (bs cs : List A) → Room at (bs ++ cs) → Room (at + length bs) cs
  room-behind at bs cs h = omega (arith, length-append bs cs)

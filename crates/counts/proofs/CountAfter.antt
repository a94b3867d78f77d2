-- What is left of a text, after a value that was read before it, as a count under a limit: what a reader of the text keeps equal
-- from byte to byte. Assumes nothing.
use Rattle.std.specs.Prelude.{Option, Some, None}
use Prim.Native.Nat.{ℕ, ◌+◌, ◌-◌, ◌*◌, ◌≤◌, ◌<◌}
use Prim.Native.Char.{code}
use native.Mathlib.Numerals.{add-one}
use native.Mathlib.Omega.{arith}
use mathlib.Core.Bool.{true, false, cond, ◌&&◌, and-false}
use mathlib.Core.List.{List, [], ◌∷◌}
use mathlib.Core.Path.{◌≡◌, refl}
use lib.Dec.{leb}
use lib.ListN.{length, get_or, drop, drop_of_length-le}
use lib.Seq.{drop-cons}
use borrow.Author.Tests.{le-leb, lt-leb}
use Rattle.text.specs.Bytes.{every}
use Rattle.counts.specs.Count.{is_digit, value_after, count_of}
use Rattle.counts.proofs.Digits.{le-value_after}

unfoldable pub count_after : ℕ → ℕ → List ℕ → Option ℕ
count_after limit n ds =
    cond
    (every is_digit ds && leb (value_after n ds) 4294967295 && leb (value_after n ds) limit)
    (Some (value_after n ds))
    None

pub count_of-empty : (limit : ℕ) (ds : List ℕ) → length ds ≡ 0 → count_of limit ds ≡ None
unfolding count_of
count_of-empty limit [] h = refl
count_of-empty limit (d ∷ ds) h = absurd (omega arith)

pub count_after_start : (limit : ℕ) (ds : List ℕ) → (length ds ≡ 0 → ⊥) → count_after limit 0 ds ≡ count_of limit ds
unfolding count_after count_of
count_after_start limit [] h = absurd (h refl)
count_after_start limit (d ∷ ds) h = refl

pub count_after_digit : (limit n i : ℕ) (ds : List ℕ) → i < length ds → is_digit (get_or ds i 0) ≡ true
    → count_after limit n (drop i ds) ≡ count_after limit (n * 10 + (get_or ds i 0 - code "0")) (drop (i + 1) ds)
unfolding count_after
count_after_digit limit n i ds h t = rw (add-one, drop-cons ds i 0, t)

pub count_after_other : (limit n i : ℕ) (ds : List ℕ) → i < length ds → is_digit (get_or ds i 0) ≡ false
    → count_after limit n (drop i ds) ≡ None
unfolding count_after
count_after_other limit n i ds h t = rw (drop-cons ds i 0, t)

pub count_after_above : (limit n : ℕ) (ds : List ℕ) → limit < n → count_after limit n ds ≡ None
unfolding count_after
count_after_above limit n ds h =
    let above : limit < value_after n ds = omega (arith, le-value_after n ds) in
    rw (lt-leb (value_after n ds) limit above, and-false)

pub count_after_end : (limit n i : ℕ) (ds : List ℕ) → length ds ≤ i → n ≤ limit → limit < 4294967296
    → count_after limit n (drop i ds) ≡ Some n
unfolding count_after
count_after_end limit n i ds l h b =
    let fits : n ≤ 4294967295 = omega arith in
    rw (drop_of_length-le ds l, le-leb n 4294967295 fits, le-leb n limit h)

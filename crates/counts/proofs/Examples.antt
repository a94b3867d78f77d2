-- The definitions at texts of a model file. Assumes nothing.
use Rattle.std.specs.Prelude.{Some, None}
use mathlib.Core.Path.{◌≡◌, refl}
use Rattle.text.specs.Bytes.{bytes}
use Rattle.counts.specs.Count.{count_of}
use Rattle.counts.specs.Decimal.{digits_in, digits_of}

-- leading zeros do not count, however many
leading_zeros : count_of 64 (bytes "0000000000064") ≡ Some 64
unfolding count_of
leading_zeros = refl

above_limit : count_of 64 (bytes "65") ≡ None
unfolding count_of
above_limit = refl

decimal_point : count_of 64 (bytes "6.4") ≡ None
unfolding count_of
decimal_point = refl

beyond_32_bits : count_of 4294967296 (bytes "4294967296") ≡ None
unfolding count_of
beyond_32_bits = refl

printed-zero : digits_of 0 ≡ bytes "0"
unfolding digits_of digits_in
printed-zero = refl

printed : digits_of 256 ≡ bytes "256"
unfolding digits_of digits_in
printed = refl

printed_largest : digits_of 4294967295 ≡ bytes "4294967295"
unfolding digits_of digits_in
printed_largest = refl

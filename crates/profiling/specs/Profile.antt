-- Document 02, P2, The PK-only house profile: "A profile check accepts a text when it has no DIRECTEFFECT, EFFECTCOMP, INDIRECTEFFECT or
-- METABOLITE, at most one statement each of ABSORPTION, ELIMINATION, PERIPHERALS, TRANSITS and LAGTIME, and no count above 10."
use Rattle.std.specs.Prelude.{ℕ, suc, Bool, true, false, cond, List, [], ◌∷◌, map, eqb, ltb}
use Rattle.reading.specs.Statement.{
  Counts,
  count,
  range,
  counts,
  TransitCounts,
  estimated,
  counted,
  Feature,
  Absorption,
  Elimination,
  Peripherals,
  Transits,
  Lagtime,
  Covariate,
  Allometry,
  DirectEffect,
  EffectComp,
  IndirectEffect,
  Metabolite,
  Iiv,
  Iov,
  Covariance,
  Statement,
  Let,
  feature,
}
use Rattle.reading.specs.Answer.{Answer, accepted, refused_if, ◌>>=◌}
use Rattle.reading.specs.Read.{read_text}
use Rattle.text.specs.Lists.{any}

-- "no count above 10": the highest count of a range is its right end, and N is none
abbrev pub is_high : ℕ → Bool
is_high v = ltb 10 v

abbrev pub high_counts : Counts → Bool
high_counts (count v) = is_high v
high_counts (range a b) = is_high b
high_counts (counts vs) = any is_high vs

abbrev pub high_transits : TransitCounts → Bool
high_transits estimated = false
high_transits (counted c) = high_counts c

-- What a statement is to the profile: of a feature outside it; of one of the five that may stand once, which one, and whether it has a
-- count above 10; or any other, which may stand as often as it likes and has no count.
pub data Mark : Type 0 where
  outside plain : Mark
  once : ℕ → Bool → Mark

abbrev pub feature_mark : Feature → Mark
feature_mark (Absorption ms) = once 0 false
feature_mark (Elimination ms) = once 1 false
feature_mark (Peripherals c ms) = once 2 (high_counts c)
feature_mark (Transits c ms) = once 3 (high_transits c)
feature_mark (Lagtime ms) = once 4 false
feature_mark (Covariate o ps cs es op) = plain
feature_mark (Allometry c r) = plain
feature_mark (DirectEffect ms) = outside
feature_mark (EffectComp ms) = outside
feature_mark (IndirectEffect ms ps) = outside
feature_mark (Metabolite ms) = outside
feature_mark (Iiv o ps es) = plain
feature_mark (Iov o ps es) = plain
feature_mark (Covariance o ls ps) = plain

abbrev pub mark_of : Statement → Mark
mark_of (Let n is) = plain
mark_of (feature f) = feature_mark f

abbrev pub is_outside : Mark → Bool
is_outside outside = true
is_outside plain = false
is_outside (once k h) = false

-- a statement of this one of the five
abbrev pub is_of : ℕ → Mark → Bool
is_of k outside = false
is_of k plain = false
is_of k (once j h) = eqb k j

-- a statement of one of the five of which one came before
abbrev pub is_second : List Mark → Mark → Bool
is_second seen outside = false
is_second seen plain = false
is_second seen (once k h) = any (is_of k) seen

abbrev pub has_high : Mark → Bool
has_high outside = false
has_high plain = false
has_high (once k h) = h

-- The faults of the profile by their numbers: "22: a feature outside the profile; 23: a second statement of one of the five; 24: a count
-- above 10".
abbrev pub outside_profile : ℕ
outside_profile = 22

abbrev pub second_statement : ℕ
second_statement = 23

abbrev pub count_above_ten : ℕ
count_above_ten = 24

abbrev pub Yes : Type 0
Yes = Unit {0}

-- ".. each at its statement index, .. first statement first, and in this order within one": of statements of which the first has this index,
-- after those that came before, last first.
unfoldable pub profile_from : ℕ → List Mark → List Mark → Answer Yes
profile_from i seen [] = accepted tt
profile_from i seen (m ∷ ms) =
    refused_if (is_outside m) outside_profile i
    (refused_if (is_second seen m) second_statement i
    (refused_if (has_high m) count_above_ten i
    (profile_from (suc i) (m ∷ seen) ms)))

unfoldable pub profile_of : List Statement → Answer Yes
profile_of ss = profile_from 0 [] (map mark_of ss)

-- ".. after all reading faults". "This check .. take a ceiling too".
unfoldable pub profile_text : ℕ → List ℕ → Answer Yes
profile_text ceiling text = read_text ceiling text >>= profile_of

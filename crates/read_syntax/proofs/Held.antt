-- Arguments that are held: one more, and what a feature makes of them.
-- Assumes nothing.
use mathlib.Core.Path.{◌≡◌, refl, ◌∙◌, sym}
use mathlib.Core.Bool.{Bool, true, false}
use mathlib.Core.List.{List, [], ◌∷◌, ◌++◌}
use mathlib.Core.Option.{Option, some, none}
use Prim.Native.Nat.{ℕ, suc, ◌+◌, ◌-◌}
use native.Mathlib.Omega.{arith}
use borrow.Author.Tests.{eq-eqb, ne_eqb}
use lib.Dec.{eqb}
use lib.ListN.{length, length-append, take, replicate}
use Rattle.reading.specs.Statement.{Name}
use Rattle.reading.specs.Answer.{wrong_number}
use Rattle.reading.specs.Argument as argument
use Rattle.reading.specs.Feature.{
  Keyword,
  ABSORPTION,
  ELIMINATION,
  PERIPHERALS,
  TRANSITS,
  LAGTIME,
  COVARIATE,
  ALLOMETRY,
  DIRECTEFFECT,
  EFFECTCOMP,
  INDIRECTEFFECT,
  METABOLITE,
  IIV,
  IOV,
  COVARIANCE,
  keyword_of,
  feature_of,
  known_feature,
  build_feature,
}
use Rattle.read_forms.specs.declared.Arg.{Arg}
use Rattle.read_forms.specs.declared.Arg.TheVariants.{Star}
use Rattle.read_forms.specs.declared.Args.{Args}
use Rattle.read_forms.specs.Forms.{arg_in, args_in}
use Rattle.read_forms.specs.Fits.{Fits, AllFit}

abbrev pub args_of : ℕ → Arg → Arg → Arg → Arg → Args
args_of n a b c d = record { count = n; first = a; second = b; third = c; fourth = d }

abbrev pub no_args : Args
no_args = args_of 0 (Star 0) (Star 0) (Star 0) (Star 0)

-- one argument more in its place, by whether there are none, one, two or three before it
unfoldable pub added_at : Bool → Bool → Bool → Bool → Args → Arg → Args
added_at true b c d xs a = args_of (xs.count + 1) a xs.second xs.third xs.fourth
added_at false true c d xs a = args_of (xs.count + 1) xs.first a xs.third xs.fourth
added_at false false true d xs a = args_of (xs.count + 1) xs.first xs.second a xs.fourth
added_at false false false true xs a = args_of (xs.count + 1) xs.first xs.second xs.third a
added_at false false false false xs a = args_of (xs.count + 1) xs.first xs.second xs.third xs.fourth

abbrev pub added : Args → Arg → Args
added xs a = added_at (eqb xs.count 0) (eqb xs.count 1) (eqb xs.count 2) (eqb xs.count 3) xs a

-- the arguments that are held are these: all of them up to the fourth, and their number
unfoldable pub Holds : List ℕ → Args → List argument.Arg → Type 0
Holds s xs [] = xs.count ≡ 0
Holds s xs (a ∷ []) = (xs.count ≡ 1) × (arg_in s xs.first ≡ a)
Holds s xs (a ∷ b ∷ []) = (xs.count ≡ 2) × (arg_in s xs.first ≡ a) × (arg_in s xs.second ≡ b)
Holds s xs (a ∷ b ∷ c ∷ []) =
    (xs.count ≡ 3) × (arg_in s xs.first ≡ a) × (arg_in s xs.second ≡ b) × (arg_in s xs.third ≡ c)
Holds s xs (a ∷ b ∷ c ∷ d ∷ []) =
    (xs.count ≡ 4)
    × (arg_in s xs.first ≡ a)
    × (arg_in s xs.second ≡ b)
    × (arg_in s xs.third ≡ c)
    × (arg_in s xs.fourth ≡ d)
Holds s xs (a ∷ b ∷ c ∷ d ∷ e ∷ es) = xs.count ≡ 5 + length es

pub none-held : (s : List ℕ) → Holds s no_args []
unfolding Holds
none-held s = refl

pub none-fit : (s : List ℕ) → AllFit s no_args
unfolding Fits
none-fit s = record { first = tt; second = tt; third = tt; fourth = tt }

count_at : (a b c d : Bool) (xs : Args) (x : Arg) → (added_at a b c d xs x).count ≡ xs.count + 1
unfolding added_at
count_at true b c d xs x = refl
count_at false true c d xs x = refl
count_at false false true d xs x = refl
count_at false false false true xs x = refl
count_at false false false false xs x = refl

pub added-count : (xs : Args) (x : Arg) → (added xs x).count ≡ xs.count + 1
added-count xs x = count_at _ _ _ _ xs x

fit_at : (s : List ℕ) (a b c d : Bool) (xs : Args) (x : Arg) → AllFit s xs → Fits s x → AllFit s (added_at a b c d xs x)
unfolding added_at
fit_at s true b c d xs x f g = record { first = g; second = f.second; third = f.third; fourth = f.fourth }
fit_at s false true c d xs x f g = record { first = f.first; second = g; third = f.third; fourth = f.fourth }
fit_at s false false true d xs x f g = record { first = f.first; second = f.second; third = g; fourth = f.fourth }
fit_at s false false false true xs x f g = record { first = f.first; second = f.second; third = f.third; fourth = g }
fit_at s false false false false xs x f g = record { first = f.first; second = f.second; third = f.third; fourth = f.fourth }

pub added-fit : (s : List ℕ) (xs : Args) (x : Arg) → AllFit s xs → Fits s x → AllFit s (added xs x)
added-fit s xs x f g = fit_at s _ _ _ _ xs x f g

-- one argument more is held behind those that are
pub added-held : (s : List ℕ) (xs : Args) (x : Arg) (ys : List argument.Arg) → Holds s xs ys → Holds s (added xs x) (ys ++ arg_in s x ∷ [])
unfolding Holds added_at
added-held s xs x [] h = simp (eq-eqb xs.count 0 h) (omega (arith, h), refl)
added-held s xs x (a ∷ []) h =
    simp (ne_eqb xs.count 0 (λ q. omega (arith, h.0)), eq-eqb xs.count 1 h.0) (omega (arith, h.0), h.1, refl)
added-held s xs x (a ∷ b ∷ []) h =
    simp (ne_eqb xs.count 0 (λ q. omega (arith, h.0)), ne_eqb xs.count 1 (λ q. omega (arith, h.0)), eq-eqb xs.count 2 h.0)
    (omega (arith, h.0), h.1, h.2, refl)
added-held s xs x (a ∷ b ∷ c ∷ []) h =
    simp (
      ne_eqb xs.count 0 (λ q. omega (arith, h.0)),
      ne_eqb xs.count 1 (λ q. omega (arith, h.0)),
      ne_eqb xs.count 2 (λ q. omega (arith, h.0)),
      eq-eqb xs.count 3 h.0,
    )
    (omega (arith, h.0), h.1, h.2, h.3, refl)
added-held s xs x (a ∷ b ∷ c ∷ d ∷ []) h = added-count xs x ∙ omega (arith, h.0)
added-held s xs x (a ∷ b ∷ c ∷ d ∷ e ∷ es) h = added-count xs x ∙ omega (arith, h, length-append es (arg_in s x ∷ []))

-- no feature takes five arguments
too_many :
    (limit : ℕ) (w : Keyword) (k : Name) (m : Bool) (a b c d e : argument.Arg) (es : List argument.Arg)
    → feature_of limit w k m (a ∷ b ∷ c ∷ d ∷ e ∷ es) ≡ wrong_number k.place
unfolding feature_of
too_many limit ABSORPTION k m a b c d e es = refl
too_many limit ELIMINATION k m a b c d e es = refl
too_many limit PERIPHERALS k m a b c d e es = refl
too_many limit TRANSITS k m a b c d e es = refl
too_many limit LAGTIME k m a b c d e es = refl
too_many limit COVARIATE k m a b c d e es = refl
too_many limit ALLOMETRY k m a b c d e es = refl
too_many limit DIRECTEFFECT k m a b c d e es = refl
too_many limit EFFECTCOMP k m a b c d e es = refl
too_many limit INDIRECTEFFECT k m a b c d e es = refl
too_many limit METABOLITE k m a b c d e es = refl
too_many limit IIV k m a b c d e es = refl
too_many limit IOV k m a b c d e es = refl
too_many limit COVARIANCE k m a b c d e es = refl

-- so what comes after the fourth does not matter
past_four :
    (limit : ℕ) (o : Option Keyword) (k : Name) (m : Bool) (a b c d e a' b' c' d' e' : argument.Arg) (es es' : List argument.Arg)
    → known_feature limit o k m (a ∷ b ∷ c ∷ d ∷ e ∷ es) ≡ known_feature limit o k m (a' ∷ b' ∷ c' ∷ d' ∷ e' ∷ es')
past_four limit none k m a b c d e a' b' c' d' e' es es' = refl
past_four limit (some w) k m a b c d e a' b' c' d' e' es es' =
    too_many limit w k m a b c d e es ∙ sym (too_many limit w k m a' b' c' d' e' es')

-- a feature makes the same of what is held as of the arguments themselves
pub held_build :
    (limit : ℕ) (s : List ℕ) (xs : Args) (k : Name) (m : Bool) (ys : List argument.Arg)
    → Holds s xs ys
    → build_feature limit k m ys ≡ build_feature limit k m (args_in s xs)
unfolding Holds args_in build_feature
held_build limit s xs k m [] h = simp h
held_build limit s xs k m (a ∷ []) h = simp (h.0, h.1)
held_build limit s xs k m (a ∷ b ∷ []) h = simp (h.0, h.1, h.2)
held_build limit s xs k m (a ∷ b ∷ c ∷ []) h = simp (h.0, h.1, h.2, h.3)
held_build limit s xs k m (a ∷ b ∷ c ∷ d ∷ []) h = simp (h.0, h.1, h.2, h.3, h.4)
held_build limit s xs k m (a ∷ b ∷ c ∷ d ∷ e ∷ es) h =
    let n : xs.count ≡ suc (suc (suc (suc (suc (length es))))) = omega (arith, h) in
    let r : suc (suc (suc (suc (suc (length es))))) - 4 ≡ suc (length es) = omega arith in
    simp (n, r) (past_four limit (keyword_of k.spelling) k m a b c d e _ _ _ _ (argument.star 0) es (take (length es) (replicate (length es) (argument.star 0))))

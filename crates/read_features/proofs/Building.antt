-- Features by what their arguments are, and keywords by their places.
-- Assumes nothing.
use Rattle.std.specs.Prelude.{Some, None}
use mathlib.Core.Path.{◌≡◌, refl}
use mathlib.Core.Bool.{Bool}
use mathlib.Core.List.{List, [], ◌∷◌}
use mathlib.Core.Option.{Option, some, none}
use Prim.Native.Nat.{ℕ, zero, suc, ◌≤◌, ◌<◌}
use native.Mathlib.Omega.{arith}
use native.Mathlib.Nat.{le_of_suc-le-suc}
use lib.ListN.{length, get_elem?}
use Rattle.labels.specs.declared.Family.TheVariants.{CovariateEffect, VariabilityEffect}
use Rattle.labels.specs.Word.{find}
use Rattle.labels.specs.Label.{keywords}
use Rattle.labels.specs.Table.{found_as}
use Rattle.reading.specs.Statement.{Name, Modes, Operand, Operator, Feature, Covariate}
use Rattle.reading.specs.Answer.{Answer, accepted, refused, ◌>>=◌}
use Rattle.reading.specs.Argument.{Arg, modes_of, operand_of}
use Rattle.reading.specs.Feature.{features, feature_at, keyword_of, explicit, operator_of, variability, feature_of, COVARIATE}
use Rattle.read_forms.specs.declared.Args.{Args}
use Rattle.read_forms.specs.Forms.{arg_in, args_in}
use Rattle.read_features.specs.Answers.{fourth_in, covariate_with, Eta, eta_of}
use Rattle.read_features.proofs.Arity.{three_or_four-is}

-- IIV and IOV
abbrev eta_from : Answer Operand → Answer Modes → Answer Eta
eta_from x y = x >>= λ ps. y >>= λ es. accepted (record { parameters = ps; effects = es })

pub variability_eta :
    (make : Operand → Modes → Feature) (k : Name) (args : List Arg)
    → variability make k args ≡ (eta_of k args >>= λ x. accepted (make x.parameters x.effects))
variability_eta make k [] = refl
variability_eta make k (a ∷ []) = refl
variability_eta make k (p ∷ e ∷ []) = go (operand_of p) (modes_of VariabilityEffect e)
  where
    go :
        (x : Answer Operand) (y : Answer Modes)
        → (x >>= λ ps. y >>= λ es. accepted (make ps es))
        ≡ (eta_from x y >>= λ z. accepted (make z.parameters z.effects))
    go (accepted ps) (accepted es) = refl
    go (accepted ps) (refused n o) = refl
    go (refused n o) y = refl
variability_eta make k (a ∷ b ∷ c ∷ ds) = refl

-- COVARIATE: the effects are judged before the operator
pub covariate-is :
    (m : Bool) (xs : Args)
    → 3 ≤ xs.count
    → xs.count ≤ 4
    → (s : List ℕ) (limit : ℕ) (k : Name)
    → feature_of limit COVARIATE k m (args_in s xs)
    ≡ (operand_of (arg_in s xs.first) >>= λ ps. operand_of (arg_in s xs.second) >>= λ cs. covariate_with m ps cs (arg_in s xs.third) (fourth_in s xs))
unfolding feature_of
covariate-is m xs h l s limit k =
    rw (three_or_four-is xs h l)
    (go (operand_of (arg_in s xs.first)) (operand_of (arg_in s xs.second)) (modes_of CovariateEffect (arg_in s xs.third)))
  where
    e : Arg
    e = arg_in s xs.third

    op : Answer Operator
    op = operator_of (fourth_in s xs)

    go :
        (x y : Answer Operand) (z : Answer Modes)
        → (x >>= λ ps. y >>= λ cs. z >>= λ fs. explicit m e fs >>= λ es. op >>= λ o. accepted (Covariate m ps cs es o))
        ≡ (x >>= λ ps. y >>= λ cs. z >>= explicit m e >>= λ es. op >>= λ o. accepted (Covariate m ps cs es o))
    go (accepted ps) (accepted cs) (accepted fs) = refl
    go (accepted ps) (accepted cs) (refused n o) = refl
    go (accepted ps) (refused n o) z = refl
    go (refused n o) y z = refl

-- a keyword by its place
pub keyword-found : (w : List ℕ) (i : ℕ) → Some i ≡ found_as (find w keywords) → keyword_of w ≡ get_elem? features i
unfolding keyword_of
keyword-found w i e = go (find w keywords) e
  where
    go : (o : Option ℕ) → Some i ≡ found_as o → feature_at o ≡ get_elem? features i
    go none e = cc
    go (some j) e = cc

pub keyword-none : (w : List ℕ) → None ≡ found_as (find w keywords) → keyword_of w ≡ none
unfolding keyword_of
keyword-none w e = go (find w keywords) e
  where
    go : (o : Option ℕ) → None ≡ found_as o → feature_at o ≡ none
    go none e = refl
    go (some j) e = cc

-- the last of seven places
pub place_six :
    (n : ℕ)
    → n < 7
    → (n ≡ 0 → ⊥)
    → (n ≡ 1 → ⊥)
    → (n ≡ 2 → ⊥)
    → (n ≡ 3 → ⊥)
    → (n ≡ 4 → ⊥)
    → (n ≡ 5 → ⊥)
    → n ≡ 6
place_six n h a b c d e f = omega arith

-- a place after the last
past_end : {A : Type 0} (l : List A) (n : ℕ) → length l ≤ n → get_elem? l n ≡ none
past_end [] n h = refl
past_end (a ∷ l) zero h = absurd (omega arith)
past_end (a ∷ l) (suc n) h = past_end l n (le_of_suc-le-suc h)

beyond : {n : ℕ} (m : ℕ) → m ≤ n → (n ≡ m → ⊥) → suc m ≤ n
beyond m h k = omega arith

-- no feature's place
pub place_none :
    (n : ℕ)
    → 7 ≤ n
    → (n ≡ 7 → ⊥)
    → (n ≡ 8 → ⊥)
    → (n ≡ 9 → ⊥)
    → (n ≡ 10 → ⊥)
    → (n ≡ 11 → ⊥)
    → (n ≡ 12 → ⊥)
    → (n ≡ 13 → ⊥)
    → get_elem? features n ≡ none
place_none n h a b c d e f g =
    past_end features n (beyond 13 (beyond 12 (beyond 11 (beyond 10 (beyond 9 (beyond 8 (beyond 7 h a) b) c) d) e) f) g)

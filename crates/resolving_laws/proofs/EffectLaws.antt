-- Effects are equal where their numbers are.
-- Assumes nothing.
use Prim.Native.Nat.{ℕ}
use mathlib.Core.Path.{◌≡◌, refl, sym, ap₂}
use mathlib.Core.Bool.{Bool, true, false, ◌&&◌}
use lib.Dec.{eqb}
use borrow.Author.Tests.{eqb-true, eq-eqb}
use Rattle.text.proofs.Tests.{halves, both}
use Rattle.reading.specs.Statement.{Operator, add, multiply}
use Rattle.resolving.specs.Effects.{Effect, optional_number, operator_number}
use Rattle.resolving.specs.Merging.{same_pair, same_form, same_effect, is_mandatory, forces_with}
use Rattle.resolving.specs.Ground.{Group, same_group, is_optional, operator_as}
use Rattle.text.proofs.Bools.{and_sym, equally}

pub eqb_sym : (m n : ℕ) → eqb m n ≡ eqb n m
eqb_sym m n = equally (eqb m n) (eqb n m) (λ e. eq-eqb n m (sym (eqb-true m n e))) (λ e. eq-eqb m n (sym (eqb-true n m e)))

pub pair_sym : (e f : Effect) → same_pair e f ≡ same_pair f e
pair_sym e f = ap₂ ◌&&◌ (eqb_sym e.parameter f.parameter) (eqb_sym e.covariate f.covariate)

pub effect_sym : (e f : Effect) → same_effect e f ≡ same_effect f e
effect_sym e f =
    ap₂ ◌&&◌
    (ap₂ ◌&&◌ (pair_sym e f) (ap₂ ◌&&◌ (eqb_sym e.form f.form) (eqb_sym e.operator f.operator)))
    (eqb_sym e.optional f.optional)

pub effect-equal : (e f : Effect) → same_effect e f ≡ true → e ≡ f
effect-equal e f h =
    let a = halves (same_form e f) (eqb e.optional f.optional) h in
    let b = halves (same_pair e f) (eqb e.form f.form && eqb e.operator f.operator) a.0 in
    let c = halves (eqb e.parameter f.parameter) (eqb e.covariate f.covariate) b.0 in
    let d = halves (eqb e.form f.form) (eqb e.operator f.operator) b.1 in
    λ i. record {
      parameter = eqb-true e.parameter f.parameter c.0 i;
      covariate = eqb-true e.covariate f.covariate c.1 i;
      form = eqb-true e.form f.form d.0 i;
      operator = eqb-true e.operator f.operator d.1 i;
      optional = eqb-true e.optional f.optional a.1 i;
    }

pub effect_self : (e : Effect) → same_effect e e ≡ true
effect_self e =
    both
    (both
    (both (eq-eqb e.parameter e.parameter refl) (eq-eqb e.covariate e.covariate refl))
    (both (eq-eqb e.form e.form refl) (eq-eqb e.operator e.operator refl)))
    (eq-eqb e.optional e.optional refl)

pub forces_sym : (e f : Effect) → forces_with e f ≡ forces_with f e
forces_sym e f = ap₂ ◌&&◌ (and_sym (is_mandatory e) (is_mandatory f)) (pair_sym e f)

-- Groups are equal where their numbers are.

pub group_sym : (g h : Group) → same_group g h ≡ same_group h g
group_sym g h =
    ap₂ ◌&&◌
    (ap₂ ◌&&◌ (eqb_sym g.parameter h.parameter) (eqb_sym g.covariate h.covariate))
    (ap₂ ◌&&◌ (eqb_sym g.operator h.operator) (eqb_sym g.optional h.optional))

pub group-equal : (g h : Group) → same_group g h ≡ true → g ≡ h
group-equal g h e =
    let a = halves (eqb g.parameter h.parameter && eqb g.covariate h.covariate) _ e in
    let b = halves (eqb g.parameter h.parameter) (eqb g.covariate h.covariate) a.0 in
    let c = halves (eqb g.operator h.operator) (eqb g.optional h.optional) a.1 in
    λ i. record {
      parameter = eqb-true g.parameter h.parameter b.0 i;
      covariate = eqb-true g.covariate h.covariate b.1 i;
      operator = eqb-true g.operator h.operator c.0 i;
      optional = eqb-true g.optional h.optional c.1 i;
    }

pub group_self : (g : Group) → same_group g g ≡ true
group_self g =
    both
    (both (eq-eqb g.parameter g.parameter refl) (eq-eqb g.covariate g.covariate refl))
    (both (eq-eqb g.operator g.operator refl) (eq-eqb g.optional g.optional refl))

-- Operators and marks, as numbers and back.

pub operator_back : (op : Operator) → operator_as (operator_number op) ≡ op
operator_back multiply = refl
operator_back add = refl

pub mark_back : (m : Bool) → is_optional (optional_number m) ≡ m
mark_back true = refl
mark_back false = refl

-- `resolve_features::bring_covariate` meets its contract: what the operands answered says what the COVARIATE brings.
-- Assumes nothing.
use Rattle.read_forms.specs.declared.Fault.{Fault}
use Rattle.std.proofs.lemmas.Result.{err_from_is_err_and}
use Prim.Native.Nat.{ℕ}
use mathlib.Core.Path.{◌≡◌, refl, ◌∙◌, ap, sym, subst₂}
use mathlib.Core.Bool.{Bool}
use mathlib.Core.List.{List}
use native.Mathlib.Omega.{arith}
use lib.ListN.{length, take}
use Rattle.read_forms.specs.Forms.{op_as, operand_in}
use Rattle.resolving.specs.Handed.{handed_context}
use Rattle.resolve_context.specs.declared.Layout.{Layout}
use Rattle.resolve_context.specs.Lists.{covariates_of}
use Rattle.resolve_context.proofs.Meaning.{parameters_sound, covariates_sound}
use Rattle.std.specs.Prelude as prelude
use Rattle.resolve_operands.specs.Picked.{Picked}
use Rattle.resolve_operands.specs.Entries.{EntriesAs, meaning_in}
use Rattle.resolve_terms.specs.Terms.{head_number}
use Rattle.resolve_features.specs.Terms.{CovariateAs}
use Rattle.resolve_features.proofs.Covariates.{indexes-more, head_small, Call, Found, first_of, second_of, covariate-refused, covariate-refused_2, covariate-dropped, covariate-dropped-2, covariate-against, numbers-few, covariate-termed}
use Rattle.resolve_features.proofs.Variables.{picked_many}
use Rattle.resolve_features.proofs.bring_covariate.Goals.{After-covariates_of, After-parameters_of, Else-others-eq0, Else-own-eq0, In_ok-own, In_ok-others, Start}
use Rattle.resolve_features.proofs.bring_covariate.Goals as goal

abbrev call : Start → Call
call s =
    let c = handed_context s.args.block.now s.args.lists.now in
    record {
      context = c;
      look = meaning_in s.args.text.now s.args.lets.now s.args.n c;
      optional = s.args.optional;
      parameters = operand_in s.args.text.now s.args.parameters;
      covariates = operand_in s.args.text.now s.args.covariates;
      effects = s.args.effects;
      op = op_as s.args.op;
    }

-- the arrays that were lent
abbrev lent : After-parameters_of → List ℕ
lent p = p.parameters_of.new.indexes

abbrev lent_2 : After-covariates_of → List ℕ
lent_2 v = v.covariates_of.new.indexes

-- what the operands answered, by the layout that was handed
looked : (p : After-parameters_of) {r : prelude.Result ℕ Fault} → p.parameters_of.result ≡ r
    → EntriesAs p.args.layout.parameters.count (first_of (call (goal.at.After-parameters_of p).Start)) (lent p) r
looked p e =
    subst₂ (λ (y : Layout) (x : prelude.Result ℕ Fault). EntriesAs y.parameters.count (first_of (call (goal.at.After-parameters_of p).Start)) (lent p) x) (sym p.requires.1.there) e
    p.parameters_of.ensures

abbrev top : After-covariates_of → Start
top v = (goal.at.After-covariates_of v).Start

looked_2 : (v : After-covariates_of) {r : prelude.Result ℕ Fault} → v.covariates_of.result ≡ r
    → let s = top v in EntriesAs (covariates_of s.args.layout).count (second_of (call s)) (lent_2 v) r
looked_2 v e =
    let s = top v in
    subst₂ (λ (y : Layout) (x : prelude.Result ℕ Fault). EntriesAs (covariates_of y).count (second_of (call s)) (lent_2 v) x) (sym s.requires.1.there) e
    v.covariates_of.ensures

-- the first has indexes
module _ (k : In_ok-own) where
  abbrev answered : After-parameters_of
  answered = (goal.at.In_ok-own k).After-parameters_of

  abbrev own : ℕ
  own = k.in_ok-own.own

  picked : let s = (goal.at.In_ok-own k).Start in Picked s.args.layout.parameters.count (first_of (call s)) (lent answered) own
  picked = looked answered k.in_ok-own.was

  abbrev list : List ℕ
  list = take own (lent answered)

-- and the other has
module _ (k : In_ok-others) where
  abbrev answered_2 : After-covariates_of
  answered_2 = (goal.at.In_ok-others k).After-covariates_of

  abbrev others : ℕ
  others = k.in_ok-others.others

  picked_2 : let s = top answered_2 in Picked (covariates_of s.args.layout).count (second_of (call s)) (lent_2 answered_2) others
  picked_2 = looked_2 answered_2 k.in_ok-others.was

  abbrev list_2 : List ℕ
  list_2 = take others (lent_2 answered_2)

  abbrev firstly : In_ok-own
  firstly = (goal.at.In_ok-others k).In_ok-own

  abbrev begun : Start
  begun = (goal.at.In_ok-others k).Start

  found : Found (call begun) (list firstly) list_2
  found =
      let a = begun.args in
      record {
        first = (picked firstly).found;
        second = picked_2.found;
        indexes =
            indexes-more (picked firstly).indexes (parameters_sound a.block.now a.lists.now a.layout begun.requires.1).few;
        indexes_2 = indexes-more picked_2.indexes (covariates_sound a.block.now a.lists.now a.layout begun.requires.1).few;
      }

pub parameters_of-requires : goal.parameters_of-requires
parameters_of-requires c =
    (c.requires.0, c.requires.1.is, c.requires.2, c.requires.3, refl)

pub covariates_of-requires : goal.covariates_of-requires
covariates_of-requires c =
    let s = (goal.at.covariates_of-requires c).Start in
    (s.requires.0, s.requires.1.is, s.requires.2, s.requires.4, refl)

pub returns-in_err-own : goal.returns-in_err-own
unfolding CovariateAs
returns-in_err-own c =
    let p = err_from_is_err_and c.from_residual.result c.from_residual.ensures.1 in
    rw (p.1, p.2) (covariate-refused (call (goal.at.returns-in_err-own c).Start) (looked (goal.at.returns-in_err-own c).After-parameters_of c.in_err-own.was), refl)

pub returns-in_err-others : goal.returns-in_err-others
unfolding CovariateAs
returns-in_err-others c =
    let p = err_from_is_err_and c.from_residual-in_err-others.result c.from_residual-in_err-others.ensures.1 in
    rw (p.1, p.2) (covariate-refused_2 (call (top (goal.at.returns-in_err-others c).After-covariates_of)) (picked (goal.at.returns-in_err-others c).In_ok-own).found (looked_2 (goal.at.returns-in_err-others c).After-covariates_of c.in_err-others.was), refl)

pub returns-then-own-eq0 : goal.returns-then-own-eq0
unfolding CovariateAs
returns-then-own-eq0 c =
    (covariate-dropped (found (goal.at.returns-then-own-eq0 c).In_ok-others) (picked_many (picked (firstly (goal.at.returns-then-own-eq0 c).In_ok-others)) ∙ c.if-own-eq0.true), refl)

-- there are parameters, and there are covariates
some_own : (f : Else-own-eq0) → length (list (firstly (goal.at.Else-own-eq0 f).In_ok-others)) ≡ 0 → ⊥
some_own f h = f.if-own-eq0.false (sym (picked_many (picked (firstly (goal.at.Else-own-eq0 f).In_ok-others))) ∙ h)

some_others : (g : Else-others-eq0) → length (list_2 (goal.at.Else-others-eq0 g).In_ok-others) ≡ 0 → ⊥
some_others g h = g.if-others-eq0.false (sym (picked_many (picked_2 (goal.at.Else-others-eq0 g).In_ok-others)) ∙ h)

pub returns-then-others-eq0 : goal.returns-then-others-eq0
unfolding CovariateAs
returns-then-others-eq0 c =
    (covariate-dropped-2 (found (goal.at.returns-then-others-eq0 c).In_ok-others) (some_own (goal.at.returns-then-others-eq0 c).Else-own-eq0) (picked_many (picked_2 (goal.at.returns-then-others-eq0 c).In_ok-others) ∙ c.if-others-eq0.true), refl)

pub slice_bounds-second-end : goal.slice_bounds-second-end
slice_bounds-second-end g = let q = picked_2 (goal.at.slice_bounds-second-end g).In_ok-others in omega (arith, q.few, q.size)

pub any_against-requires : goal.any_against-requires
any_against-requires c = ((begun (goal.at.any_against-requires c).In_ok-others).requires.1, (picked_2 (goal.at.any_against-requires c).In_ok-others).indexes)

pub returns-then-any_against : goal.returns-then-any_against
unfolding CovariateAs
returns-then-any_against c =
    (covariate-against (found (goal.at.returns-then-any_against c).In_ok-others) (some_own (goal.at.returns-then-any_against c).Else-own-eq0) (some_others (goal.at.returns-then-any_against c).Else-others-eq0) c.any_against.ensures c.if-any_against.true, refl)

pub slice_bounds-first-end : goal.slice_bounds-first-end
slice_bounds-first-end h = let q = picked (firstly (goal.at.slice_bounds-first-end h).In_ok-others) in omega (arith, q.few, q.size)

pub slice_bounds-second-end-2 : goal.slice_bounds-second-end-2
slice_bounds-second-end-2 c = let q = picked_2 (goal.at.slice_bounds-second-end-2 c).In_ok-others in omega (arith, q.few, q.size)

pub put_terms-requires : goal.put_terms-requires
put_terms-requires c =
    let k = (goal.at.put_terms-requires c).In_ok-others in
    let s = begun k in
    let a = s.args in
    let few = numbers-few (found k) c.head_of-head.result in (
      s.requires.1,
      (found k).indexes,
      (picked_2 k).indexes,
      omega (arith, c.head_of-head.ensures, head_small a.index c.is_named.result (op_as a.op) a.optional s.requires.6),
      omega (arith, s.requires.7, few),
    )

pub returns : goal.returns
unfolding CovariateAs
returns c =
    let s = begun (goal.at.returns c).In_ok-others in
    let a = s.args in
    covariate-termed (found (goal.at.returns c).In_ok-others) (some_own (goal.at.returns c).Else-own-eq0) (some_others (goal.at.returns c).Else-others-eq0) c.any_against.ensures c.if-any_against.false s.requires.5 a.index s.requires.6
    (c.head_of-head.ensures ∙ ap (λ (x : Bool). head_number a.index x (op_as a.op) a.optional) (c.is_named.ensures a.text.now))
    c.put_terms.ensures

pub slice_bounds-any_against-end : goal.slice_bounds-any_against-end
slice_bounds-any_against-end c = sym (picked_many (picked_2 (goal.at.slice_bounds-any_against-end c).In_ok-others))

pub head_of-head-requires : goal.head_of-head-requires
head_of-head-requires c = (begun (goal.at.head_of-head-requires c).In_ok-others).requires.6

pub slice_bounds-put_terms-end : goal.slice_bounds-put_terms-end
slice_bounds-put_terms-end c = sym (picked_many (picked (firstly (goal.at.slice_bounds-put_terms-end c).In_ok-others)))

pub slice_bounds-put_terms-end-2 : goal.slice_bounds-put_terms-end-2
slice_bounds-put_terms-end-2 c = sym (picked_many (picked_2 (goal.at.slice_bounds-put_terms-end-2 c).In_ok-others))

-- "Where a text that passes has a ground text, the ground text passes as well": its statements are some of the text's with their marks, in
-- their order, and COVARIATEs behind them.
-- Assumes nothing.
use Prim.Native.Nat.{ℕ, suc}
use mathlib.Core.Path.{◌≡◌, refl, ◌∙◌, ap, ap₂, sym, subst}
use mathlib.Core.Bool.{Bool, true, false, cond, ◌||◌}
use mathlib.Core.List.{List, [], ◌∷◌, ◌++◌, map, map-append}
use lib.Dec.{ltb}
use lib.ListN.{length}
use Rattle.text.specs.Bytes.{bytes}
use Rattle.reading.specs.Statement.{
  Feature,
  Absorption,
  Elimination,
  Peripherals,
  Transits,
  Lagtime,
  Covariate,
  Allometry,
  DirectEffect,
  EffectComp,
  IndirectEffect,
  Metabolite,
  Iiv,
  Iov,
  Covariance,
  Statement,
  Let,
  feature,
}
use Rattle.reading.specs.Answer.{Answer, accepted, refused, ◌>>=◌}
use Rattle.reading.specs.Read.{read_text}
use Rattle.canonical_laws.specs.Forgotten.{forget}
use Rattle.text.specs.Lists.{any, gather, is_nil}
use Rattle.resolving.specs.Context.{Context, covariates}
use Rattle.resolving.specs.Symbols.{Meaning, lets, look_up}
use Rattle.resolving.specs.Operands.{entry_of, parameters_of, covariates_of}
use Rattle.resolving.specs.Effects.{Effect, effects_of, against}
use Rattle.resolving.specs.Brought.{Brought, dropped, stays, brings, is_explicit, drop_if, bring_feature, bring}
use Rattle.resolving.specs.Merging.{merged}
use Rattle.resolving.specs.Ground.{Group, groups, forms_in, ground_covariate, ground_effects, staying, ground}
use Rattle.resolving.specs.Resolve.{Resolved, ground_text, resolve}
use Rattle.resolving.specs.Given.{Given, is_context, context_in, resolve_text}
use Rattle.text.proofs.All.{neither-one}
use Rattle.resolving_laws.proofs.Passed.{Each, none_asked, answered, answered_each}
use Rattle.reading.proofs.Answers.{not-refused, bind_passed}
use Rattle.resolving_laws.proofs.Settling.{resolved_as}
use Rattle.resolving_laws.proofs.Rereading.{text_reread}
use Rattle.resolving_laws.proofs.GivenReadable.{given_readable}
use Rattle.profiling.specs.Profile.{
  Mark,
  outside,
  plain,
  once,
  feature_mark,
  mark_of,
  is_of,
  is_second,
  profile_from,
  profile_of,
  profile_text,
}
use Rattle.profiling.proofs.Passing.{first-passed, first_passes}

-- Marks that are some of others, in their order, and plain ones behind them.
data Left : List Mark → List Mark → Type 0 where
  no_more : Left [] []
  kept : {m : Mark} {ms ns : List Mark} → Left ms ns → Left (m ∷ ms) (m ∷ ns)
  away : {n : Mark} {ms ns : List Mark} → Left ms ns → Left ms (n ∷ ns)
  added : {ms : List Mark} → Left ms [] → Left (plain ∷ ms) []

-- what is seen holds back no more than what was seen before
abbrev Fewer : List Mark → List Mark → Type 0
Fewer seen before = (k : ℕ) → any (is_of k) before ≡ false → any (is_of k) seen ≡ false

fewer_kept : (m : Mark) (seen before : List Mark) → Fewer seen before → Fewer (m ∷ seen) (m ∷ before)
fewer_kept m seen before f k e =
    let h = neither-one (is_of k m) (any (is_of k) before) e in
    ap₂ ◌||◌ h.0 (f k h.1)

fewer_away : (m : Mark) (seen before : List Mark) → Fewer seen before → Fewer seen (m ∷ before)
fewer_away m seen before f k e = f k (neither-one (is_of k m) (any (is_of k) before) e).1

fewer_second : (m : Mark) (seen before : List Mark) → Fewer seen before → is_second before m ≡ false → is_second seen m ≡ false
fewer_second outside seen before f e = refl
fewer_second plain seen before f e = refl
fewer_second (once k h) seen before f e = f k e

-- What is left passes where all passed.
left_passes :
    {ms ns : List Mark} → Left ms ns → (i j : ℕ) (seen before : List Mark) → Fewer seen before
    → profile_from j before ns ≡ accepted tt
    → profile_from i seen ms ≡ accepted tt
unfolding profile_from
left_passes no_more i j seen before f e = refl
left_passes (kept {m} {ms} {ns} r) i j seen before f e =
    let p = first-passed j before m ns e in
    first_passes i seen m ms
    (record {
      not-outside = p.not-outside;
      not-second = fewer_second m seen before f p.not-second;
      not_high = p.not_high;
      others = left_passes r (suc i) (suc j) (m ∷ seen) (m ∷ before) (fewer_kept m seen before f) p.others;
    })
left_passes (away {n} {ms} {ns} r) i j seen before f e =
    left_passes r i (suc j) seen (n ∷ before) (fewer_away n seen before f) (first-passed j before n ns e).others
left_passes (added {ms} r) i j seen before f e = left_passes r (suc i) j (plain ∷ seen) before (λ k h. f k h) e

-- What a statement leaves in the ground text before its COVARIATEs: nothing, or a statement of its mark.
data Stayed (m : Mark) : List Statement → Type 0 where
  gone : Stayed m []
  same : {s : Statement} → mark_of s ≡ m → Stayed m (s ∷ [])

data Leaves (m : Mark) : Answer Brought → Type 0 where
  leaves : {b : Brought} → Stayed m (staying b) → Leaves m (accepted b)
  refuses : {n p : ℕ} → Leaves m (refused n p)

leaves_bind : {A : Type 0} {m : Mark} (a : Answer A) (f : A → Answer Brought) → ((x : A) → Leaves m (f x)) → Leaves m (a >>= f)
leaves_bind (accepted x) f h = h x
leaves_bind (refused n p) f h = refuses

has_left : {m : Mark} {a : Answer Brought} {b : Brought} → Leaves m a → a ≡ accepted b → Stayed m (staying b)
has_left {m} {b = b} (leaves {b = d} h) e = let z : d ≡ b = cc in subst (λ (x : Brought). Stayed m (staying x)) z h
has_left refuses e = absurd (not-refused e)

dropped-or-left : (t : Bool) (f : Feature) → Stayed (feature_mark f) (staying (drop_if t (stays f)))
dropped-or-left true f = gone
dropped-or-left false f = same refl

covariate_gone : (s t x : Bool) (es : List Effect) (n : ℕ) {m : Mark} → Leaves m (cond s (accepted dropped) (cond t (refused n 0) (accepted (brings x es))))
covariate_gone true t x es n = leaves gone
covariate_gone false true x es n = refuses
covariate_gone false false x es n = leaves gone

module _ (c : Context) (look : Meaning) where
  feature-left : (f : Feature) → Leaves (feature_mark f) (bring_feature c look f)
  feature-left (Absorption ms) = leaves (same refl)
  feature-left (Elimination ms) = leaves (same refl)
  feature-left (Peripherals n ms) = leaves (same refl)
  feature-left (Transits n ms) = leaves (same refl)
  feature-left (Lagtime ms) = leaves (same refl)
  feature-left (Covariate m ps cs es op) =
      leaves_bind (parameters_of c look (bytes "PK") ps) _
      (λ is.
      leaves_bind (covariates_of c look cs) _
      (λ vs. covariate_gone (is_nil is || is_nil vs) (any (against c es) vs) (is_explicit ps) (effects_of c m es op is vs) 16))
  feature-left (Allometry n r) = leaves_bind (entry_of (covariates c) n.spelling) _ (λ i. leaves (same refl))
  feature-left (DirectEffect ms) = leaves (same refl)
  feature-left (EffectComp ms) = leaves (same refl)
  feature-left (IndirectEffect ms ps) = leaves (same refl)
  feature-left (Metabolite ms) = leaves (same refl)
  feature-left (Iiv m ps es) = leaves_bind (parameters_of c look (bytes "PK") ps) _ (λ is. leaves (dropped-or-left (is_nil is) _))
  feature-left (Iov m ps es) = leaves_bind (parameters_of c look (bytes "IIV") ps) _ (λ is. leaves (dropped-or-left (is_nil is) _))
  feature-left (Covariance m ls ps) =
      leaves_bind (parameters_of c look (bytes "IIV") ps) _ (λ is. leaves (dropped-or-left (ltb (length is) 2) _))

  statement-left : (s : Statement) → Leaves (mark_of s) (bring c look s)
  unfolding bring
  statement-left (Let n is) = leaves gone
  statement-left (feature f) = feature-left f

  stayed_left :
      {m : Mark} {ss : List Statement} {ns : List Mark} (ts : List Statement) → Stayed m ss → Left (map mark_of ts) ns
      → Left (map mark_of (ss ++ ts)) (m ∷ ns)
  stayed_left ts gone r = away r
  stayed_left {m} {ns = ns} ts (same e) r = subst (λ (x : Mark). Left (x ∷ map mark_of ts) (m ∷ ns)) (sym e) (kept r)

  all_left : {ss : List Statement} {bs : List Brought} → Each (bring c look) ss bs → Left (map mark_of (gather staying bs)) (map mark_of ss)
  all_left none_asked = no_more
  all_left (answered {x = s} {m = bs} h r) = stayed_left (gather staying bs) (has_left (statement-left s) h) (all_left r)

-- COVARIATEs behind them
left-plain : {ms ns : List Mark} {A : Type 0} → Left ms ns → (gs : List A) → Left (ms ++ map (λ g. plain) gs) ns
left-plain no_more [] = no_more
left-plain no_more (g ∷ gs) = added (left-plain no_more gs)
left-plain (kept r) gs = kept (left-plain r gs)
left-plain (away r) gs = away (left-plain r gs)
left-plain (added r) gs = added (left-plain r gs)

covariates-plain : (c : Context) (es : List Effect) (gs : List Group) → map mark_of (map (λ g. ground_covariate c g (forms_in es g)) gs) ≡ map (λ g. plain) gs
covariates-plain c es [] = refl
covariates-plain c es (g ∷ gs) = ap (λ (l : List Mark). plain ∷ l) (covariates-plain c es gs)

ground-left :
    (c : Context) (bs : List Brought) (es : List Effect) {ns : List Mark} → Left (map mark_of (gather staying bs)) ns
    → Left (map mark_of (ground c bs es)) ns
unfolding ground
ground-left c bs es {ns} r =
    subst
    (λ (l : List Mark). Left l ns)
    (sym
    (map-append mark_of (gather staying bs) (ground_effects c es)
    ∙ ap (λ (l : List Mark). map mark_of (gather staying bs) ++ l) (covariates-plain c es (groups es))))
    (left-plain r (groups es))

resolved_left : (c : Context) (ss : List Statement) (r : Resolved) → resolve c ss ≡ accepted r → Left (map mark_of r.statements) (map mark_of ss)
resolved_left c ss r e =
    let a = resolved_as c ss r e in
    let look = look_up c (lets ss) in
    subst
    (λ (x : Resolved). Left (map mark_of x.statements) (map mark_of ss))
    (sym a.settled.equals)
    (ground-left c a.brought (merged a.brought) (all_left c look (answered_each (bring c look) 0 ss a.brought a.each)))

-- Marks do not depend on places.
feature_forgets : (f : Feature) → mark_of (forget (feature f)) ≡ feature_mark f
feature_forgets (Absorption ms) = refl
feature_forgets (Elimination ms) = refl
feature_forgets (Peripherals n ms) = refl
feature_forgets (Transits n ms) = refl
feature_forgets (Lagtime ms) = refl
feature_forgets (Covariate m ps cs es op) = refl
feature_forgets (Allometry n r) = refl
feature_forgets (DirectEffect ms) = refl
feature_forgets (EffectComp ms) = refl
feature_forgets (IndirectEffect ms ps) = refl
feature_forgets (Metabolite ms) = refl
feature_forgets (Iiv m ps es) = refl
feature_forgets (Iov m ps es) = refl
feature_forgets (Covariance m ls ps) = refl

marks-forget : (ss : List Statement) → map mark_of (map forget ss) ≡ map mark_of ss
marks-forget [] = refl
marks-forget (Let n is ∷ ss) = ap (λ (l : List Mark). plain ∷ l) (marks-forget ss)
marks-forget (feature f ∷ ss) = ap₂ ◌∷◌ (feature_forgets f) (marks-forget ss)

in_context :
    (t : Bool) (a : Answer Resolved) (n : ℕ) {r : Resolved} → cond t a (refused n 0) ≡ accepted r
    → (t ≡ true) × (a ≡ accepted r)
in_context true a n e = (refl, e)
in_context false a n e = absurd (not-refused e)

-- Where a text that passes has a ground text in any context, that passes under the same ceiling.
pub ground_passes :
    (ceiling : ℕ) (g : Given) (text : List ℕ) (r : Resolved)
    → profile_text ceiling text ≡ accepted tt
    → resolve_text ceiling g text ≡ accepted r
    → profile_text ceiling (ground_text r) ≡ accepted tt
unfolding profile_text profile_of resolve_text
ground_passes ceiling g text r p e =
    let a = bind_passed (read_text ceiling text) _ e in
    let ss = a.value in
    let b = in_context (is_context g) (resolve (context_in g) ss) 12 a.next in
    let passes : profile_of ss ≡ accepted tt = sym (ap (λ (x : Answer (List Statement)). x >>= profile_of) a.is) ∙ p in
    let again = text_reread ceiling (context_in g) text ss r (given_readable g b.0) a.is b.1 in
    let marks : map mark_of again.statements ≡ map mark_of r.statements =
    sym (marks-forget again.statements) ∙ ap (map mark_of) again.as_ground ∙ marks-forget r.statements in
    ap (λ (x : Answer (List Statement)). x >>= profile_of) again.read
    ∙ ap (profile_from 0 []) marks
    ∙ left_passes (resolved_left (context_in g) ss r b.1) 0 0 [] [] (λ k h. h) passes

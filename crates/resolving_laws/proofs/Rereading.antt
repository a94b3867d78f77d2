-- A ground text, read and resolved again with its context, gives its own bytes back with nothing dropped.
-- Assumes nothing.
use Prim.Native.Nat.{ℕ, ◌≤◌}
use native.Mathlib.Omega.{arith}
use mathlib.Core.Path.{◌≡◌, refl, sym, ◌∙◌, ap, ap₂, subst}
use mathlib.Core.Bool.{Bool, true, false, not, ◌||◌, true≢false}
use mathlib.Core.List.{List, [], map}
use lib.Dec.{eqb}
use lib.ListN.{length, get_or}
use borrow.Author.Tests.{eqb-true, ltb-true}
use Rattle.text.proofs.Tests.{refuted}
use Rattle.tokens.specs.Spelling.{is_name}
use Rattle.text.specs.Lists.{all, any, is_nil}
use Rattle.labels.specs.Label.{labels_of}
use Rattle.labels.specs.declared.Family.TheVariants.{CovariateEffect}
use Rattle.reading.specs.Statement.{Statement}
use Rattle.reading.specs.Parts.{feature_parts}
use Rattle.reading.specs.Answer.{accepted}
use Rattle.reading.specs.Read.{read_text}
use Rattle.reading_laws.specs.WellFormed.{is_place, well_formed}
use Rattle.reading_laws.proofs.Joining.{accepted_admitted}
use Rattle.reading_laws.proofs.WellRead.{text-well_formed}
use Rattle.canonical.specs.Canonical.{canonical}
use Rattle.canonical.specs.Print.{printed, print_text}
use Rattle.canonical_laws.specs.Forgotten.{forget, ReadAs}
use Rattle.canonical_laws.proofs.Forgetting.{canonical_forgets}
use Rattle.canonical_laws.proofs.Rereading.{rereads}
use Rattle.resolving.specs.Context.{Context, covariates}
use Rattle.resolving.specs.Symbols.{lets, look_up}
use Rattle.resolving.specs.Effects.{Effect}
use Rattle.resolving.specs.Brought.{Brought, defining, dropped, stays, brings}
use Rattle.resolving.specs.Merging.{same_effect, remains, overridden, remaining, merged}
use Rattle.resolving.specs.Ground.{Group, same_group, group_of, groups, forms_in, ground_covariate, staying, ground}
use Rattle.resolving.specs.Resolve.{Resolved, ground_text, resolve, additive}
use Rattle.text.proofs.Permuted.{Permuted}
use Rattle.text.proofs.All.{
  All,
  finished,
  also,
  neither-one,
  all_weaker,
  all_append,
  all_keep,
  all_firsts,
  all_both,
  all_map,
  all-gather,
  none-all,
  all_none,
  all_members,
}
use Rattle.text.proofs.Clashing.{clashes}
use Rattle.text.proofs.Once.{clashes_keep}
use Rattle.text.proofs.Runs.{any-firsts}
use Rattle.text.proofs.Grouping.{some_block}
use Rattle.resolving_laws.proofs.Fewness.{at_most, none_twice_lem}
use Rattle.resolving_laws.proofs.Passed.{gives_accepted}
use Rattle.resolving_laws.proofs.EffectLaws.{group-equal, group_self, effect_self}
use Rattle.resolving_laws.proofs.Places.{resolve_forgets}
use Rattle.resolving_laws.proofs.Stands.{Written}
use Rattle.resolving_laws.proofs.Standing.{all-stand}
use Rattle.resolving_laws.proofs.MergedLaws.{merge-all}
use Rattle.resolving_laws.proofs.Regrouped.{block}
use Rattle.resolving_laws.proofs.Settling.{resolved_as}
use Rattle.resolving_laws.proofs.Reresolving.{merged-fit, ground_reresolved}
use Rattle.resolving_laws.proofs.WellParts.{one_to_64, all_true, entry_named, map_nil}
use Rattle.resolving_laws.proofs.WellGround.{Readable, Wells, all_well, wells_effects, wells_itself}

-- The forms of a group: none stands twice.

same_formed : (g : Group) (e f : Effect) → same_group g (group_of e) ≡ true → same_group g (group_of f) ≡ true → eqb e.form f.form ≡ true → same_effect e f ≡ true
same_formed g e f h k q =
    let p = sym (group-equal g (group_of e) h) ∙ group-equal g (group_of f) k in
    let same : e ≡ f =
    λ i. record {
      parameter = (p i).parameter;
      covariate = (p i).covariate;
      form = eqb-true e.form f.form q i;
      operator = (p i).operator;
      optional = (p i).optional;
    } in
    subst (λ (x : Effect). same_effect e x ≡ true) same (effect_self e)

forms-once :
    (g : Group) {l : List Effect} → All (λ e. same_group g (group_of e) ≡ true) l → clashes same_effect l ≡ false
    → clashes eqb (map (λ e. e.form) l) ≡ false
forms-once g finished e = refl
forms-once g (also {x = e} {l} h r) n =
    let k = neither-one (any (same_effect e) l) (clashes same_effect l) n in
    ap₂ ◌||◌
    (all_none (eqb e.form)
    (all_map
    (λ f. f.form)
    (λ f q. refuted (eqb e.form f.form) (λ y. true≢false (sym (same_formed g e f h q.0 y) ∙ q.1)))
    (all_both r (none-all (same_effect e) l k.0))))
    (forms-once g r k.1)

-- the two names of an effect can be read
abbrev Named : Context → Group → Type 0
Named c g = (is_name (get_or c.parameters g.parameter []) ≡ true) × (is_name (get_or (covariates c) g.covariate []) ≡ true)

written-named : (c : Context) → Readable c → (g : Group) → Written c g → Named c g
written-named c good g w = (
  entry_named c.parameters good.parameters-named g.parameter w.parameter-first,
  entry_named (covariates c) good.covariates-named g.covariate w.covariate-first,
)

-- A ground text, read and resolved again: it gives its own bytes back with nothing dropped, and the same effects.
pub record Reread (limit : ℕ) (c : Context) (r : Resolved) : Type 0 where
  pub statements : List Statement
  pub read : read_text limit (ground_text r) ≡ accepted statements
  pub as_ground : map forget statements ≡ map forget r.statements
  pub prints : print_text limit (ground_text r) ≡ accepted (ground_text r)
  pub result : Resolved
  pub resolves : resolve c statements ≡ accepted result
  pub same : ground_text result ≡ ground_text r
  pub undropped : result.notes ≡ additive result.effects
  pub permuted : Permuted r.effects result.effects

module _ (limit : ℕ) (c : Context) where
  group_well :
      (es : List Effect) → clashes same_effect es ≡ false → All (λ e. is_place CovariateEffect e.form ≡ true) es
      → (g : Group) → Named c g → any (same_group g) (groups es) ≡ true
      → well_formed limit (ground_covariate c g (forms_in es g)) ≡ true
  unfolding labels_of feature_parts
  group_well es once places g named h =
      let fs = forms_in es g in
      let kept = all_keep (λ e. same_group g (group_of e)) places in
      let placed : All (λ f. is_place CovariateEffect f ≡ true) fs = all_map (λ e. e.form) (λ e k. k.1) kept in
      let distinct : clashes eqb fs ≡ false =
      forms-once g (all_weaker (λ e k. k.0) kept) (clashes_keep same_effect (λ e. same_group g (group_of e)) es once) in
      let some : is_nil fs ≡ false =
      map_nil (λ e. e.form) (block es g)
      ∙ sym (map_nil group_of (block es g))
      ∙ some_block group_of same_group group-equal group_self es g (sym (any-firsts same_group group-equal (same_group g) (map group_of es)) ∙ h) in
      let few : length fs ≤ 7 = at_most 7 (all_weaker (λ f k. ltb-true f 7 k) placed) distinct in
      let p = named.0 in
      let v = named.1 in
      let m = one_to_64 (is_place CovariateEffect) fs some (omega arith) placed in
      let n = none_twice_lem fs distinct in
      simp (p, v, m, n)

  abbrev pub Placed : Effect → Type 0
  Placed e = is_place CovariateEffect e.form ≡ true

  remains-placed : (w : Effect → Bool) (b : Brought) → Wells limit b → All Placed (remains w b)
  remains-placed w defining h = finished
  remains-placed w dropped h = finished
  remains-placed w (stays f) h = finished
  remains-placed w (brings true es) (wells_effects h) = h
  remains-placed w (brings false es) (wells_effects h) = all_weaker (λ e k. k.1) (all_keep (λ e. not (w e)) h)

  staying_well : (b : Brought) → Wells limit b → All (λ s. well_formed limit s ≡ true) (staying b)
  staying_well defining h = finished
  staying_well dropped h = finished
  staying_well (stays f) (wells_itself h) = also h finished
  staying_well (brings x es) h = finished

  pub ground_well :
      (bs : List Brought) → All (Wells limit) bs
      → (es : List Effect) → clashes same_effect es ≡ false → All Placed es → All (λ e. Named c (group_of e)) es
      → all (well_formed limit) (ground c bs es) ≡ true
  unfolding ground
  ground_well bs wells es once places named =
      let written = all_firsts same_group (all_map group_of (λ e k. k) named) in
      all_true (well_formed limit)
      (all_append
      (all-gather staying staying_well wells)
      (all_map
      (λ g. ground_covariate c g (forms_in es g))
      (λ g k. group_well es once places g k.0 k.1)
      (all_both written (all_members same_group group_self (groups es) (λ g h. h)))))

  pub merged-placed : (bs : List Brought) → All (Wells limit) bs → All Placed (merged bs)
  unfolding merged
  merged-placed bs wells = merge-all (remaining bs) (all-gather (remains (overridden bs)) (remains-placed (overridden bs)) wells)

  module _ (good : Readable c) (ss : List Statement) (r : Resolved) (ceiling : limit ≤ 256) (well : all (well_formed limit) ss ≡ true) (e : resolve c ss ≡ accepted r) where
    -- Where well formed statements resolve, their ground text is read as their ground statements.
    ground-read : ReadAs limit (canonical r.statements) r.statements
    ground-read =
        let a = resolved_as c ss r e in
        let bs = a.brought in
        let s = a.settled in
        let stands = gives_accepted (all-stand c (look_up c (lets ss)) 0 ss) a.each in
        let fit = merged-fit c bs stands s.held.peace in
        let wells = gives_accepted (all_well limit c good (look_up c (lets ss)) 0 ss well) a.each in
        subst
        (λ (x : Resolved). ReadAs limit (canonical x.statements) x.statements)
        (sym s.equals)
        (rereads limit (ground c bs (merged bs))
        (ground_well bs wells (merged bs) fit.once (merged-placed bs wells) (all_weaker (λ e k. written-named c good (group_of e) k.0) fit.known))
        s.held.count (record { ceiling = ceiling; short = s.held.size }))

    -- The rereading theorem.
    pub ground-reread : Reread limit c r
    unfolding print_text
    ground-reread =
        let a = ground-read in
        let b = ground_reresolved c ss r e in
        record {
          statements = a.statements;
          read = a.read;
          as_ground = a.same;
          prints =
              ap printed a.read
              ∙ ap accepted
              (sym (canonical_forgets a.statements) ∙ ap canonical a.same ∙ canonical_forgets r.statements);
          result = b.result;
          resolves =
              sym (resolve_forgets c a.statements)
              ∙ ap (resolve c) a.same
              ∙ resolve_forgets c r.statements
              ∙ b.resolves;
          same = ap canonical b.same;
          undropped = b.undropped;
          permuted = b.permuted;
        }

-- A text that is accepted and resolves: its ground text gives its own bytes back with nothing dropped.
pub text_reread :
    (limit : ℕ) (c : Context) (text : List ℕ) (ss : List Statement) (r : Resolved)
    → Readable c
    → read_text limit text ≡ accepted ss
    → resolve c ss ≡ accepted r
    → Reread limit c r
text_reread limit c text ss r good read e = ground-reread limit c good ss r (accepted_admitted limit text ss read).ceiling (text-well_formed limit text ss read) e

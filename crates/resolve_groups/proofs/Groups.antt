-- Groups that are listed, one after the other: what each prints as and what is left behind it, that its indexes are of the context's lists,
-- and that there is room for all.
-- Assumes nothing.
use Prim.Native.Nat.{ℕ, zero, suc, ◌+◌, ◌/◌, ◌%◌, ◌≤◌, ◌<◌}
use native.Mathlib.Omega.{arith}
use mathlib.Core.Path.{◌≡◌, refl, ◌∙◌, ap, ap₂, sym, subst}
use mathlib.Core.Bool.{Bool, true, false}
use mathlib.Core.List.{List, [], ◌∷◌, ◌++◌, map, append_assoc}
use borrow.Author.Tests.{ltb-true, ltb-false}
use lib.Dec.{ltb}
use lib.ListN.{length, get_or, take, drop, length-map, length-drop, drop_of_length-le, get_or-eq_default}
use lib.Seq.{get_or-drop}
use Rattle.tokens.specs.Spelling.{spell_all}
use Rattle.reading.specs.Statement.{Statement}
use Rattle.canonical.specs.Canonical.{statement_shapes}
use Rattle.labels.specs.declared.Family.TheVariants.{CovariateEffect}
use Rattle.read_packs.specs.Packs.{places}
use Rattle.read_forms.specs.declared.Modes.TheVariants as form
use Rattle.read_forms.specs.Forms.{modes_in}
use Rattle.print_writing.specs.Written.{Room}
use Rattle.canonical.specs.Lines.{joint_of, rest_of}
use Rattle.resolving.specs.Context.{Context, covariates}
use Rattle.resolving.specs.Effects.{Effect}
use Rattle.resolving.specs.Brought.{whole}
use Rattle.resolving.specs.Ground.{Group, group_of, same_group, groups, forms_in, ground_covariate, ground_effects}
use Rattle.resolving.specs.Handed.{handed_context}
use Rattle.text.proofs.All.{All, finished, also, all_firsts, all_map}
use Rattle.resolve_context.specs.Lists.{Stands, Sound, names_in, covariates_of}
use Rattle.resolve_context.specs.declared.Names.{Names}
use Rattle.resolve_context.specs.declared.Layout.{Layout}
use Rattle.resolve_context.proofs.Pairs.{names-length}
use Rattle.resolve_context.proofs.Meaning.{parameters_sound, covariates_sound, parameters-are, covariates-are, sound_named}
use Rattle.resolve_merging.specs.Packing.{effect_of, group_as}
use Rattle.resolve_merging.specs.Outcomes.{GroupsStand, GroupsListed}
use Rattle.resolve_merging_few.specs.Listing.{group_in, forms_for}
use Rattle.resolve_merging_few.proofs.Listed.{stand-listed, listed-few}
use Rattle.resolve_grounding.specs.Groups.{group_statement}
use Rattle.resolve_grounding.proofs.Sizes.{whole-few}
use Rattle.resolve_groups.specs.Known.{Entered, GroupsKnown}
use Rattle.resolve_groups.proofs.Sizes.{group-short, pieces_short}

-- Lists, by index.

module _ {A : Type 0} {P : A → Type 0} where
  each_all : (d : A) (l : List A) → ((j : ℕ) → j < length l → P (get_or l j d)) → All P l
  each_all d [] h = finished
  each_all d (x ∷ l) h = also (h 0 (omega arith)) (each_all d l (λ j q. h (suc j) (omega (arith, q))))

  all_drop : (j : ℕ) {l : List A} → All P l → All P (drop j l)
  all_drop zero h = h
  all_drop (suc j) finished = finished
  all_drop (suc j) (also h r) = all_drop j r

  all_first : {x : A} {l : List A} → All P (x ∷ l) → P x
  all_first (also h r) = h

-- a packed list of modes has at most 8
places-few : (n : ℕ) → length (places n) ≤ 8
unfolding modes_in whole
places-few n = whole-few CovariateEffect (form.List n)

-- A name of a list that was checked has at most 32 bytes, and behind its end there is none.
names-short : (b l : List ℕ) (n : Names) → Sound b l n → (i : ℕ) → length (get_or (names_in b l n) i []) ≤ 32
names-short b l n s i = by_test (ltb i n.count) refl
  where
    by_test : (t : Bool) → ltb i n.count ≡ t → length (get_or (names_in b l n) i []) ≤ 32
    by_test true e = (sound_named b l n s i (ltb-true i n.count e)).few
    by_test false e =
        omega (
          arith,
          ap length (get_or-eq_default (names_in b l n) [] {n = i} (omega (arith, names-length b l n, ltb-false i n.count e))),
        )

-- a group's statement, and what is left to be printed from a group on, behind so many statements
abbrev ground_of : Context → List Effect → Group → Statement
ground_of c es g = ground_covariate c g (forms_in es g)

abbrev pub left_from : Context → List Effect → ℕ → ℕ → List ℕ
left_from c es n j = rest_of n (map (ground_of c es) (drop j (groups es)))

-- the statement of a group that is listed
abbrev pub group_bytes : Context → List ℕ → ℕ → List ℕ
group_bytes c listed j =
    spell_all
    (statement_shapes
    (group_statement c (group_in listed j / 2048 % 64) (group_in listed j / 32 % 64) (places (forms_for listed j)) (group_in listed j / 2 % 2)
    (group_in listed j % 2)))

module _ (c : Context) (work listed : List ℕ) (count k : ℕ) (known : GroupsKnown c work listed count k) where
  abbrev effects : List Effect
  effects = map effect_of (take count work)

  pub group-next :
      (n j : ℕ)
      → j < k
      → left_from c effects (n + j) j ≡ joint_of (n + j) ++ (group_bytes c listed j ++ left_from c effects (n + (j + 1)) (j + 1))
  group-next n j h =
      let s = known.stand.each j h in
      let next : suc (n + j) ≡ n + (j + 1) = omega arith in
      let after : suc j ≡ j + 1 = omega arith in
      ap (λ (l : List Group). rest_of (n + j) (map (ground_of c effects) l)) s.group
      ∙ ap
      (λ (fs : List ℕ).
      (joint_of (n + j) ++ spell_all (statement_shapes (ground_covariate c (group_as (group_in listed j)) fs)))
      ++ left_from c effects (suc (n + j)) (suc j))
      (sym s.forms)
      ∙ append_assoc (joint_of (n + j)) (group_bytes c listed j) (left_from c effects (suc (n + j)) (suc j))
      ∙ ap₂ (λ (m i : ℕ). joint_of (n + j) ++ (group_bytes c listed j ++ left_from c effects m i)) next after

  pub none-next : (n j : ℕ) → k ≤ j → left_from c effects n j ≡ []
  none-next n j h =
      ap (λ (l : List Group). rest_of n (map (ground_of c effects) l))
      (drop_of_length-le (groups effects) {i = j} (omega (arith, h, known.stand.count)))

  -- a group has the parameter and the covariate of an effect
  all-entered : All (λ g. (g.parameter < length c.parameters) × (g.covariate < length (covariates c))) (groups effects)
  all-entered = all_firsts same_group (all_map group_of (λ e h. h) known.entered)

  pub group-entered :
      (j : ℕ)
      → j < k
      → (group_in listed j / 2048 % 64 < length c.parameters) × (group_in listed j / 32 % 64 < length (covariates c))
  group-entered j h =
      all_first
      (subst (All (λ g. (g.parameter < length c.parameters) × (g.covariate < length (covariates c)))) (known.stand.each j h).group
      (all_drop j all-entered))

  few-forms : All (λ g. length (forms_in effects g) ≤ 8) (groups effects)
  few-forms =
      each_all (group_as 0) (groups effects)
      (λ j h.
      let s = known.stand.each j (omega (arith, h, known.stand.count)) in
      let e : get_or (groups effects) j (group_as 0) ≡ group_as (group_in listed j) =
      ap (λ (i : ℕ). get_or (groups effects) i (group_as 0)) (omega arith)
      ∙ sym (get_or-drop j (groups effects) 0 (group_as 0))
      ∙ ap (λ (l : List Group). get_or l 0 (group_as 0)) s.group in
      subst (λ (g : Group). length (forms_in effects g) ≤ 8) (sym e)
      (omega (arith, places-few (forms_for listed j), ap length s.forms)))

  module _
      (own : (i : ℕ) → length (get_or c.parameters i []) ≤ 32)
      (other : (i : ℕ) → length (get_or (covariates c) i []) ≤ 32) where
    all_short : All (λ x. length (spell_all (statement_shapes x)) ≤ 9000) (ground_effects c effects)
    all_short = all_map (ground_of c effects) (λ g h. group-short c own other g (forms_in effects g) h) few-forms

    pub groups-room : (n at : ℕ) → at ≤ 4294967296 → Room at (rest_of n (ground_effects c effects))
    groups-room n at h =
        omega (
          arith,
          h,
          pieces_short n all_short,
          known.stand.count,
          known.stand.few,
          length-map (groups effects) (ground_of c effects),
        )

-- groups that stand in the buffer of `resolve_merging`, from 6,144 on
pub buffer_known :
    {c : Context} {work : List ℕ} {count groups : ℕ}
    → GroupsStand (map effect_of (take count work)) work groups
    → All (Entered c) (map effect_of (take count work))
    → 6656 ≤ length work
    → GroupsKnown c work (drop 6144 work) count groups
buffer_known {work = work} s e h = record {
  stand = stand-listed s;
  entered = e;
  room = omega (arith, s.few, h, length-drop 6144 work);
}

-- groups of few effects, as `resolve_merging_few` lists them
pub few-known :
    {c : Context} {work listed : List ℕ} {count groups : ℕ}
    → GroupsListed (map effect_of (take count work)) listed groups
    → All (Entered c) (map effect_of (take count work))
    → count ≤ 64
    → 128 ≤ length listed
    → GroupsKnown c work listed count groups
few-known {work = work} {count = count} s e h g = record {
  stand = s;
  entered = e;
  room = omega (arith, listed-few work count s, h, g);
}

-- In a context that was checked.
module _ (b l : List ℕ) (y : Layout) (s : Stands b l y) where
  pub parameters-many : length (handed_context b l).parameters ≡ y.parameters.count
  parameters-many = ap length (parameters-are b l y s) ∙ names-length b l y.parameters

  pub covariates-many : length (covariates (handed_context b l)) ≡ (covariates_of y).count
  covariates-many = ap length (covariates-are b l y s) ∙ names-length b l (covariates_of y)

  pub parameters-short : (i : ℕ) → length (get_or (handed_context b l).parameters i []) ≤ 32
  parameters-short i = rw (parameters-are b l y s) (names-short b l y.parameters (parameters_sound b l y s) i)

  pub covariates-short : (i : ℕ) → length (get_or (covariates (handed_context b l)) i []) ≤ 32
  covariates-short i = rw (covariates-are b l y s) (names-short b l (covariates_of y) (covariates_sound b l y s) i)

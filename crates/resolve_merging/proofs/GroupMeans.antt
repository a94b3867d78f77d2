-- What the numbers of groups mean: document 01's groups, with their forms.
-- Assumes nothing.
use Prim.Native.Nat.{ℕ, suc, ◌+◌, ◌*◌, ◌/◌, ◌%◌, ◌≤◌, ◌<◌}
use native.Mathlib.Omega.{arith}
use mathlib.Core.Path.{◌≡◌, sym, ◌∙◌, ap, ap₂, subst, fun_ext}
use mathlib.Core.Bool.{Bool, ◌&&◌}
use mathlib.Core.List.{List, ◌∷◌, map}
use borrow.Author.Tests.{le-leb, lt-leb}
use lib.Dec.{eqb}
use lib.ListN.{length, take, drop, get_or, length-map, get_or-map}
use lib.Seq.{drop-cons}
use Rattle.text.specs.Lists.{keep, firsts}
use Rattle.resolving.specs.Effects.{Effect}
use Rattle.resolving.specs.Ground.{Group, group_of, same_group, groups, forms_in}
use Rattle.resolve_merging.specs.Steps as steps
use Rattle.std.specs.Prelude as prelude
use Rattle.resolve_merging.specs.Packing.{effect_of, group_number, group_as}
use Rattle.resolve_merging.specs.Runs.{groups_in, forms_of}
use Rattle.resolve_merging.specs.Tables.{Tallied}
use Rattle.resolve_merging.specs.Passes.{step_of}
use Rattle.resolve_merging.specs.Outcomes.{Plain, group_at, GroupStands, GroupsStand, Groups}
use Rattle.resolve_merging.specs.Grouping.{GroupNumbers, listed_as, Listed, Formed}
use Rattle.resolve_merging.proofs.Mapped.{keep-map, firsts-map, map-map}
use Rattle.resolve_merging.proofs.Fields.{other_way, pair_eqb, group_eqb, by_2}
use Rattle.resolve_merging.proofs.TableLaws.{kept_on, take_front}
use Rattle.resolve_merging.proofs.GroupLists.{group-numbers}

same_group_lem : (u w : ℕ) → same_group (group_as u) (group_as w) ≡ eqb (group_number u) (group_number w)
same_group_lem u w =
    ap₂ ◌&&◌ (pair_eqb u w) (by_2 (u / 2 % 2) (w / 2 % 2) (u % 2) (w % 2) (omega arith) (omega arith) ∙ ap₂ eqb (low u) (low w))
    ∙ group_eqb u w
  where
    low : (u : ℕ) → u / 2 % 2 * 2 + u % 2 ≡ u % 4
    low u = omega arith

-- a group's number stands for the group of its effects
group_as_lem : (w : ℕ) → group_as (group_number w) ≡ group_as w
group_as_lem w =
    let h : w % 4 < 4 = omega arith in
    let p : w / 32 % 4096 / 64 % 64 ≡ w / 2048 % 64 = omega arith in
    let v : w / 32 % 4096 % 64 ≡ w / 32 % 64 = omega arith in
    let o : w % 4 / 2 % 2 ≡ w / 2 % 2 = omega arith in
    let b : w % 4 % 2 ≡ w % 2 = omega arith in
    let q = w / 32 % 4096 in
    made (group_number w) w (high q (w % 4) h ∙ p) (middle q (w % 4) h ∙ v) (second q (w % 4) h ∙ o) (first q (w % 4) h ∙ b)
  where
    high : (q r : ℕ) → r < 4 → (q * 32 + r) / 2048 % 64 ≡ q / 64 % 64
    high q r h = omega arith

    middle : (q r : ℕ) → r < 4 → (q * 32 + r) / 32 % 64 ≡ q % 64
    middle q r h = omega arith

    second : (q r : ℕ) → r < 4 → (q * 32 + r) / 2 % 2 ≡ r / 2 % 2
    second q r h = omega arith

    first : (q r : ℕ) → r < 4 → (q * 32 + r) % 2 ≡ r % 2
    first q r h = omega arith

    made :
        (u w : ℕ) → u / 2048 % 64 ≡ w / 2048 % 64 → u / 32 % 64 ≡ w / 32 % 64 → u / 2 % 2 ≡ w / 2 % 2 → u % 2 ≡ w % 2
        → group_as u ≡ group_as w
    made u w a b d e =
        ap (λ (x : ℕ). record { parameter = x; covariate = u / 32 % 64; operator = u / 2 % 2; optional = u % 2 }) a
        ∙ ap (λ (x : ℕ). record { parameter = w / 2048 % 64; covariate = x; operator = u / 2 % 2; optional = u % 2 }) b
        ∙ ap (λ (x : ℕ). record { parameter = w / 2048 % 64; covariate = w / 32 % 64; operator = x; optional = u % 2 }) d
        ∙ ap (λ (x : ℕ). record { parameter = w / 2048 % 64; covariate = w / 32 % 64; operator = w / 2 % 2; optional = x }) e

groups-mean : (l : List ℕ) → map group_as (groups_in l) ≡ groups (map effect_of l)
groups-mean l =
    ap (map group_as) (firsts-map group_number eqb l)
    ∙ map-map group_as group_number (firsts (λ x y. eqb (group_number x) (group_number y)) l)
    ∙ ap₂
    (λ (f : ℕ → Group) (same : ℕ → ℕ → Bool). map f (firsts same l))
    (fun_ext group_as_lem)
    (fun_ext (λ x. fun_ext (λ y. sym (same_group_lem x y))))
    ∙ sym (firsts-map group_as same_group l)
    ∙ ap (firsts same_group) (sym (map-map group_of effect_of l))

groups-count : (l : List ℕ) → length (groups (map effect_of l)) ≡ length (groups_in l)
groups-count l = sym (ap length (groups-mean l)) ∙ length-map (groups_in l) group_as

forms-mean : (g : ℕ) → group_number g ≡ g → (l : List ℕ) → forms_of g l ≡ forms_in (map effect_of l) (group_as g)
forms-mean g h l =
    sym (map-map (λ (e : Effect). e.form) effect_of (keep (λ e. eqb (group_number e) g) l))
    ∙ ap (λ (p : ℕ → Bool). map (λ (e : Effect). e.form) (map effect_of (keep p l))) (fun_ext one)
    ∙ ap (map (λ (e : Effect). e.form)) (sym (keep-map effect_of (λ e. same_group (group_as g) (group_of e)) l))
  where
    one : (w : ℕ) → eqb (group_number w) g ≡ same_group (group_as g) (group_as w)
    one w = other_way (group_number w) g ∙ ap (λ (x : ℕ). eqb x (group_number w)) (sym h) ∙ sym (same_group_lem g w)

-- one group with its forms
module _ {a b : List ℕ} {m k : ℕ} (ns : GroupNumbers (groups_in (take m a)) a k) (f : Formed m k a b) where
  group-stands : (j : ℕ) → j < k → GroupStands (map effect_of (take m a)) b j
  group-stands j h =
      let l = take m a in
      let n : group_at b j ≡ get_or (groups_in l) j 0 = f.groups j ∙ ns.each j h in
      let i : j < length (groups_in l) = omega (arith, h, ns.count) in
      let p = f.forms j h in
      record {
        group =
            ap (drop j) (sym (groups-mean l))
            ∙ drop-cons (map group_as (groups_in l)) j (group_as 0) (omega (arith, i, length-map (groups_in l) group_as))
            ∙ ap₂
            (λ (x : Group) (gs : List Group). x ∷ drop (suc j) gs)
            (get_or-map group_as (groups_in l) j 0 ∙ ap group_as (sym n))
            (groups-mean l);
        forms =
            p.all
            ∙ forms-mean (group_at a j) (subst (λ (x : ℕ). group_number x ≡ x) (sym (ns.each j h)) (group-numbers l j i)) l
            ∙ ap (λ (x : ℕ). forms_in (map effect_of l) (group_as x)) (sym (f.groups j));
        snug = p.snug;
      }

-- The answer.
module _ {a b c : List ℕ} {m k : ℕ} (few : m ≤ 2048) (t : Tallied (step_of steps.Clear) (take m a) a b) (v : Listed (take m b) b c k) where
  same-run : take m c ≡ take m a
  same-run = take_front b c m few v.terms ∙ take_front a b m few t.terms

  pub listed_plain : Plain (take m a) → Plain (take m c)
  listed_plain p = subst Plain (sym same-run) p

  pub many-groups : 256 < k → Groups m a c prelude.None
  many-groups h = record {
    kept = kept_on t.kept v.kept;
    effects = same-run;
    answer =
        let n : 256 < length (groups_in (take m b)) = subst (λ (s : Bool). listed_as s (groups_in (take m b)) c k) (lt-leb k 256 h) v.answer in
        omega (arith, n, groups-count (take m a), ap (λ (l : List ℕ). length (groups_in l)) (take_front a b m few t.terms));
  }

  pub listed-numbers : k ≤ 256 → GroupNumbers (groups_in (take m c)) c k
  listed-numbers h =
      subst (λ (l : List ℕ). GroupNumbers (groups_in l) c k) (sym (take_front b c m few v.terms))
      (subst (λ (s : Bool). listed_as s (groups_in (take m b)) c k) (le-leb k 256 h) v.answer)

  pub all-groups : {d : List ℕ} → k ≤ 256 → Formed m k c d → Groups m a d (prelude.Some k)
  all-groups {d} h f =
      let ns = listed-numbers h in
      record {
        kept = kept_on t.kept (kept_on v.kept f.kept);
        effects = take_front c d m few f.terms ∙ same-run;
        answer =
            subst (λ (l : List ℕ). GroupsStand (map effect_of l) d k) same-run record {
              count = ns.count ∙ sym (groups-count (take m c));
              few = h;
              each = group-stands ns f;
            };
      }

-- What merging and grouping answer, in the words of document 01.
use Rattle.std.specs.Prelude.{ℕ, suc, ◌+◌, ◌*◌, ◌≤◌, ◌<◌, true, List, ◌∷◌, map, ◌≡◌, length, take, drop, get_or}
use Rattle.reading.specs.Answer.{Answer, accepted, refused}
use Rattle.reading_laws.specs.WellFormed.{none_twice}
use Rattle.read_packs.specs.Packs.{places, Snug}
use Rattle.resolving.specs.Effects.{Effect}
use Rattle.resolving.specs.Faults.{forced_twice}
use Rattle.resolving.specs.Brought.{Brought}
use Rattle.resolving.specs.Merging.{forced_again, merged}
use Rattle.resolving.specs.Ground.{groups, forms_in}
use Rattle.resolving.specs.Resolve.{at_most_once}
use Rattle.resolving_laws.specs.Flat.{terms_from}
use Rattle.resolve_merging.specs.declared.ForcedAgain.{ForcedAgain}
use Rattle.std.specs.Prelude as prelude
use Rattle.resolve_merging.specs.Packing.{effect_of, term_of, bare, group_as}
use Rattle.resolve_merging.specs.Tables.{Kept}

-- effects alone, none twice
pub record Plain (l : List ℕ) : Type 0 where
  pub effects : map bare l ≡ l
  pub once : none_twice l ≡ true

-- the statement that forces a pair again, or the merged effects, which stand from 0 on
abbrev pub outcome_as : List ℕ → prelude.Result ℕ ForcedAgain → Answer (List Effect)
outcome_as work (prelude.Err e) = refused forced_twice e.statement
outcome_as work (prelude.Ok m) = accepted (map effect_of (take m work))

abbrev pub PlainTo : ℕ → List ℕ → prelude.Result ℕ ForcedAgain → Type 0
PlainTo n work (prelude.Err e) = Unit {0}
PlainTo n work (prelude.Ok m) = (m ≤ n) × Plain (take m work)

-- as document 01 has it, for a run of the terms that the statements bring
pub record Settles (n : ℕ) (before after : List ℕ) (r : prelude.Result ℕ ForcedAgain) : Type 0 where
  pub kept : Kept before after
  pub plain : PlainTo n after r
  pub answer :
      (bs : List Brought) → map term_of (take n before) ≡ terms_from 0 bs
      → outcome_as after r ≡ at_most_once forced_twice (forced_again bs) (accepted (merged bs))

-- a group's number, and its forms as `read_packs` has modes, from 6,144 on
abbrev pub group_at : List ℕ → ℕ → ℕ
group_at work j = get_or work (6144 + 2 * j) 0

abbrev pub forms_at : List ℕ → ℕ → ℕ
forms_at work j = get_or work (6145 + 2 * j) 0

pub record GroupStands (es : List Effect) (work : List ℕ) (j : ℕ) : Type 0 where
  pub group : drop j (groups es) ≡ group_as (group_at work j) ∷ drop (suc j) (groups es)
  pub forms : places (forms_at work j) ≡ forms_in es (group_as (group_at work j))
  pub snug : Snug (forms_at work j)

pub record GroupsStand (es : List Effect) (work : List ℕ) (k : ℕ) : Type 0 where
  pub count : k ≡ length (groups es)
  pub few : k ≤ 256
  pub each : (j : ℕ) → j < k → GroupStands es work j

abbrev pub GroupedAs : List Effect → List ℕ → prelude.Option ℕ → Type 0
GroupedAs es work (prelude.Some k) = GroupsStand es work k
GroupedAs es work prelude.None = 256 < length (groups es)

-- The groups of the first so many effects, which stand as they did.
pub record Groups (m : ℕ) (before after : List ℕ) (r : prelude.Option ℕ) : Type 0 where
  pub kept : Kept before after
  pub effects : take m after ≡ take m before
  pub answer : GroupedAs (map effect_of (take m before)) after r

-- The same of groups that stand in a run of their own, from 0 on: a group's number, and its forms.
pub record GroupListed (es : List Effect) (listed : List ℕ) (j : ℕ) : Type 0 where
  pub group : drop j (groups es) ≡ group_as (get_or listed (2 * j) 0) ∷ drop (suc j) (groups es)
  pub forms : places (get_or listed (2 * j + 1) 0) ≡ forms_in es (group_as (get_or listed (2 * j) 0))
  pub snug : Snug (get_or listed (2 * j + 1) 0)

pub record GroupsListed (es : List Effect) (listed : List ℕ) (k : ℕ) : Type 0 where
  pub count : k ≡ length (groups es)
  pub few : k ≤ 256
  pub each : (j : ℕ) → j < k → GroupListed es listed j

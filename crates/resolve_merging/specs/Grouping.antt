-- Grouping, step by step: the groups' numbers, then the forms of each.
use Rattle.std.specs.Prelude.{ℕ, ◌+◌, ◌*◌, ◌%◌, ◌<◌, Bool, true, false, cond, List, ◌≡◌, eqb, leb, length, take, get_or, set}
use Rattle.reading_laws.specs.WellFormed.{none_twice}
use Rattle.read_packs.specs.Packs.{places, Snug, Joined}
use Rattle.resolve_merging.specs.Packing.{pair_of, group_number, form_number}
use Rattle.resolve_merging.specs.Flags.{flagged, with_flag, byte_at, with_byte}
use Rattle.resolve_merging.specs.Runs.{groups_in, forms_of}
use Rattle.resolve_merging.specs.Tables.{place, entry, Kept}
use Rattle.resolve_merging.specs.Outcomes.{group_at, forms_at}

-- which groups of a pair there are
abbrev pub grouping : ℕ → ℕ → ℕ
grouping e v = with_flag v (e % 4)

-- One effect: its group is there already, or is written behind so many others, if there is room for it.
module _ (before : List ℕ) (e : ℕ) where
  abbrev pub is_there : Bool
  is_there = flagged (entry before (pair_of e)) (e % 4)

  abbrev pub flagged_at : List ℕ
  flagged_at = set before (place e) (grouping e (entry before (pair_of e)))

  abbrev pub written : ℕ → List ℕ
  written k = cond is_there before (cond (eqb k 256) flagged_at (set flagged_at (6144 + 2 * k) (group_number e)))

pub record GroupedOne (before after : List ℕ) (i k r : ℕ) : Type 0 where
  pub count : r ≡ cond (is_there before (get_or before i 0)) k (k + 1)
  pub numbers : after ≡ written before (get_or before i 0) k

-- so many groups stand from 6,144 on, or there are more than 256
pub record GroupNumbers (gs work : List ℕ) (r : ℕ) : Type 0 where
  pub count : r ≡ length gs
  pub each : (j : ℕ) → j < r → group_at work j ≡ get_or gs j 0

abbrev pub listed_as : Bool → List ℕ → List ℕ → ℕ → Type 0
listed_as true gs work r = GroupNumbers gs work r
listed_as false gs work r = 256 < length gs

pub record Listed (run before after : List ℕ) (r : ℕ) : Type 0 where
  pub kept : Kept before after
  pub terms : take 2048 after ≡ take 2048 before
  pub answer : listed_as (leb r 256) (groups_in run) after r

-- A group's index, which the table has for each of its effects: a pair has four groups at most, and 256 indexes are bytes.
abbrev pub index_of : List ℕ → ℕ → ℕ
index_of work e = byte_at (entry work (pair_of e)) (e % 4)

-- so many groups, of which none stands twice, and none has an index yet
pub record Unnumbered (k : ℕ) (work : List ℕ) : Type 0 where
  pub once : (i j : ℕ) → i < k → j < k → group_number (group_at work i) ≡ group_number (group_at work j) → i ≡ j
  pub none : (j : ℕ) → j < k → entry work (pair_of (group_at work j)) ≡ 0

-- one of them with its index, and no forms yet
abbrev pub indexed : List ℕ → ℕ → List ℕ
indexed work j =
    let g = group_at work j in
    set (set work (place g) (with_byte (entry work (pair_of g)) (g % 4) j)) (6145 + 2 * j) 0

pub record Numbered (k : ℕ) (before after : List ℕ) : Type 0 where
  pub kept : Kept before after
  pub terms : take 2048 after ≡ take 2048 before
  pub groups : (j : ℕ) → group_at after j ≡ group_at before j
  pub empty : (j : ℕ) → j < k → forms_at after j ≡ 0
  pub indexes : (j : ℕ) → j < k → index_of after (group_at before j) ≡ j

-- each of the effects has its group's index, and no group has forms or would have one twice
pub record Ready (m k : ℕ) (work : List ℕ) : Type 0 where
  pub below : (i : ℕ) → i < m → index_of work (get_or work i 0) < k
  pub own : (i : ℕ) → i < m → group_at work (index_of work (get_or work i 0)) ≡ group_number (get_or work i 0)
  pub empty : (j : ℕ) → j < k → forms_at work j ≡ 0
  pub apart : (i j : ℕ) → i < k → j < k → group_at work i ≡ group_at work j → i ≡ j
  pub once : (j : ℕ) → j < k → none_twice (forms_of (group_at work j) (take m work)) ≡ true

-- a group's forms in one number
pub record Packed (n : ℕ) (forms : List ℕ) : Type 0 where
  pub all : places n ≡ forms
  pub snug : Snug n

-- the forms of an effect's group, with its own
pub record Collected (before after : List ℕ) (e : ℕ) : Type 0 where
  pub joined : ℕ
  pub forms : Joined (forms_at before (index_of before e)) (form_number e) joined
  pub numbers : after ≡ set before (6145 + 2 * index_of before e) joined

-- the forms of so many groups, whose numbers stand as they did
pub record Formed (m k : ℕ) (before after : List ℕ) : Type 0 where
  pub kept : Kept before after
  pub terms : take 2048 after ≡ take 2048 before
  pub groups : (j : ℕ) → group_at after j ≡ group_at before j
  pub forms : (j : ℕ) → j < k → Packed (forms_at after j) (forms_of (group_at before j) (take m before))

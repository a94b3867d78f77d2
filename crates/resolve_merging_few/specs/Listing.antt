-- Groups in a run of their own, two numbers each: the group's and its forms.
use Rattle.std.specs.Prelude.{ℕ, ◌+◌, ◌*◌, ◌≤◌, ◌<◌, Bool, true, false, cond, List, ◌≡◌, ltb, get_or, set, Option, Some, None}
use Rattle.text.specs.Bytes.{member_of}
use Rattle.text.specs.Lists.{all}
use Rattle.reading_laws.specs.WellFormed.{none_twice}
use Rattle.read_packs.specs.Packs.{places, Snug, Joined}
use Rattle.resolve_merging.specs.Packing.{bare, group_number, form_number}
use Rattle.resolve_merging_few.specs.declared.United.{United}

abbrev pub group_in : List ℕ → ℕ → ℕ
group_in listed j = get_or listed (2 * j) 0

abbrev pub forms_for : List ℕ → ℕ → ℕ
forms_for listed j = get_or listed (2 * j + 1) 0

-- where a group stands among so many, or how many they are
pub record IndexFound (listed : List ℕ) (k g r : ℕ) : Type 0 where
  pub few : r ≤ k
  pub before : (j : ℕ) → j < r → group_in listed j ≡ g → ⊥
  pub there : r < k → group_in listed r ≡ g

abbrev pub IndexFoundAs : List ℕ → ℕ → ℕ → Option ℕ → Type 0
IndexFoundAs listed k g (Some j) = (j < k) × IndexFound listed k g j
IndexFoundAs listed k g None = IndexFound listed k g k

-- the forms of a group in one number: each is below 8, and none stands twice
pub record Formed (forms : ℕ) : Type 0 where
  pub snug : Snug forms
  pub below : all (λ x. ltb x 8) (places forms) ≡ true
  pub once : none_twice (places forms) ≡ true

abbrev pub AllFormed : List ℕ → ℕ → Type 0
AllFormed listed k = (j : ℕ) → j < k → Formed (forms_for listed j)

-- an effect put to its group, which stands there or is new; or it is a repeat, whose form stands in its group already
pub data EffectPut (before after : List ℕ) (k e : ℕ) : Bool → ℕ → Type 0 where
  put-before :
      (j : ℕ) → j < k → group_in before j ≡ group_number e → member_of (places (forms_for before j)) (form_number e) ≡ true → after ≡ before
      → EffectPut before after k e true k
  put-there :
      (j x : ℕ) → j < k → group_in before j ≡ group_number e → member_of (places (forms_for before j)) (form_number e) ≡ false
      → Joined (forms_for before j) (form_number e) x → after ≡ set before (2 * j + 1) x
      → EffectPut before after k e false k
  put-behind :
      (x : ℕ) → ((j : ℕ) → j < k → group_in before j ≡ group_number e → ⊥) → Joined 0 (form_number e) x
      → after ≡ set (set before (2 * k) (group_number e)) (2 * k + 1) x
      → EffectPut before after k e false (k + 1)

-- the effect of a term: a repeat goes, another is moved behind those that stay so far
pub record OneUnited (before after listed listed' : List ℕ) (at k i : ℕ) (r : United) : Type 0 where
  pub again : Bool
  pub put : EffectPut listed listed' k (bare (get_or before i 0)) again r.groups
  pub next : r.effects ≡ cond again at (at + 1)
  pub numbers : after ≡ cond again before (set before at (bare (get_or before i 0)))

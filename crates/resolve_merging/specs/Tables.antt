-- The lent buffer: terms or effects from 0 on, at most 2,048; from 2,048 on a number for each of the 4,096 pairs, the table; from 6,144 on
-- at most 256 groups, two numbers each. What stands from 6,656 on is not ours.
use Rattle.std.specs.Prelude.{ℕ, ◌+◌, ◌<◌, cond, List, [], ◌∷◌, ◌≡◌, eqb, length, take, drop, get_or}
use Rattle.resolve_merging.specs.Packing.{pair_of}

-- where a term's pair has its number
abbrev pub place : ℕ → ℕ
place w = 2048 + pair_of w

-- a pair's number
abbrev pub entry : List ℕ → ℕ → ℕ
entry work p = get_or work (2048 + p) 0

pub record Kept (before after : List ℕ) : Type 0 where
  pub size : length after ≡ length before
  pub behind : drop 6656 after ≡ drop 6656 before

-- A table with one number changed, by a term of its pair; and by the terms of a run, one after the other.
abbrev pub updated : (ℕ → ℕ → ℕ) → (ℕ → ℕ) → ℕ → (ℕ → ℕ)
updated step t w = λ p. cond (eqb (pair_of w) p) (step w (t p)) (t p)

abbrev pub tally : (ℕ → ℕ → ℕ) → (ℕ → ℕ) → List ℕ → (ℕ → ℕ)
tally step t [] = t
tally step t (w ∷ l) = tally step (updated step t w) l

-- a buffer whose table was changed so, and nothing else
pub record Tallied (step : ℕ → ℕ → ℕ) (run before after : List ℕ) : Type 0 where
  pub kept : Kept before after
  pub terms : take 2048 after ≡ take 2048 before
  pub groups : drop 6144 after ≡ drop 6144 before
  pub entries : (p : ℕ) → p < 4096 → entry after p ≡ tally step (entry before) run p

-- the same numbers for the pairs of a run: those of other pairs may be anything, since the table is never cleared as a whole
abbrev pub Agree : List ℕ → (ℕ → ℕ) → (ℕ → ℕ) → Type 0
Agree [] t s = Unit {0}
Agree (w ∷ l) t s = (t (pair_of w) ≡ s (pair_of w)) × Agree l t s

abbrev pub zeros : ℕ → ℕ
zeros p = 0

-- the table as a run leaves it that starts with zeros
pub record Anew (step : ℕ → ℕ → ℕ) (run before after : List ℕ) : Type 0 where
  pub kept : Kept before after
  pub terms : take 2048 after ≡ take 2048 before
  pub entries : Agree run (entry after) (tally step zeros run)

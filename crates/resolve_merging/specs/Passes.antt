-- What a pass over the terms does at one of them: to its pair's number, and to the term.
use Rattle.std.specs.Prelude.{ℕ, ◌+◌, ◌-◌, ◌/◌, ◌%◌, ◌≤◌, ◌<◌, Bool, cond, not, ◌&&◌, List, [], ◌∷◌, ◌++◌, ◌≡◌, eqb, leb, take, get_or, set}
use Rattle.std.proofs.Math.Option.{Option, some, none}
use Rattle.resolve_merging.specs.Steps.{Step}
use Rattle.resolve_merging.specs.Steps as steps
use Rattle.resolve_merging.specs.Sieves.{Pass}
use Rattle.resolve_merging.specs.Sieves as passes
use Rattle.std.specs.Prelude as prelude
use Rattle.resolve_merging.specs.Packing.{bare, pair_of}
use Rattle.resolve_merging.specs.Flags.{flagged, with_flag}
use Rattle.resolve_merging.specs.Runs.{forced_in}
use Rattle.resolve_merging.specs.Tables.{place, entry, Kept, updated, tally}

-- A pair's number after a term of it: 0; whether there is an explicit term (1); which mandatory forms there are.
abbrev pub step_of : Step → ℕ → ℕ → ℕ
step_of steps.Clear w v = 0
step_of steps.Explicit w v = cond (eqb (w / 131072 % 2) 1) 1 v
step_of steps.Mandatory w v = cond (eqb (w % 2) 0) (with_flag v (w % 32)) v

-- the last statement that forces the pair, counted from 1
abbrev pub forcing : ℕ → ℕ → ℕ
forcing w v = cond (eqb (w % 2) 0) (w / 262144 + 1) v

-- whether a term forces its pair, which an earlier statement forces
abbrev pub forced_by : ℕ → ℕ → Bool
forced_by w v = eqb (w % 2) 0 && (not (eqb v 0) && leb v (w / 262144))

abbrev pub found_as : prelude.Option ℕ → Option ℕ
found_as (prelude.Some s) = some s
found_as prelude.None = none

-- the other way, for a crate that finds it in another way
abbrev pub found_of : Option ℕ → prelude.Option ℕ
found_of (some s) = prelude.Some s
found_of none = prelude.None

-- Whether a term goes, by its pair's number; that number after it; and the term as it stays.
abbrev pub gone_by : Pass → ℕ → ℕ → Bool
gone_by passes.Overridden w v = not (eqb (w / 131072 % 2) 1) && eqb v 1
gone_by passes.AlsoMandatory w v = not (eqb (w % 2) 0) && flagged v (w % 32 - 1)
gone_by passes.Repeated w v = flagged v (w % 32)

abbrev pub entered_by : Pass → ℕ → ℕ → ℕ
entered_by passes.Overridden w v = v
entered_by passes.AlsoMandatory w v = v
entered_by passes.Repeated w v = with_flag v (w % 32)

abbrev pub shown_by : Pass → ℕ → ℕ
shown_by passes.Overridden w = w
shown_by passes.AlsoMandatory w = w
shown_by passes.Repeated w = bare w

-- what stays of a run, from a table on
abbrev pub stay_by : Pass → (ℕ → ℕ) → List ℕ → List ℕ
stay_by pass t [] = []
stay_by pass t (w ∷ l) =
    cond (gone_by pass w (t (pair_of w))) [] (shown_by pass w ∷ []) ++ stay_by pass (updated (entered_by pass) t w) l

-- What stays of the first so many terms was moved to the front; those behind them stand as they did.
pub record Sifted (pass : Pass) (before after : List ℕ) (n r : ℕ) : Type 0 where
  pub kept : Kept before after
  pub few : r ≤ n
  pub numbers : take r after ≡ stay_by pass (entry before) (take n before)
  pub ahead : (j : ℕ) → n ≤ j → j < 2048 → get_or after j 0 ≡ get_or before j 0
  pub entries : (p : ℕ) → p < 4096 → entry after p ≡ tally (entered_by pass) (entry before) (take n before) p

-- one term of such a pass
module _ (pass : Pass) (before : List ℕ) (w : ℕ) where
  abbrev pub entered_at : List ℕ
  entered_at = set before (place w) (entered_by pass w (entry before (pair_of w)))

  abbrev pub moved_to : ℕ → List ℕ
  moved_to at = cond (gone_by pass w (entry before (pair_of w))) entered_at (set entered_at at (shown_by pass w))

  abbrev pub behind_it : ℕ → ℕ
  behind_it at = cond (gone_by pass w (entry before (pair_of w))) at (at + 1)

pub record Moved (pass : Pass) (before after : List ℕ) (i at r : ℕ) : Type 0 where
  pub next : r ≡ behind_it pass before (get_or before i 0) at
  pub numbers : after ≡ moved_to pass before (get_or before i 0) at

-- Of the first so many terms these are left, from 0 on.
pub record Left (run : List ℕ) (n : ℕ) (before after : List ℕ) (r : ℕ) : Type 0 where
  pub kept : Kept before after
  pub few : r ≤ n
  pub numbers : take r after ≡ run

-- A run was looked through for a pair that is forced again, and stands as it did.
pub record Looked (run before after : List ℕ) (r : prelude.Option ℕ) : Type 0 where
  pub kept : Kept before after
  pub terms : take 2048 after ≡ take 2048 before
  pub answer : found_as r ≡ forced_in run

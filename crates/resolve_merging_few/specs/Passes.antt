-- What a pass over the terms leaves of them. A term goes by those that stay so far and those that are left, itself among them.
use Rattle.std.specs.Prelude.{ℕ, ◌+◌, ◌-◌, ◌/◌, ◌%◌, Bool, cond, not, ◌&&◌, ◌||◌, List, [], ◌∷◌, ◌++◌, ◌≡◌, eqb, take, get_or, set}
use Rattle.std.proofs.Math.Seq.{slice}
use Rattle.text.specs.Lists.{any, keep}
use Rattle.resolve_merging.specs.Packing.{bare, pair_of}
use Rattle.resolve_merging.specs.Runs.{also_mandatory_in}
use Rattle.resolve_merging_few.specs.Sought.{Sought}
use Rattle.resolve_merging_few.specs.Sought as sought
use Rattle.resolve_merging_few.specs.Sieves.{Pass}
use Rattle.resolve_merging_few.specs.Sieves as passes
use Rattle.resolve_merging_few.specs.Scans.{passes_by}

abbrev pub among : List ℕ → List ℕ → Sought → Bool
among seen left x = any (passes_by x) seen || any (passes_by x) left

abbrev pub gone_by : Pass → List ℕ → List ℕ → ℕ → Bool
gone_by passes.Overridden seen left w = not (eqb (w / 131072 % 2) 1) && among seen left (sought.ExplicitOf (pair_of w + 4096))
gone_by passes.AlsoMandatory seen left w = not (eqb (w % 2) 0) && among seen left (sought.Effect (bare w - 1))

-- those that stay so far, and what stays of the others
abbrev pub stay_by : Pass → List ℕ → List ℕ → List ℕ
stay_by pass seen [] = seen
stay_by pass seen (w ∷ l) = stay_by pass (cond (gone_by pass seen (w ∷ l) w) seen (seen ++ w ∷ [])) l

-- one term of a pass: it goes, or is moved behind those that stay so far
module _ (pass : Pass) (before : List ℕ) (at i n : ℕ) where
  abbrev pub gone_at : Bool
  gone_at = gone_by pass (take at before) (slice i n before) (get_or before i 0)

  abbrev pub moved_to : List ℕ
  moved_to = cond gone_at before (set before at (get_or before i 0))

pub record Moved (pass : Pass) (before after : List ℕ) (at i n r : ℕ) : Type 0 where
  pub next : r ≡ cond (gone_at pass before at i n) at (at + 1)
  pub numbers : after ≡ moved_to pass before at i n

-- no optional one that is mandatory too
abbrev pub twins_gone : List ℕ → List ℕ
twins_gone l = keep (λ w. not (also_mandatory_in l w)) l

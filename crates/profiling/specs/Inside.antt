-- Document 02, P2: "It says yes exactly for those." The texts of the profile, by what their statements are and not by a first fault.
use Rattle.std.specs.Prelude.{ℕ, ◌≤◌, false, List, map, ◌≡◌, length}
use Rattle.reading.specs.Statement.{Statement}
use Rattle.reading.specs.Answer.{accepted}
use Rattle.reading.specs.Read.{read_text}
use Rattle.text.specs.Lists.{any, keep}
use Rattle.profiling.specs.Profile.{mark_of, is_outside, is_of, has_high}

-- how many statements there are of one of the five
abbrev pub how_many : ℕ → List Statement → ℕ
how_many k ss = length (keep (is_of k) (map mark_of ss))

pub record Inside (ceiling : ℕ) (text : List ℕ) : Type 0 where
  pub statements : List Statement
  pub read : read_text ceiling text ≡ accepted statements
  -- "no DIRECTEFFECT, EFFECTCOMP, INDIRECTEFFECT or METABOLITE"
  pub none-outside : any is_outside (map mark_of statements) ≡ false
  -- "at most one statement each of ABSORPTION, ELIMINATION, PERIPHERALS, TRANSITS and LAGTIME"
  pub each-once : (k : ℕ) → how_many k statements ≤ 1
  -- "no count above 10"
  pub none_high : any has_high (map mark_of statements) ≡ false

-- What a caller learns from an answer, case by case.
-- Assumes nothing.
use Prim.Native.Nat.{ℕ, ◌%◌, ◌≤◌, ◌<◌}
use native.Mathlib.Omega.{arith}
use mathlib.Core.Path.{◌≡◌, sym, ◌∙◌, ap, subst}
use mathlib.Core.List.{List, map}
use lib.ListN.{length, take, get_or, get_or-map}
use lib.Seq.{get_or-take}
use Rattle.reading.specs.Answer.{accepted, refused}
use Rattle.resolving.specs.Faults.{forced_twice}
use Rattle.resolving.specs.Brought.{Brought}
use Rattle.resolving.specs.Merging.{forced_again, merged}
use Rattle.resolving.specs.Ground.{groups}
use Rattle.resolving.specs.Resolve.{at_most_once}
use Rattle.resolving_laws.specs.Flat.{terms_from}
use Rattle.resolve_merging.specs.declared.ForcedAgain.{ForcedAgain}
use Rattle.std.specs.Prelude as prelude
use Rattle.resolve_merging.specs.Packing.{effect_of, term_of, bare}
use Rattle.resolve_merging.specs.Outcomes.{Plain, outcome_as, PlainTo, Settles, GroupsStand, GroupedAs, Groups}

module _ {n : ℕ} {before after : List ℕ} {r : prelude.Result ℕ ForcedAgain} (s : Settles n before after r) where
  pub merged-plain : {m : ℕ} → r ≡ prelude.Ok m → (m ≤ n) × Plain (take m after)
  merged-plain e = subst (PlainTo n after) e s.plain

  module _ (bs : List Brought) (run : map term_of (take n before) ≡ terms_from 0 bs) where
    pub merged-answer :
        {m : ℕ} → r ≡ prelude.Ok m
        → accepted (map effect_of (take m after)) ≡ at_most_once forced_twice (forced_again bs) (accepted (merged bs))
    merged-answer e = sym (ap (outcome_as after) e) ∙ s.answer bs run

    pub refused-answer :
        {i : ℕ} → r ≡ prelude.Err (record { statement = i }) → refused forced_twice i ≡ at_most_once forced_twice (forced_again bs) (accepted (merged bs))
    refused-answer e = sym (ap (outcome_as after) e) ∙ s.answer bs run

-- each merged effect's number is one of 17 bits
pub plain-below : (l : List ℕ) (m i : ℕ) → i < m → Plain (take m l) → get_or l i 0 < 131072
plain-below l m i h p =
    let e : get_or l i 0 ≡ bare (get_or l i 0) =
    sym (get_or-take m l i 0 h)
    ∙ ap (λ (k : List ℕ). get_or k i 0) (sym p.effects)
    ∙ get_or-map bare (take m l) i 0
    ∙ ap bare (get_or-take m l i 0 h) in
    let b : get_or l i 0 % 131072 < 131072 = omega arith in
    omega (arith, e, b)

module _ {m : ℕ} {before after : List ℕ} {r : prelude.Option ℕ} (s : Groups m before after r) where
  pub groups-stand : {k : ℕ} → r ≡ prelude.Some k → GroupsStand (map effect_of (take m before)) after k
  groups-stand e = subst (GroupedAs (map effect_of (take m before)) after) e s.answer

  pub groups-over : r ≡ prelude.None → 256 < length (groups (map effect_of (take m before)))
  groups-over e = subst (GroupedAs (map effect_of (take m before)) after) e s.answer

-- Document 01, Resolving: "1. Check the context. 2. Collect every LET; the key ignores ASCII case. 3. Take the features in order. 4. Merge
-- the effects. 5. Make the ground text." And Faults: "13, then 14 to 16 by statement (parameters, covariates, pairs), then 18 for effects,
-- 17, 18 for the ground space".
use Rattle.std.specs.Prelude.{ℕ, suc, cond, List, [], ◌∷◌, ◌++◌, eqb, ltb, length}
use Rattle.std.proofs.Math.Option.{Option, some, none}
use Rattle.reading.specs.Statement.{Statement}
use Rattle.reading.specs.Answer.{Answer, accepted, refused, refused_if, ◌>>=◌}
use Rattle.canonical.specs.Canonical.{canonical}
use Rattle.text.specs.Lists.{any, again, gather}
use Rattle.resolving.specs.Faults.{second_let, forced_twice, too_large}
use Rattle.resolving.specs.Context.{Context}
use Rattle.resolving.specs.Symbols.{Meaning, Definition, lets, same_key, look_up}
use Rattle.resolving.specs.Effects.{Effect}
use Rattle.resolving.specs.Brought.{Brought, defining, dropped, stays, brings, bring, each_from}
use Rattle.resolving.specs.Merging.{effects_in, forced_again, merged}
use Rattle.resolving.specs.Ground.{ground}

-- "A note is (reason, statement index): 0 dropped; 1, last and once, some merged effect is additive, index 0."
pub record Note : Type 0 where
  pub reason : ℕ
  pub index : ℕ

pub record Resolved : Type 0 where
  pub statements : List Statement
  pub effects : List Effect
  pub notes : List Note

abbrev pub ground_text : Resolved → List ℕ
ground_text r = canonical r.statements

-- the notes of those that are dropped, where the first has this index
abbrev pub dropped_from : ℕ → List Brought → List Note
dropped_from i [] = []
dropped_from i (defining ∷ bs) = dropped_from (suc i) bs
dropped_from i (dropped ∷ bs) = record { reason = 0; index = i } ∷ dropped_from (suc i) bs
dropped_from i (stays f ∷ bs) = dropped_from (suc i) bs
dropped_from i (brings x es ∷ bs) = dropped_from (suc i) bs

abbrev pub additive : List Effect → List Note
additive es = cond (any (λ e. eqb e.operator 1) es) (record { reason = 1; index = 0 } ∷ []) []

module _ {A : Type 0} where
  -- a refusal at the index of what may not come again, if it does
  abbrev pub at_most_once : ℕ → Option ℕ → Answer A → Answer A
  at_most_once n none a = a
  at_most_once n (some i) a = refused n i

  -- 18: more than a limit
  abbrev pub up_to : ℕ → ℕ → Answer A → Answer A
  up_to limit n a = refused_if (ltb limit n) too_large 0 a

-- 4 and 5, of what the statements bring.
abbrev pub outcome : Context → List Brought → Resolved
outcome c bs =
    record {
      statements = ground c bs (merged bs);
      effects = merged bs;
      notes = dropped_from 0 bs ++ additive (merged bs);
    }

-- 18: "over 2,048 effects before merging". 17: "pair forced by two statements". 18: "over 256 ground statements; ground text over 16,384
-- bytes".
unfoldable pub merge_and_ground : Context → List Brought → Answer Resolved
merge_and_ground c bs =
    up_to 2048 (length (gather effects_in bs))
    (at_most_once forced_twice (forced_again bs)
    (up_to 256 (length (outcome c bs).statements)
    (up_to 16384 (length (ground_text (outcome c bs)))
    (accepted (outcome c bs)))))

-- 2, and then what symbols mean. 13: "second LET of a key".
abbrev pub with_symbols : {A : Type 0} → Context → List (Option Definition) → (Meaning → Answer A) → Answer A
with_symbols c ds f = at_most_once second_let (again same_key ds) (f (look_up c ds))

-- 2 to 5. The context is checked where it is handed over (Given).
unfoldable pub resolve : Context → List Statement → Answer Resolved
resolve c ss = with_symbols c (lets ss) (λ look. each_from (bring c look) 0 ss >>= merge_and_ground c)

-- What `resolve_word` says is enough for Resolve with records: there is room for as many as its word tells of, and storing them gives the effects'
-- output.
-- Assumes nothing.
use Prim.Native.Nat.{ℕ, ◌≤◌}
use mathlib.Core.Path.{◌≡◌, refl, ◌∙◌, ap, sym, subst}
use mathlib.Core.List.{List, [], ◌∷◌, ◌++◌, map}
use lib.ListN.{length, take, drop}
use Rattle.record_laws.specs.Call.{Enough}
use Rattle.resolving.specs.Call.{lengths_of, work_after}
use Rattle.resolve_merging.specs.Packing.{effect_of}
use Rattle.resolve_settling.specs.Answers.{effects_in, rooms}
use Rattle.resolve_call.proofs.Packed.{effects-fit, effects-stand, effects-put}
use Rattle.resolve_records.specs.declared.Effect.{Effect}
use Rattle.resolve_records.specs.Records.{record_of, unpacked}
use Rattle.resolve_records.specs.Words.{effects_told}
use Rattle.resolve_records.specs.Stored.{answered, work_says, answer_of, ground_of, effects_of, notes_of, work_of}
use Rattle.resolve_records.proofs.Below.{resolved_small}
use Rattle.resolve_records.proofs.Telling.{told-effects}

map_twice : {A B C : Type 0} (f : B → C) (g : A → B) (l : List A) → map (λ x. f (g x)) l ≡ map f (map g l)
map_twice f g [] = refl
map_twice f g (x ∷ l) = ap (λ y. f (g x) ∷ y) (map_twice f g l)

pub enough : Enough unpacked effects_told work_after answer_of ground_of effects_of notes_of work_of work_says
enough a b c g xs n w lim r g' n' w' p same =
    let x = answered a b c g (length xs) n w lim in
    let k : effects_told r ≡ effects_in (lengths_of x) =
    ap effects_told p.0 ∙ told-effects (lengths_of x) (resolved_small lim b c a (rooms g (length xs) n) (length w)) in
    record {
      fits = subst (λ (i : ℕ). i ≤ length xs) (sym k) (effects-fit lim b c a (rooms g (length xs) n) (length w));
      stands = subst (λ (i : ℕ). i ≤ length w') (sym k) (effects-stand x w' p.1.packed);
      told = p.0;
      put = p.1.text;
      recorded =
          ap (λ (i : ℕ). map unpacked (take i w') ++ drop i xs) k
          ∙ ap (λ (l : List Effect). l ++ drop (effects_in (lengths_of x)) xs) (map_twice record_of effect_of (take (effects_in (lengths_of x)) w'))
          ∙ effects-put record_of x w' xs p.1.packed;
      noted = p.1.remarks;
      left = p.1.left;
    }

-- `resolve_outputs::put_notes` meets its contract.
-- Assumes nothing.
use Prim.Native.Nat.{ℕ, ◌+◌, ◌≤◌}
use mathlib.Core.Path.{◌≡◌, ◌∙◌, ap, sym}
use mathlib.Core.Bool.{Bool, true, false, cond}
use mathlib.Core.List.{List, [], ◌∷◌, ◌++◌, map, append-nil}
use native.Mathlib.Omega.{arith}
use native.Mathlib.Nat.{add-zero}
use lib.ListN.{length, take, drop, set, length-map}
use lib.Seq.{length-take-le}
use Rattle.resolve_outputs.specs.Entries.{dropped_at, additive_note}
use Rattle.resolve_outputs.proofs.Filling.{one-behind}
use Rattle.resolve_outputs.proofs.put_notes.Goals as goal

-- the last note, if there is one, behind the others
last :
    (xs before middle : List (List ℕ)) (n : ℕ) (t : Bool)
    → length xs ≡ n
    → n + length (additive_note t) ≤ length before
    → middle ≡ xs ++ drop n before
    → cond t (set middle n (1 ∷ 0 ∷ [])) middle ≡ (xs ++ additive_note t) ++ drop (n + length (additive_note t)) before
last xs before middle n true e h f = one-behind xs before (1 ∷ 0 ∷ []) n e (omega arith) f
last xs before middle n false e h f =
    f
    ∙ ap (λ (k : ℕ). xs ++ drop k before) (sym (add-zero n))
    ∙ ap (λ (l : List (List ℕ)). l ++ drop (n + 0) before) (sym (append-nil xs))

pub returns : goal.returns
returns c =
    c.put_additive.ensures
    ∙ last (map dropped_at (take c.args.count c.args.dropped.now)) c.args.notes.now _ c.args.count c.args.additive
    (length-map (take c.args.count c.args.dropped.now) dropped_at ∙ length-take-le c.args.count c.args.dropped.now c.requires.1)
    c.requires.0 c.put_dropped.ensures

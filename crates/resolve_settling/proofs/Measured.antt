-- The ground text by what stays and by groups: how long it is, and that it was written; and how many effects and notes there are.
-- Assumes nothing.
use Prim.Native.Nat.{ℕ, ◌+◌}
use native.Mathlib.Omega.{arith}
use mathlib.Core.Path.{◌≡◌, ◌∙◌, ap, ap₂, sym, subst}
use mathlib.Core.Bool.{Bool}
use mathlib.Core.List.{List, ◌++◌, map}
use lib.Dec.{eqb}
use lib.ListN.{length, take, length-append, length-map}
use lib.Seq.{length-take-le}
use Rattle.print_writing.specs.Written.{Written}
use Rattle.print_writing.proofs.Writing.{written_on}
use Rattle.canonical.specs.Lines.{rest_of}
use Rattle.text.specs.Lists.{any, gather}
use Rattle.resolving.specs.Context.{Context}
use Rattle.resolving.specs.Effects.{Effect}
use Rattle.resolving.specs.Merging.{merged}
use Rattle.resolving.specs.Ground.{groups, ground_effects, staying}
use Rattle.resolving.specs.Resolve.{outcome, ground_text}
use Rattle.resolving.specs.Call.{note_numbers}
use Rattle.resolve_merging.specs.Packing.{effect_of}
use Rattle.resolve_outputs.specs.Entries.{dropped_at, additive_note}
use Rattle.resolve_statements.specs.declared.Tally.{Tally}
use Rattle.resolve_settling.specs.Attempts.{EffectsGrouped}
use Rattle.resolve_settling.proofs.Grounds.{statements-many, text_pieces, notes-are}

module _ {c : Context} {t : Tally} {dropped work listed : List ℕ} {count many : ℕ} {made : List ℕ}
    (g : EffectsGrouped c t dropped work listed count many made) where
  pub statements-are : length (outcome c g.what).statements ≡ t.stays + many
  statements-are =
      omega (
        arith,
        statements-many c g.what,
        g.tallied.stays,
        g.known.stand.count,
        ap (λ (es : List Effect). length (groups es)) g.effects,
      )

  -- what is put behind what stays
  abbrev behind : List ℕ
  behind = rest_of t.stays (ground_effects c (map effect_of (take count work)))

  behind-is : behind ≡ rest_of (0 + length (gather staying g.what)) (ground_effects c (merged g.what))
  behind-is =
      let k : t.stays ≡ 0 + length (gather staying g.what) = omega (arith, g.tallied.stays) in
      ap (λ (n : ℕ). rest_of n (ground_effects c (map effect_of (take count work)))) k
      ∙ ap (λ (es : List Effect). rest_of (0 + length (gather staying g.what)) (ground_effects c es)) g.effects

  module _ {after : List ℕ} {r : ℕ} (w : Written made t.ground behind after r) where
    pub text-written : Written g.before 0 (ground_text (outcome c g.what)) after r
    text-written =
        subst (λ (x : List ℕ). Written g.before 0 x after r) (sym (text_pieces c g.what))
        (written_on g.text (subst (λ (x : List ℕ). Written made t.ground x after r) behind-is w))

    pub text-long : length (ground_text (outcome c g.what)) ≡ r
    text-long = omega (arith, text-written.next)

  pub effects-many : length (outcome c g.what).effects ≡ count
  effects-many = ap length (sym g.effects) ∙ length-map (take count work) effect_of ∙ length-take-le count work g.room

  module _ (b : Bool) (h : b ≡ any (λ e. eqb e.operator 1) (map effect_of (take count work))) where
    pub notes-put : map note_numbers (outcome c g.what).notes ≡ map dropped_at (take t.dropped dropped) ++ additive_note b
    notes-put =
        notes-are c g.what
        ∙ ap₂ (λ (x : List ℕ) (y : Bool). map dropped_at x ++ additive_note y) (sym g.tallied.noted)
        (sym (h ∙ ap (any (λ e. eqb e.operator 1)) g.effects))

    pub notes-many : length (outcome c g.what).notes ≡ t.dropped + length (additive_note b)
    notes-many =
        sym (length-map (outcome c g.what).notes note_numbers)
        ∙ ap length notes-put
        ∙ length-append (map dropped_at (take t.dropped dropped)) (additive_note b)
        ∙ ap (λ (k : ℕ). k + length (additive_note b))
        (length-map (take t.dropped dropped) dropped_at ∙ length-take-le t.dropped dropped g.tallied.held)

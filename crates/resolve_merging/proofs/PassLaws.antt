-- What the table tells of a run is what the definition asks of it.
-- Assumes nothing.
use Prim.Native.Nat.{ℕ, ◌-◌, ◌/◌, ◌%◌}
use mathlib.Core.Path.{◌≡◌, refl, sym, ◌∙◌, ap, ap₂, fun_ext}
use mathlib.Core.Bool.{Bool, true, false, cond, not, ◌&&◌, ◌||◌}
use mathlib.Core.List.{List, [], ◌∷◌, ◌++◌, map, append_assoc}
use borrow.Author.Tests.{eqb-false}
use lib.Dec.{eqb}
use Rattle.text.specs.Lists.{any, keep, firsts}
use Rattle.resolving.specs.Effects.{Effect}
use Rattle.resolving.specs.Merging.{same_pair, same_form, is_mandatory}
use Rattle.resolving_laws.specs.Flat.{Term}
use Rattle.text.proofs.Bools.{and_sym}
use Rattle.text.proofs.Appended.{map-append, firsts-one_more}
use Rattle.resolve_merging.specs.Steps as steps
use Rattle.resolve_merging.specs.Sieves as passes
use Rattle.resolve_merging.specs.Packing.{effect_of, term_of, bare, pair_of}
use Rattle.resolve_merging.specs.Flags.{flagged, with_flag}
use Rattle.resolve_merging.specs.Runs.{overridden_in, remaining_in, also_mandatory_in}
use Rattle.resolve_merging.specs.Tables.{updated, tally, zeros}
use Rattle.resolve_merging.specs.Passes.{step_of, gone_by, entered_by, stay_by}
use Rattle.resolve_merging.proofs.Mapped.{append-none, or_false, any-map}
use Rattle.resolve_merging.proofs.FlagLaws.{flag_put, no_flag}
use Rattle.resolve_merging.proofs.Fields.{other_way, pair_eqb, bare_eqb, mandatory_eqb}
use Rattle.resolve_merging.proofs.TableLaws.{tally-more}
use Rattle.resolve_merging.proofs.SiftLaws.{sifted_keep}

or-other : (a b c : Bool) → a || (b || c) ≡ (b || a) || c
or-other true true c = refl
or-other true false c = refl
or-other false true c = refl
or-other false false c = refl

-- a step that puts a flag in, for some terms
abbrev pub flagging : (ℕ → Bool) → (ℕ → ℕ) → ℕ → ℕ → ℕ
flagging c f w v = cond (c w) (with_flag v (f w)) v

module _ (c : ℕ → Bool) (f : ℕ → ℕ) (p k : ℕ) where
  -- a term that puts this flag in for this pair
  abbrev puts : ℕ → Bool
  puts u = eqb (pair_of u) p && (c u && eqb k (f u))

  flags_after : (t : ℕ → ℕ) (l : List ℕ) → flagged (tally (flagging c f) t l p) k ≡ any puts l || flagged (t p) k
  flags_after t [] = refl
  flags_after t (w ∷ l) =
      flags_after (updated (flagging c f) t w) l
      ∙ ap (λ (b : Bool). any puts l || b) (by_cases (eqb (pair_of w) p) (c w))
      ∙ or-other (any puts l) (puts w) (flagged (t p) k)
    where
      by_cases : (a b : Bool)
          → flagged (cond a (cond b (with_flag (t p) (f w)) (t p)) (t p)) k ≡ a && (b && eqb k (f w)) || flagged (t p) k
      by_cases true true = flag_put (t p) (f w) k
      by_cases true false = refl
      by_cases false b = refl

  pub flags_told : (l : List ℕ) → flagged (tally (flagging c f) zeros l p) k ≡ any puts l
  flags_told l = flags_after zeros l ∙ ap (λ (b : Bool). any puts l || b) (no_flag k) ∙ or_false (any puts l)

-- Whether an explicit term has the pair.
abbrev marks : ℕ → ℕ → Bool
marks p u = eqb (pair_of u) p && eqb (u / 131072 % 2) 1

explicit_after : (t : ℕ → ℕ) (p : ℕ) (l : List ℕ) → tally (step_of steps.Explicit) t l p ≡ cond (any (marks p) l) 1 (t p)
explicit_after t p [] = refl
explicit_after t p (w ∷ l) =
    explicit_after (updated (step_of steps.Explicit) t w) p l
    ∙ by_cases (any (marks p) l) (eqb (pair_of w) p) (eqb (w / 131072 % 2) 1)
  where
    by_cases : (a b d : Bool) → cond a 1 (cond b (cond d 1 (t p)) (t p)) ≡ cond (b && d || a) 1 (t p)
    by_cases true true true = refl
    by_cases true true false = refl
    by_cases true false d = refl
    by_cases false true true = refl
    by_cases false true false = refl
    by_cases false false d = refl

module _ (l : List ℕ) where
  overridden-told :
      (w : ℕ) → gone_by passes.Overridden w (tally (step_of steps.Explicit) zeros l (pair_of w)) ≡ overridden_in l w
  overridden-told w =
      ap
      (λ (t : Bool). not (eqb (w / 131072 % 2) 1) && t)
      (ap (λ (v : ℕ). eqb v 1) (explicit_after zeros (pair_of w) l)
      ∙ by_cases (any (marks (pair_of w)) l)
      ∙ ap (λ (p : ℕ → Bool). any p l) (fun_ext one)
      ∙ sym (any-map term_of (λ (u : Term). u.explicit && same_pair (effect_of w) u.effect) l))
    where
      by_cases : (t : Bool) → eqb (cond t 1 0) 1 ≡ t
      by_cases true = refl
      by_cases false = refl

      one : (u : ℕ) → marks (pair_of w) u ≡ (eqb (u / 131072 % 2) 1 && same_pair (effect_of w) (effect_of u))
      one u =
          and_sym (eqb (pair_of u) (pair_of w)) (eqb (u / 131072 % 2) 1)
          ∙ ap (λ (t : Bool). eqb (u / 131072 % 2) 1 && t) (other_way (pair_of u) (pair_of w) ∙ sym (pair_eqb w u))

  -- what remains
  pub remaining-told : stay_by passes.Overridden (tally (step_of steps.Explicit) zeros l) l ≡ remaining_in l
  remaining-told =
      sifted_keep passes.Overridden (λ w v. refl) (λ w. refl) (tally (step_of steps.Explicit) zeros l) l
      ∙ ap (λ (p : ℕ → Bool). keep (λ w. not (p w)) l) (fun_ext overridden-told)

  mandatory-told :
      (w : ℕ) → gone_by passes.AlsoMandatory w (tally (step_of steps.Mandatory) zeros l (pair_of w)) ≡ also_mandatory_in l w
  mandatory-told w = by_cases (eqb (w % 2) 0) refl
    where
      by_cases : (t : Bool) → eqb (w % 2) 0 ≡ t
          → not t && flagged (tally (step_of steps.Mandatory) zeros l (pair_of w)) (w % 32 - 1)
          ≡ not t && any (λ (f : Effect). is_mandatory f && same_form (effect_of w) f) (map effect_of l)
      by_cases true e = refl
      by_cases false e =
          flags_told (λ u. eqb (u % 2) 0) (λ u. u % 32) (pair_of w) (w % 32 - 1) l
          ∙ ap (λ (p : ℕ → Bool). any p l) (fun_ext (λ u. sym (mandatory_eqb u w (eqb-false (w % 2) 0 e))))
          ∙ sym (any-map effect_of (λ (f : Effect). is_mandatory f && same_form (effect_of w) f) l)

  -- what is not mandatory too
  pub mandatory-kept :
      stay_by passes.AlsoMandatory (tally (step_of steps.Mandatory) zeros l) l ≡ keep (λ w. not (also_mandatory_in l w)) l
  mandatory-kept =
      sifted_keep passes.AlsoMandatory (λ w v. refl) (λ w. refl) (tally (step_of steps.Mandatory) zeros l) l
      ∙ ap (λ (p : ℕ → Bool). keep (λ w. not (p w)) l) (fun_ext mandatory-told)

-- Repeats go: a term that was seen has its flag.
repeated-told :
    (seen : List ℕ) (w : ℕ)
    → gone_by passes.Repeated w (tally (entered_by passes.Repeated) zeros seen (pair_of w)) ≡ any (λ y. eqb y (bare w)) (map bare seen)
repeated-told seen w =
    flags_told (λ u. true) (λ u. u % 32) (pair_of w) (w % 32) seen
    ∙ ap
    (λ (p : ℕ → Bool). any p seen)
    (fun_ext (λ u. ap (λ (t : Bool). eqb (pair_of u) (pair_of w) && t) (other_way (w % 32) (u % 32)) ∙ bare_eqb u w))
    ∙ sym (any-map bare (λ y. eqb y (bare w)) seen)

firsts_after :
    (seen l : List ℕ)
    → firsts eqb (map bare (seen ++ l))
    ≡ firsts eqb (map bare seen) ++ stay_by passes.Repeated (tally (entered_by passes.Repeated) zeros seen) l
firsts_after seen [] = ap (λ (m : List ℕ). firsts eqb (map bare m)) (append-none seen) ∙ sym (append-none (firsts eqb (map bare seen)))
firsts_after seen (w ∷ l) =
    ap (λ (m : List ℕ). firsts eqb (map bare m)) (sym (append_assoc seen (w ∷ []) l))
    ∙ firsts_after (seen ++ w ∷ []) l
    ∙ ap₂ ◌++◌
    (ap (firsts eqb) (map-append bare seen (w ∷ []))
    ∙ firsts-one_more eqb (map bare seen) (bare w)
    ∙ ap (λ (t : Bool). firsts eqb (map bare seen) ++ cond t [] (bare w ∷ [])) (sym (repeated-told seen w)))
    (ap (λ (t : ℕ → ℕ). stay_by passes.Repeated t l) (tally-more (entered_by passes.Repeated) zeros seen w))
    ∙ append_assoc
    (firsts eqb (map bare seen))
    (cond (gone_by passes.Repeated w (tally (entered_by passes.Repeated) zeros seen (pair_of w))) [] (bare w ∷ []))
    (stay_by passes.Repeated (updated (entered_by passes.Repeated) (tally (entered_by passes.Repeated) zeros seen) w) l)

pub repeats_gone : (l : List ℕ) → stay_by passes.Repeated zeros l ≡ firsts eqb (map bare l)
repeats_gone l = sym (firsts_after [] l)

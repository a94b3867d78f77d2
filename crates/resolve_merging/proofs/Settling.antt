-- The passes together: what remains, what is merged of it, and the answer as document 01 has it.
-- Assumes nothing.
use Prim.Native.Nat.{ℕ, ◌≤◌}
use native.Mathlib.Omega.{arith}
use mathlib.Core.Path.{◌≡◌, refl, sym, ◌∙◌, ap, ap₂, subst}
use mathlib.Core.Bool.{Bool, true, false, not, ◌&&◌}
use mathlib.Core.List.{List, [], ◌∷◌, map}
use mathlib.Core.Option.{Option}
use lib.Dec.{eqb}
use lib.ListN.{take}
use Rattle.reading.specs.Answer.{accepted}
use Rattle.reading_laws.specs.WellFormed.{none_twice}
use Rattle.text.specs.Lists.{all, any, keep, firsts}
use Rattle.resolving.specs.Faults.{forced_twice}
use Rattle.resolving.specs.Brought.{Brought}
use Rattle.resolving.specs.Merging.{forced_again, merged}
use Rattle.resolving.specs.Resolve.{at_most_once}
use Rattle.resolving_laws.specs.Flat.{terms_from}
use Rattle.text.proofs.All.{All, finished, also, neither-one, all_of, all_map, all_firsts}
use Rattle.text.proofs.Clashing.{clashes}
use Rattle.text.proofs.Once.{firsts-once}
use Rattle.std.specs.Prelude as prelude
use Rattle.resolve_merging.specs.Steps as steps
use Rattle.resolve_merging.specs.Sieves as passes
use Rattle.resolve_merging.specs.Packing.{effect_of, term_of, bare}
use Rattle.resolve_merging.specs.Runs.{remaining_in, forced_in, also_mandatory_in, united_in}
use Rattle.resolve_merging.specs.Tables.{entry, tally, zeros, Agree, Tallied, Anew}
use Rattle.resolve_merging.specs.Passes.{step_of, found_as, stay_by, Sifted, Left, Looked}
use Rattle.resolve_merging.specs.Outcomes.{Plain, Settles}
use Rattle.resolve_merging.proofs.Fields.{bare_twice}
use Rattle.resolve_merging.proofs.TableLaws.{kept_on, take_front, cleared_table}
use Rattle.resolve_merging.proofs.SiftLaws.{sifted_agree}
use Rattle.resolve_merging.proofs.PassLaws.{remaining-told, mandatory-kept, repeats_gone}
use Rattle.resolve_merging.proofs.Means.{forced_means, merged-means}

-- what stays, where the table is as the run leaves it
sifted_anew :
    {a b c : List ℕ} {n r : ℕ} (step : ℕ → ℕ → ℕ) (pass : _) → n ≤ 2048 → Anew step (take n a) a b → Sifted pass b c n r
    → take r c ≡ stay_by pass (tally step zeros (take n a)) (take n a)
sifted_anew {a} {b} {c} {n} {r} step pass few t s =
    s.numbers
    ∙ ap (stay_by pass (entry b)) (take_front a b n few t.terms)
    ∙ sifted_agree pass (entry b) (tally step zeros (take n a)) (take n a) t.entries

pub remain_left :
    {a b c : List ℕ} {n r : ℕ} → n ≤ 2048 → Anew (step_of steps.Explicit) (take n a) a b → Sifted passes.Overridden b c n r
    → Left (remaining_in (take n a)) n a c r
remain_left {a} {n = n} few t s = record {
  kept = kept_on t.kept s.kept;
  few = s.few;
  numbers = sifted_anew (step_of steps.Explicit) passes.Overridden few t s ∙ remaining-told (take n a);
}

pub unite_left :
    {a b c d e : List ℕ} {n k r : ℕ} → n ≤ 2048 → Anew (step_of steps.Mandatory) (take n a) a b → Sifted passes.AlsoMandatory b c n k
    → Tallied (step_of steps.Clear) (take k c) c d → Sifted passes.Repeated d e k r
    → Left (united_in (take n a)) n a e r
unite_left {a} {b} {c} {d} {e} {n} {k} {r} few t s v w = record {
  kept = kept_on t.kept (kept_on s.kept (kept_on v.kept w.kept));
  few = omega (arith, s.few, w.few);
  numbers =
      w.numbers
      ∙ ap (stay_by passes.Repeated (entry d)) (take_front c d k (omega (arith, s.few)) v.terms)
      ∙ sifted_agree passes.Repeated (entry d) zeros (take k c) (cleared_table v)
      ∙ repeats_gone (take k c)
      ∙ ap
      (λ (l : List ℕ). firsts eqb (map bare l))
      (sifted_anew (step_of steps.Mandatory) passes.AlsoMandatory few t s ∙ mandatory-kept (take n a));
}

-- a run that is looked through after its pairs' numbers are cleared
pub ready_cleared : {a b : List ℕ} {n : ℕ} → n ≤ 2048 → Tallied (step_of steps.Clear) (take n a) a b → Agree (take n b) (entry b) zeros
ready_cleared {a} {b} {n} few t =
    subst (λ (l : List ℕ). Agree l (entry b) zeros) (sym (take_front a b n few t.terms)) (cleared_table t)

pub looked_cleared :
    {a b c : List ℕ} {n : ℕ} {f : prelude.Option ℕ} → n ≤ 2048 → Tallied (step_of steps.Clear) (take n a) a b → Looked (take n b) b c f
    → Looked (take n a) a c f
looked_cleared {a} {b} {n = n} few t v = record {
  kept = kept_on t.kept v.kept;
  terms = v.terms ∙ t.terms;
  answer = v.answer ∙ ap forced_in (take_front a b n few t.terms);
}

-- effects alone, none twice
none_of : (p : ℕ → Bool) (l : List ℕ) → any p l ≡ false → all (λ y. not (p y)) l ≡ true
none_of p [] e = refl
none_of p (y ∷ l) e = let h = neither-one (p y) (any p l) e in ap₂ (λ (s t : Bool). not s && t) h.0 (none_of p l h.1)

none_twice_lem : (l : List ℕ) → clashes eqb l ≡ false → none_twice l ≡ true
none_twice_lem [] e = refl
none_twice_lem (x ∷ l) e =
    let h = neither-one (any (eqb x) l) (clashes eqb l) e in ap₂ ◌&&◌ (none_of (eqb x) l h.0) (none_twice_lem l h.1)

all-bare : {l : List ℕ} → All (λ x. bare x ≡ x) l → map bare l ≡ l
all-bare finished = refl
all-bare (also {x = x} {l = l} e h) = ap₂ (λ (y : ℕ) (m : List ℕ). y ∷ m) e (all-bare h)

united_plain : (l : List ℕ) → Plain (united_in l)
united_plain l =
    let k = keep (λ w. not (also_mandatory_in l w)) l in
    record {
      effects = all-bare (all_firsts eqb (all_map bare (λ x h. bare_twice x) (all_of {P = λ x. x ≡ x} (λ x. refl) k)));
      once = none_twice_lem (united_in l) (firsts-once eqb (map bare k));
    }

-- The answer, from what remains and what is found or merged.
module _ {a b c : List ℕ} {n left : ℕ} {f : prelude.Option ℕ}
    (few : n ≤ 2048) (v : Left (remaining_in (take n a)) n a b left) (w : Looked (take left b) b c f) where
  finding : (bs : List Brought) → map term_of (take n a) ≡ terms_from 0 bs → found_as f ≡ forced_again bs
  finding bs run = w.answer ∙ ap forced_in v.numbers ∙ forced_means (take n a) bs run

  pub forced_settles : (s : ℕ) → f ≡ prelude.Some s → Settles n a c (prelude.Err (record { statement = s }))
  forced_settles s g = record {
    kept = kept_on v.kept w.kept;
    plain = tt;
    answer = λ bs run. ap (λ (o : Option ℕ). at_most_once forced_twice o (accepted (merged bs))) (sym (ap found_as g) ∙ finding bs run);
  }

  pub merged_settles : {d : List ℕ} {m : ℕ} → f ≡ prelude.None → Left (united_in (take left c)) left c d m → Settles n a d (prelude.Ok m)
  merged_settles {d} {m} g u =
      let e : take m d ≡ united_in (remaining_in (take n a)) =
      u.numbers ∙ ap united_in (take_front b c left (omega (arith, v.few)) w.terms ∙ v.numbers) in
      record {
        kept = kept_on v.kept (kept_on w.kept u.kept);
        plain = (omega (arith, v.few, u.few), subst Plain (sym e) (united_plain (remaining_in (take n a))));
        answer = λ bs run.
            ap accepted (ap (map effect_of) e ∙ merged-means (take n a) bs run)
            ∙ ap (λ (o : Option ℕ). at_most_once forced_twice o (accepted (merged bs))) (sym (ap found_as g) ∙ finding bs run);
      }

-- Effects without repeats and their groups, one term after the other.
-- Assumes nothing.
use Prim.Native.Nat.{ℕ, ◌+◌, ◌*◌, ◌≤◌, ◌<◌}
use native.Mathlib.Numerals.{add-one}
use native.Mathlib.Omega.{arith}
use mathlib.Core.Path.{◌≡◌, refl, sym, ◌∙◌, ap, ap₂, fun_ext, subst}
use mathlib.Core.Bool.{Bool, true, false, cond}
use mathlib.Core.List.{List, [], ◌∷◌, ◌++◌, map}
use borrow.Author.Tests.{eqb-true}
use lib.Dec.{eqb}
use lib.ListN.{length, take, get_or, set, length-take}
use lib.Seq.{take-suc-set, get_or-set_other}
use Rattle.text.specs.Lists.{any, firsts}
use Rattle.text.proofs.Appended.{map-append, firsts-one_more}
use Rattle.text.proofs.Runs.{any-firsts}
use Rattle.resolve_merging.specs.Packing.{bare}
use Rattle.resolve_merging.specs.Tables.{Kept}
use Rattle.resolve_merging.proofs.Fields.{bare_twice}
use Rattle.resolve_merging.proofs.Mapped.{append-none, any-map}
use Rattle.resolve_merging.proofs.TableLaws.{kept_self, kept_on, kept_set, take_more}
use Rattle.resolve_merging_few.specs.declared.United.{United}
use Rattle.resolve_merging_few.specs.Listing.{EffectPut, OneUnited}
use Rattle.resolve_merging_few.specs.Merging.{AllUnited}
use Rattle.resolve_merging_few.proofs.Listing.{Listing, listing_start, listing_next, listing_end, put-told}

-- the first occurrences of effects
abbrev once_in : List ℕ → List ℕ
once_in l = firsts eqb (map bare l)

-- an effect is among the first occurrences if it is among all
seen_before : (d : List ℕ) (w : ℕ) → any (λ u. eqb (bare u) (bare (bare w))) (once_in d) ≡ any (λ y. eqb y (bare w)) (map bare d)
seen_before d w =
    any-firsts eqb eqb-true (λ u. eqb (bare u) (bare (bare w))) (map bare d)
    ∙ any-map bare (λ u. eqb (bare u) (bare (bare w))) d
    ∙ ap (λ (p : ℕ → Bool). any p d) (fun_ext (λ u. ap₂ eqb (bare_twice u) (bare_twice w)))
    ∙ sym (any-map bare (λ y. eqb y (bare w)) d)

once_more :
    (d : List ℕ) (w : ℕ) (t : Bool) → any (λ u. eqb (bare u) (bare (bare w))) (once_in d) ≡ t
    → cond t (once_in d) (once_in d ++ bare w ∷ []) ≡ once_in (d ++ w ∷ [])
once_more d w t e =
    by_cases t
    ∙ ap (λ (s : Bool). once_in d ++ cond s [] (bare w ∷ [])) (sym e ∙ seen_before d w)
    ∙ sym (ap (firsts eqb) (map-append bare d (w ∷ [])) ∙ firsts-one_more eqb (map bare d) (bare w))
  where
    by_cases : (s : Bool) → cond s (once_in d) (once_in d ++ bare w ∷ []) ≡ once_in d ++ cond s [] (bare w ∷ [])
    by_cases true = sym (append-none (once_in d))
    by_cases false = refl

-- The loop: the effects so far without repeats are the first, and their groups are listed; the terms that are left stand as they did.
pub record Uniting (a b listed : List ℕ) (at k i : ℕ) : Type 0 where
  pub kept : Kept a b
  pub few : at ≤ i
  pub numbers : take at b ≡ once_in (take i a)
  pub ahead : (j : ℕ) → i ≤ j → get_or b j 0 ≡ get_or a j 0
  pub groups : Listing (take at b) listed k

pub uniting_start : (a listed : List ℕ) → Uniting a a listed 0 0 0
uniting_start a listed = record {
  kept = kept_self a;
  few = omega arith;
  numbers = refl;
  ahead = λ j h. refl;
  groups = listing_start listed;
}

-- there are no more groups than terms so far
pub groups-few : {a b listed : List ℕ} {at k i : ℕ} → Uniting a b listed at k i → k ≤ i
groups-few {b = b} {at = at} v = omega (arith, v.groups.few, length-take at b, v.few)

pub uniting_end :
    {a b listed : List ℕ} {at k i n : ℕ} → n ≤ 64 → n ≤ length a → i ≡ n → Uniting a b listed at k i
    → AllUnited n a b listed (record { effects = at; groups = k })
uniting_end {a} {b} {at = at} low room e v = record {
  left = record {
    kept = v.kept;
    few = omega (arith, v.few, e);
    numbers = v.numbers ∙ ap (λ (j : ℕ). once_in (take j a)) e;
  };
  groups = listing_end b at (omega (arith, v.few, e, low)) (omega (arith, v.few, e, room, v.kept.size)) v.groups;
}

module _ {a b listed : List ℕ} {at k i : ℕ} (low : i < 64) (room : i < length a) (wide : 2 * k + 1 < length listed) (v : Uniting a b listed at k i) where
  abbrev effect : ℕ
  effect = bare (get_or b i 0)

  -- the first occurrences with this effect, by whether it is a repeat
  by_test :
      {listed' : List ℕ} {t : Bool} {r : ℕ} → EffectPut listed listed' k effect t r → cond t (take at b) (take at b ++ effect ∷ []) ≡ once_in (take (i + 1) a)
  by_test {t = t} p =
      ap (λ (l : List ℕ). cond t l (l ++ effect ∷ [])) v.numbers
      ∙ once_more (take i a) (get_or b i 0) t
      (ap (any (λ u. eqb (bare u) (bare effect))) (sym v.numbers) ∙ put-told effect v.groups p)
      ∙ ap (λ (x : ℕ). once_in (take i a ++ x ∷ [])) (v.ahead i (omega arith))
      ∙ sym (ap once_in (take_more a i room))

  goes : {listed' : List ℕ} {r : ℕ} → EffectPut listed listed' k effect true r → Uniting a b listed' at r (i + 1)
  goes p = record {
    kept = v.kept;
    few = omega (arith, v.few);
    numbers = by_test p;
    ahead = λ j h. v.ahead j (omega (arith, h));
    groups = listing_next effect v.groups wide p;
  }

  moves : {listed' : List ℕ} {r : ℕ} → EffectPut listed listed' k effect false r → Uniting a (set b at effect) listed' (at + 1) r (i + 1)
  moves {listed'} {r} p =
      let front : take (at + 1) (set b at effect) ≡ take at b ++ effect ∷ [] =
      ap (λ (l : ℕ). take l (set b at effect)) (add-one at) ∙ take-suc-set b at effect (omega (arith, v.few, v.kept.size, room)) in
      record {
        kept = kept_on v.kept (kept_set b at effect (omega (arith, v.few, low)));
        few = omega (arith, v.few);
        numbers = front ∙ by_test p;
        ahead = λ j h. get_or-set_other b at j effect 0 (λ q. omega (arith, q, h, v.few)) ∙ v.ahead j (omega (arith, h));
        groups = subst (λ (l : List ℕ). Listing l listed' r) (sym front) (listing_next effect v.groups wide p);
      }

  pub uniting_next : {c listed' : List ℕ} {r : United} → OneUnited b c listed listed' at k i r → Uniting a c listed' r.effects r.groups (i + 1)
  uniting_next {c} {listed'} {r} o = by_cases o.again o.put o.numbers o.next
    where
      by_cases :
          (t : Bool) → EffectPut listed listed' k effect t r.groups → c ≡ cond t b (set b at effect) → r.effects ≡ cond t at (at + 1)
          → Uniting a c listed' r.effects r.groups (i + 1)
      by_cases true p e n =
          subst (λ (y : ℕ). Uniting a c listed' y r.groups (i + 1)) (sym n)
          (subst (λ (x : List ℕ). Uniting a x listed' at r.groups (i + 1)) (sym e) (goes p))
      by_cases false p e n =
          subst (λ (y : ℕ). Uniting a c listed' y r.groups (i + 1)) (sym n)
          (subst (λ (x : List ℕ). Uniting a x listed' (at + 1) r.groups (i + 1)) (sym e) (moves p))

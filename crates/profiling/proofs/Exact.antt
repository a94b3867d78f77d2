-- "It says yes exactly for those": a text that passes is inside the profile, and one that is inside passes.
-- Assumes nothing.
use Prim.Native.Nat.{ℕ, suc, ◌≤◌}
use native.Mathlib.Omega.{arith}
use mathlib.Core.Path.{◌≡◌, refl, ◌∙◌, ap, ap₂, sym, subst}
use mathlib.Core.Bool.{Bool, true, false, cond, ◌||◌, true≢false}
use mathlib.Core.List.{List, [], ◌∷◌, map}
use borrow.Author.Tests.{eqb-true, eq-eqb}
use lib.ListN.{length}
use Rattle.reading.specs.Statement.{Statement}
use Rattle.reading.specs.Answer.{Answer, accepted, ◌>>=◌}
use Rattle.reading.specs.Read.{read_text}
use Rattle.text.specs.Lists.{any, keep}
use Rattle.text.proofs.All.{neither-one}
use Rattle.reading.proofs.Answers.{bind_passed}
use Rattle.profiling.specs.Profile.{
  Mark,
  outside,
  plain,
  once,
  mark_of,
  is_outside,
  is_of,
  is_second,
  has_high,
  profile_from,
  profile_of,
  profile_text,
}
use Rattle.profiling.specs.Inside.{Inside}
use Rattle.profiling.proofs.Passing.{first-passed, first_passes}

-- how many marks there are of one of the five, and how many more there may be behind those that were seen
abbrev many : ℕ → List Mark → ℕ
many k ms = length (keep (is_of k) ms)

abbrev room : Bool → ℕ
room t = cond t 0 1

-- what is known of marks behind those that were seen
record Stands (seen ms : List Mark) : Type 0 where
  none-outside : any is_outside ms ≡ false
  each-once : (k : ℕ) → many k ms ≤ room (any (is_of k) seen)
  none_high : any has_high ms ≡ false

-- one that is of the five came before exactly if it is the second
second_of : (seen : List Mark) (m : Mark) (k : ℕ) → is_of k m ≡ true → is_second seen m ≡ any (is_of k) seen
second_of seen outside k e = absurd (true≢false (sym e))
second_of seen plain k e = absurd (true≢false (sym e))
second_of seen (once j h) k e = ap (λ (n : ℕ). any (is_of n) seen) (sym (eqb-true k j e))

-- one more in front of marks of which there may be so many
one_more :
    (t : Bool) (seen : Bool) (m : Mark) (l : List Mark) → (t ≡ true → seen ≡ false) → length l ≤ room (t || seen)
    → length (cond t (m ∷ l) l) ≤ room seen
one_more true seen m l f h = rw (f refl) (omega (arith, h))
one_more false seen m l f h = h

one_less : (t : Bool) (seen : Bool) (m : Mark) (l : List Mark) → length (cond t (m ∷ l) l) ≤ room seen → length l ≤ room (t || seen)
one_less true true m l h = omega (arith, h)
one_less true false m l h = omega (arith, h)
one_less false seen m l h = h

no_room : (seen : Bool) (m : Mark) (l : List Mark) → length (m ∷ l) ≤ room seen → seen ≡ false
no_room true m l h = absurd (omega (arith, h))
no_room false m l h = refl

passing_stands : (i : ℕ) (seen ms : List Mark) → profile_from i seen ms ≡ accepted tt → Stands seen ms
passing_stands i seen [] e = record { none-outside = refl; each-once = λ k. omega arith; none_high = refl }
passing_stands i seen (m ∷ ms) e =
    let p = first-passed i seen m ms e in
    let r = passing_stands (suc i) (m ∷ seen) ms p.others in
    record {
      none-outside = ap₂ ◌||◌ p.not-outside r.none-outside;
      each-once = λ k.
          one_more (is_of k m) (any (is_of k) seen) m (keep (is_of k) ms) (λ q. sym (second_of seen m k q) ∙ p.not-second) (r.each-once k);
      none_high = ap₂ ◌||◌ p.not_high r.none_high;
    }

first-once : (seen : List Mark) (m : Mark) (ms : List Mark) → ((k : ℕ) → many k (m ∷ ms) ≤ room (any (is_of k) seen)) → is_second seen m ≡ false
first-once seen outside ms h = refl
first-once seen plain ms h = refl
first-once seen (once k b) ms h =
    no_room (any (is_of k) seen) (once k b) (keep (is_of k) ms)
    (subst (λ (t : Bool). length (cond t (once k b ∷ keep (is_of k) ms) (keep (is_of k) ms)) ≤ room (any (is_of k) seen)) (eq-eqb k k refl) (h k))

stands_passing : (i : ℕ) (seen ms : List Mark) → Stands seen ms → profile_from i seen ms ≡ accepted tt
unfolding profile_from
stands_passing i seen [] s = refl
stands_passing i seen (m ∷ ms) s =
    let a = neither-one (is_outside m) (any is_outside ms) s.none-outside in
    let b = neither-one (has_high m) (any has_high ms) s.none_high in
    let r : Stands (m ∷ seen) ms =
    record {
      none-outside = a.1;
      each-once = λ k. one_less (is_of k m) (any (is_of k) seen) m (keep (is_of k) ms) (s.each-once k);
      none_high = b.1;
    } in
    first_passes i seen m ms
    (record {
      not-outside = a.0;
      not-second = first-once seen m ms s.each-once;
      not_high = b.0;
      others = stands_passing (suc i) (m ∷ seen) ms r;
    })

-- A text that passes is inside.
pub yes_inside : (ceiling : ℕ) (text : List ℕ) → profile_text ceiling text ≡ accepted tt → Inside ceiling text
unfolding profile_text profile_of
yes_inside ceiling text e =
    let a = bind_passed (read_text ceiling text) profile_of e in
    let s = passing_stands 0 [] (map mark_of a.value) a.next in
    record { statements = a.value; read = a.is; none-outside = s.none-outside; each-once = s.each-once; none_high = s.none_high }

-- A text that is inside passes.
pub inside_yes : (ceiling : ℕ) (text : List ℕ) → Inside ceiling text → profile_text ceiling text ≡ accepted tt
unfolding profile_text profile_of
inside_yes ceiling text s =
    ap (λ (a : Answer (List Statement)). a >>= profile_of) s.read
    ∙ stands_passing 0 [] (map mark_of s.statements)
    (record { none-outside = s.none-outside; each-once = s.each-once; none_high = s.none_high })

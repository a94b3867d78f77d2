-- What symbols mean: the same where the LETs come in another order and no two have one key; and statements that are no LETs give no key.
-- Assumes nothing.
use Prim.Native.Nat.{ℕ}
use mathlib.Core.Path.{◌≡◌, refl, sym, ◌∙◌, ap, ap₂, subst, fun_ext}
use mathlib.Core.Bool.{Bool, true, false, cond, ◌||◌, true≢false, false≢true}
use mathlib.Core.List.{List}
use mathlib.Core.Option.{Option, some, none}
use Rattle.text.proofs.Tests.{refuted}
use Rattle.labels.specs.Word.{same_word}
use Rattle.labels.proofs.Words.{same_sym, same_trans}
use Rattle.reading.specs.Statement.{Statement, Let, feature}
use Rattle.reading.specs.Answer.{Answer}
use Rattle.text.specs.Lists.{any, again, absent}
use Rattle.resolving.specs.Context.{Context}
use Rattle.resolving.specs.Builtins.{builtin}
use Rattle.resolving.specs.Symbols.{Meaning, Definition, lets, same_key, letting, meaning_after, look_up}
use Rattle.resolving.specs.Resolve.{at_most_once, with_symbols}
use Rattle.resolving_laws.specs.Alike.{Alike, neither}
use Rattle.text.proofs.Bools.{equally}
use Rattle.text.proofs.Permuted.{Permuted, front, further, swapped, unmoved}
use Rattle.text.proofs.All.{All, all_none, all_of, also, finished, neither-one}
use Rattle.text.proofs.Clashing.{again_permuted, clashes, clashes_permuted, never_again, never_clash}

key_sym : (d f : Option Definition) → same_key d f ≡ same_key f d
key_sym none none = refl
key_sym none (some f) = refl
key_sym (some d) none = refl
key_sym (some d) (some f) =
    equally (same_word d.key f.key) (same_word f.key d.key) (same_sym d.key f.key) (same_sym f.key d.key)

-- a symbol has one of two keys that differ
one_key : (u w v : List ℕ) → same_word u v ≡ false → same_word w u ≡ true → same_word w v ≡ false
one_key u w v h k = refuted (same_word w v) (λ q. true≢false (sym (same_trans u w v (same_sym w u k) q) ∙ h))

letting_swapped :
    (look : Meaning) (d f : Option Definition) → same_key d f ≡ false → letting (letting look d) f ≡ letting (letting look f) d
letting_swapped look none f e = refl
letting_swapped look (some d) none e = refl
letting_swapped look (some d) (some f) e = fun_ext (λ w. by_cases w (same_word w d.key) (same_word w f.key) refl refl)
  where
    by_cases :
        (w : List ℕ) (a b : Bool) → same_word w d.key ≡ a → same_word w f.key ≡ b
        → cond b (some f.values) (cond a (some d.values) (look w))
        ≡ cond a (some d.values) (cond b (some f.values) (look w))
    by_cases w true true p q = absurd (true≢false (sym q ∙ one_key d.key w f.key e p))
    by_cases w true false p q = refl
    by_cases w false b p q = refl

meaning_permuted :
    (look : Meaning) {ds fs : List (Option Definition)} → Permuted ds fs → clashes same_key ds ≡ false
    → meaning_after look ds ≡ meaning_after look fs
meaning_permuted look unmoved e = refl
meaning_permuted look (front d {l} p) e = meaning_permuted (letting look d) p (neither-one (any (same_key d) l) (clashes same_key l) e).1
meaning_permuted look (swapped d f l) e =
    let h = neither-one (same_key d f || any (same_key d) l) (any (same_key f) l || clashes same_key l) e in
    ap (λ (m : Meaning). meaning_after m l) (letting_swapped look d f (neither-one (same_key d f) (any (same_key d) l) h.0).0)
meaning_permuted look (further p q) e =
    meaning_permuted look p e ∙ meaning_permuted look q (sym (clashes_permuted same_key key_sym p) ∙ e)

look_up_permuted :
    (c : Context) {ds fs : List (Option Definition)} → Permuted ds fs → clashes same_key ds ≡ false → look_up c ds ≡ look_up c fs
unfolding look_up
look_up_permuted c p e = meaning_permuted (builtin c) p e

-- Answers that are alike whatever symbols mean are alike with the meanings of LETs in any order.
pub with_symbols_alike :
    {A B : Type 0} {r : A → B → Type 0} (c : Context) {ds fs : List (Option Definition)}
    → Permuted ds fs
    → (f : Meaning → Answer A) (g : Meaning → Answer B)
    → ((look : Meaning) → Alike r (f look) (g look))
    → Alike r (with_symbols c ds f) (with_symbols c fs g)
with_symbols_alike {r} c {ds} {fs} p f g h =
    by_cases (again same_key ds) (again same_key fs) refl (again_permuted same_key key_sym p)
  where
    by_cases :
        (i j : Option ℕ)
        → again same_key ds ≡ i
        → absent i ≡ absent j
        → Alike r (at_most_once 13 i (f (look_up c ds))) (at_most_once 13 j (g (look_up c fs)))
    by_cases none none e q =
        subst
        (λ (look : Meaning). Alike r (f (look_up c ds)) (g look))
        (look_up_permuted c p (never_clash same_key ds e))
        (h (look_up c ds))
    by_cases none (some j) e q = absurd (true≢false q)
    by_cases (some i) none e q = absurd (false≢true q)
    by_cases (some i) (some j) e q = neither

-- Statements that are no LETs.

abbrev pub is_let : Statement → Bool
is_let (Let n is) = true
is_let (feature f) = false

no_keys : {ss : List Statement} → All (λ s. is_let s ≡ false) ss → clashes same_key (lets ss) ≡ false
no_keys finished = refl
no_keys (also {x = Let n is} h r) = absurd (true≢false h)
no_keys (also {x = feature f} {l = ss} h r) = ap₂ ◌||◌ (all_none (same_key none) (all_of (λ d. refl) (lets ss))) (no_keys r)

pub without-lets :
    {A : Type 0} (c : Context) {ss : List Statement} → All (λ s. is_let s ≡ false) ss → (f : Meaning → Answer A)
    → with_symbols c (lets ss) f ≡ f (look_up c (lets ss))
without-lets {A} c {ss} h f =
    ap (λ (o : Option ℕ). at_most_once 13 o (f (look_up c (lets ss)))) (never_again same_key (lets ss) (no_keys h))

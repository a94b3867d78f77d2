-- The two theorems, of texts and of contexts as they are handed over.
-- Assumes nothing.
use Prim.Native.Nat.{ℕ}
use mathlib.Core.Path.{◌≡◌, refl, sym, ◌∙◌, ap, ap₂, subst₂}
use mathlib.Core.Bool.{Bool, true, false, cond}
use mathlib.Core.List.{List, [], ◌∷◌, map}
use lib.Dec.{eqb}
use Rattle.reading.specs.Statement.{Statement}
use Rattle.reading.specs.Answer.{Answer, accepted, refused, ◌>>=◌}
use Rattle.reading.specs.Read.{read_text}
use Rattle.canonical_laws.specs.Forgotten.{forget}
use Rattle.resolving.specs.Context.{Context}
use Rattle.text.specs.Lists.{any}
use Rattle.resolving.specs.Effects.{Effect}
use Rattle.resolving.specs.Merging.{same_effect}
use Rattle.resolving.specs.Resolve.{Resolved, resolve, additive}
use Rattle.resolving.specs.Given.{Given, is_context, context_in, resolve_text}
use Rattle.resolving_laws.specs.Alike.{Alike, neither}
use Rattle.resolving_laws.specs.Same.{occurrences}
use Rattle.resolving_laws.specs.Claims.{SameStatements, SameEffects, Reordered, SameLength, is_dropped, Kept}
use Rattle.text.proofs.Permuted.{Permuted, any_permuted}
use Rattle.text.proofs.All.{All}
use Rattle.resolving_laws.proofs.Below.{Below64, resolved_below}
use Rattle.resolving_laws.proofs.Answering.{alike_weaker}
use Rattle.reading.proofs.Answers.{not-refused}
use Rattle.resolving_laws.proofs.Reordering.{Likewise, resolve_permuted}
use Rattle.resolving_laws.proofs.Places.{resolve_forgets}
use Rattle.resolving_laws.proofs.SameLaws.{as_often_permuted}
use Rattle.resolving_laws.proofs.Rereading.{text_reread}
use Rattle.resolving_laws.proofs.GivenReadable.{given_readable}

-- permuted effects are the same set
permuted_effects : (r s : Resolved) → Permuted r.effects s.effects → SameEffects r s
permuted_effects r s p e = any_permuted (same_effect e) p

statements_reordered :
    (c : Context) (ss ts : List Statement) → ((s : Statement) → occurrences s (map forget ss) ≡ occurrences s (map forget ts))
    → Alike Likewise (resolve c ss) (resolve c ts)
statements_reordered c ss ts h =
    subst₂
    (Alike Likewise)
    (resolve_forgets c ss)
    (resolve_forgets c ts)
    (resolve_permuted c (as_often_permuted (map forget ss) (map forget ts) h))

-- the call's answer, after reading and with the context's check
abbrev answered : Given → Bool → Answer (List Statement) → Answer Resolved
answered g t a = a >>= λ ss. cond t (resolve (context_in g) ss) (refused 12 0)

texts_reordered :
    (limit : ℕ) (g : Given) (a d : List ℕ) → SameStatements limit a d
    → Alike Likewise (resolve_text limit g a) (resolve_text limit g d)
unfolding resolve_text
texts_reordered limit g a d s =
    subst₂
    (λ (x y : Answer (List Statement)). Alike Likewise (answered g (is_context g) x) (answered g (is_context g) y))
    (sym s.first_read)
    (sym s.second-read)
    (by_cases (is_context g))
  where
    by_cases : (t : Bool) → Alike Likewise (answered g t (accepted s.first)) (answered g t (accepted s.second))
    by_cases true = statements_reordered (context_in g) s.first s.second s.as_often
    by_cases false = neither

-- Reordering: where two texts are accepted and one has each of the other's statements as often, one resolves in a context exactly when the
-- other does, and then to the same set of effects.
pub reordered_alike : (limit : ℕ) (g : Given) (a d : List ℕ) → SameStatements limit a d → Reordered limit g a d
reordered_alike limit g a d s = alike_weaker (λ x y h. permuted_effects x y h.permuted) (texts_reordered limit g a d s)

-- And to ground texts of one length.
pub reordered_length :
    (limit : ℕ) (g : Given) (a d : List ℕ) → SameStatements limit a d → Alike SameLength (resolve_text limit g a) (resolve_text limit g d)
reordered_length limit g a d s = alike_weaker (λ x y h. h.same_length) (texts_reordered limit g a d s)

-- notes of additive effects alone drop nothing
additive_drops_none : (es : List Effect) → any is_dropped (additive es) ≡ false
additive_drops_none es = by_cases (any (λ e. eqb e.operator 1) es)
  where
    by_cases : (t : Bool) → any is_dropped (cond t (record { reason = 1; index = 0 } ∷ []) []) ≡ false
    by_cases true = refl
    by_cases false = refl

-- What a text that resolves was: accepted statements, in a context as document 01 says, that resolve.
record Answered (limit : ℕ) (g : Given) (text : List ℕ) (r : Resolved) : Type 0 where
  statements : List Statement
  read : read_text limit text ≡ accepted statements
  stands : is_context g ≡ true
  resolves : resolve (context_in g) statements ≡ accepted r

answered_so : (limit : ℕ) (g : Given) (text : List ℕ) (r : Resolved) → resolve_text limit g text ≡ accepted r → Answered limit g text r
unfolding resolve_text
answered_so limit g text r e = by_cases (read_text limit text) (is_context g) refl refl e
  where
    by_cases :
        (a : Answer (List Statement)) (t : Bool) → read_text limit text ≡ a → is_context g ≡ t → answered g t a ≡ accepted r
        → Answered limit g text r
    by_cases (refused n p) t h k e = absurd (not-refused e)
    by_cases (accepted ss) false h k e = absurd (not-refused e)
    by_cases (accepted ss) true h k e = record { statements = ss; read = h; stands = k; resolves = e }

-- Rereading: where a text resolves in a context, its ground text is accepted, is its own canonical text, and resolves in that context, to the
-- same bytes and the same set of effects, and nothing is dropped.
pub ground_text-kept :
    (limit : ℕ) (g : Given) (text : List ℕ) (r : Resolved) → resolve_text limit g text ≡ accepted r
    → Kept limit g r
unfolding resolve_text
ground_text-kept limit g text r e =
    let a = answered_so limit g text r e in
    let again = text_reread limit (context_in g) text a.statements r (given_readable g a.stands) a.read a.resolves in
    record {
      prints = again.prints;
      result = again.result;
      resolves = ap₂ (λ (x : Answer (List Statement)) (t : Bool). answered g t x) again.read a.stands ∙ again.resolves;
      same = again.same;
      undropped = ap (any is_dropped) again.undropped ∙ additive_drops_none again.result.effects;
      same-effects = permuted_effects r again.result again.permuted;
    }

-- Effects are told by numbers below 64.
pub effects-below : (limit : ℕ) (g : Given) (text : List ℕ) (r : Resolved) → resolve_text limit g text ≡ accepted r → All Below64 r.effects
effects-below limit g text r e =
    let a = answered_so limit g text r e in
    resolved_below (context_in g) (given_readable g a.stands) a.statements r a.resolves

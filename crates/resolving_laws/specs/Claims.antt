-- What is claimed of Resolve in every context: of texts of the same statements in whatever order, and of ground texts.
use Rattle.std.specs.Prelude.{ℕ, ◌≡◌, Bool, false, List, map, eqb, length}
use Rattle.reading.specs.Statement.{Statement}
use Rattle.reading.specs.Answer.{accepted}
use Rattle.reading.specs.Read.{read_text}
use Rattle.canonical.specs.Print.{print_text}
use Rattle.canonical_laws.specs.Forgotten.{forget}
use Rattle.text.specs.Lists.{any}
use Rattle.resolving.specs.Effects.{Effect}
use Rattle.resolving.specs.Merging.{same_effect}
use Rattle.resolving.specs.Resolve.{Note, Resolved, ground_text}
use Rattle.resolving.specs.Given.{Given, resolve_text}
use Rattle.resolving_laws.specs.Alike.{Alike}
use Rattle.resolving_laws.specs.Same.{occurrences}

-- "every accepted file D of A's statements in whatever order": "D has each as often as A"
pub record SameStatements (limit : ℕ) (a d : List ℕ) : Type 0 where
  pub first : List Statement
  pub second : List Statement
  pub first_read : read_text limit a ≡ accepted first
  pub second-read : read_text limit d ≡ accepted second
  pub as_often : (s : Statement) → occurrences s (map forget first) ≡ occurrences s (map forget second)

-- "Effects are compared as their five numbers, listing order ignored": an effect is in one list exactly if it is in the other.
abbrev pub is_in : List Effect → Effect → Bool
is_in es e = any (same_effect e) es

abbrev pub SameEffects : Resolved → Resolved → Type 0
SameEffects r s = (e : Effect) → is_in r.effects e ≡ is_in s.effects e

-- "D resolves with C exactly when A does, and then to the same set of covariate effects"
abbrev pub Reordered : ℕ → Given → List ℕ → List ℕ → Type 0
Reordered limit g a d = Alike SameEffects (resolve_text limit g a) (resolve_text limit g d)

-- and to ground texts of one length
abbrev pub SameLength : Resolved → Resolved → Type 0
SameLength r s = length (ground_text r) ≡ length (ground_text s)

-- "Dropped: a note of reason 0."
abbrev pub is_dropped : Note → Bool
is_dropped n = eqb n.reason 0

-- "A's ground text .., read and resolved with C again, gives its own bytes back with nothing dropped": and the same effects.
pub record Kept (limit : ℕ) (g : Given) (r : Resolved) : Type 0 where
  pub prints : print_text limit (ground_text r) ≡ accepted (ground_text r)
  pub result : Resolved
  pub resolves : resolve_text limit g (ground_text r) ≡ accepted result
  pub same : ground_text result ≡ ground_text r
  pub undropped : any is_dropped result.notes ≡ false
  pub same-effects : SameEffects r result

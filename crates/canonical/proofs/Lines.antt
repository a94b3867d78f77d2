-- A canonical text is its statements' lines joined by `;`, and their pieces one after the other.
-- Assumes nothing.
use mathlib.Core.Path.{◌≡◌, refl, ◌∙◌, ap, sym}
use mathlib.Core.List.{List, [], ◌∷◌, ◌++◌, append-nil}
use Prim.Native.Nat.{ℕ, zero, suc}
use Rattle.tokens.proofs.Spelling.{spell-append}
use Rattle.reading.specs.Statement.{Statement}
use Rattle.canonical.specs.Canonical.{sign, statement_shapes, text_shapes, canonical}
use Rattle.canonical.specs.Lines.{line, lines, joined, joint_of, rest_of}

-- two statements or more
canonical-more : (s t : Statement) (ss : List Statement) → canonical (s ∷ t ∷ ss) ≡ line s ++ (59 ∷ canonical (t ∷ ss))
unfolding text_shapes
canonical-more s t ss = spell-append (statement_shapes s) (sign ";" ∷ text_shapes (t ∷ ss))

pub canonical-joined : (ss : List Statement) → canonical ss ≡ joined 59 (lines ss)
unfolding text_shapes
canonical-joined [] = refl
canonical-joined (s ∷ []) = refl
canonical-joined (s ∷ t ∷ ss) = canonical-more s t ss ∙ ap (λ (l : List ℕ). line s ++ 59 ∷ l) (canonical-joined (t ∷ ss))

-- behind the first statement each has its `;`
behind-first : (n : ℕ) (s : Statement) (ss : List Statement) → rest_of (suc n) (s ∷ ss) ≡ 59 ∷ canonical (s ∷ ss)
unfolding text_shapes
behind-first n s [] = ap (λ (l : List ℕ). 59 ∷ l) (append-nil (line s))
behind-first n s (t ∷ ss) =
    ap (λ (l : List ℕ). 59 ∷ line s ++ l) (behind-first (suc n) t ss) ∙ ap (λ (l : List ℕ). 59 ∷ l) (sym (canonical-more s t ss))

pub canonical_pieces : (ss : List Statement) → canonical ss ≡ rest_of 0 ss
unfolding text_shapes
canonical_pieces [] = refl
canonical_pieces (s ∷ []) = sym (append-nil (line s))
canonical_pieces (s ∷ t ∷ ss) = canonical-more s t ss ∙ ap (λ (l : List ℕ). line s ++ l) (sym (behind-first 0 t ss))

-- a `;` stands before every statement but the first
pub joint_later : (n : ℕ) → (n ≡ 0 → ⊥) → joint_of n ≡ 59 ∷ []
joint_later zero h = absurd (h refl)
joint_later (suc n) h = refl

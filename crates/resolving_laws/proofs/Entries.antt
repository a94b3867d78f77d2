-- Names that are held to a list: each has the index of its first entry, and the names at those indexes are held to it again.
-- Assumes nothing.
use Prim.Native.Nat.{ℕ, suc}
use mathlib.Core.Path.{◌≡◌, refl, sym, ◌∙◌, ap, ap₂, subst}
use mathlib.Core.Bool.{Bool, true, false, cond, ◌&&◌, false≢true}
use mathlib.Core.List.{List, [], ◌∷◌, map}
use mathlib.Core.Option.{Option, some, none}
use lib.Dec.{eqb}
use lib.ListN.{get_or}
use borrow.Author.Tests.{eqb-true, eq-eqb}
use Rattle.text.proofs.Tests.{halves}
use Rattle.text.specs.Lists.{later_by_one, firsts, place_in, same_bytes}
use Rattle.reading.specs.Statement.{Name, Operand, everyone, symbol, names}
use Rattle.reading.specs.Answer.{Answer, accepted, refused, ◌>>=◌}
use Rattle.reading_laws.specs.WellFormed.{Gives, given, nothing}
use Rattle.reading_laws.proofs.Giving.{gives_bind}
use Rattle.reading_laws.proofs.Faults.{Anything}
use Rattle.resolving.specs.Context.{Context, covariates}
use Rattle.resolving.specs.Symbols.{Meaning}
use Rattle.resolving.specs.Operands.{known, names_of, entered, entry_of, entries_of, held, parameters_of, covariates_of}
use Rattle.resolving.specs.Brought.{plain_name}
use Rattle.text.proofs.Bools.{none≢some}
use Rattle.text.proofs.All.{All, finished, also, all_firsts}
use Rattle.text.proofs.Once.{firsts-once, once-firsts}

-- the index of its name's first entry
abbrev pub FirstAt : List (List ℕ) → ℕ → Type 0
FirstAt list i = place_in (same_bytes (get_or list i [])) list ≡ some i

pub record Entries (list : List (List ℕ)) (is : List ℕ) : Type 0 where
  pub first : All (FirstAt list) is
  pub once : firsts eqb is ≡ is

-- Names that are equal.

pub bytes_self : (w : List ℕ) → same_bytes w w ≡ true
bytes_self [] = refl
bytes_self (x ∷ w) = ap₂ ◌&&◌ (eq-eqb x x refl) (bytes_self w)

pub bytes-equal : (v w : List ℕ) → same_bytes v w ≡ true → v ≡ w
bytes-equal [] [] e = refl
bytes-equal [] (y ∷ ys) e = absurd (false≢true e)
bytes-equal (x ∷ xs) [] e = absurd (false≢true e)
bytes-equal (x ∷ xs) (y ∷ ys) e =
    let h = halves (eqb x y) (same_bytes xs ys) e in
    ap₂ ◌∷◌ (eqb-true x y h.0) (bytes-equal xs ys h.1)

pub place-entry : (w : List ℕ) (list : List (List ℕ)) (i : ℕ) → place_in (same_bytes w) list ≡ some i → get_or list i [] ≡ w
place-entry w [] i e = absurd (none≢some e)
place-entry w (v ∷ list) i e = by_cases (same_bytes w v) (place_in (same_bytes w) list) refl refl e (place-entry w list)
  where
    by_cases :
        (t : Bool) (o : Option ℕ)
        → same_bytes w v ≡ t
        → place_in (same_bytes w) list ≡ o
        → cond t (some 0) (later_by_one o) ≡ some i
        → ((j : ℕ) → place_in (same_bytes w) list ≡ some j → get_or list j [] ≡ w)
        → get_or (v ∷ list) i [] ≡ w
    by_cases true o s p e r =
        let z : 0 ≡ i = cc in
        subst (λ (j : ℕ). get_or (v ∷ list) j [] ≡ w) z (sym (bytes-equal w v s))
    by_cases false none s p e r = absurd (none≢some e)
    by_cases false (some j) s p e r =
        let z : suc j ≡ i = cc in
        subst (λ (k : ℕ). get_or (v ∷ list) k [] ≡ w) z (r j p)

pub entry_first : (list : List (List ℕ)) (w : List ℕ) → Gives (FirstAt list) (entry_of list w)
entry_first list w = by_cases (place_in (same_bytes w) list) refl
  where
    by_cases : (o : Option ℕ) → place_in (same_bytes w) list ≡ o → Gives (FirstAt list) (entered o)
    by_cases none e = nothing refl
    by_cases (some i) e = given (subst (λ (v : List ℕ). place_in (same_bytes v) list ≡ some i) (sym (place-entry w list i e)) e)

entries-first : (list ws : List (List ℕ)) → Gives (All (FirstAt list)) (entries_of list ws)
entries-first list [] = given finished
entries-first list (w ∷ ws) =
    gives_bind (entry_first list w) (λ i h. gives_bind (entries-first list ws) (λ is hs. given (also h hs)))

pub held_gives : (list : List (List ℕ)) {ws : Answer (List (List ℕ))} → Gives Anything ws → Gives (Entries list) (held list ws)
held_gives list g =
    gives_bind g λ ws t.
    gives_bind (entries-first list ws)
    (λ is h. given (record { first = all_firsts eqb h; once = once-firsts eqb (firsts eqb is) (firsts-once eqb is) }))

known_gives : (o : Option (List (List ℕ))) → Gives Anything (known o)
known_gives none = nothing refl
known_gives (some ws) = given tt

names_give : (look : Meaning) {star : Answer (List (List ℕ))} (o : Operand) → Gives Anything star → Gives Anything (names_of look star o)
names_give look everyone h = h
names_give look (symbol n) h = known_gives (look n.spelling)
names_give look (names ns) h = given tt

pub parameters_give : (c : Context) (look : Meaning) (star : List ℕ) (o : Operand) → Gives (Entries c.parameters) (parameters_of c look star o)
parameters_give c look star o = held_gives c.parameters (names_give look o (known_gives (look star)))

pub covariates_give : (c : Context) (look : Meaning) (o : Operand) → Gives (Entries (covariates c)) (covariates_of c look o)
covariates_give c look o = held_gives (covariates c) (names_give look o (given {a = covariates c} tt))

-- Names that are listed are entered again.

abbrev pub spelled_out : List (List ℕ) → List ℕ → List (List ℕ)
spelled_out list is = map (λ (n : Name). n.spelling) (map (λ i. plain_name (get_or list i [])) is)

entries-again : (list : List (List ℕ)) {is : List ℕ} → All (FirstAt list) is → entries_of list (spelled_out list is) ≡ accepted is
entries-again list finished = refl
entries-again list (also h r) =
    ap₂
    (λ (o : Option ℕ) (a : Answer (List ℕ)). entered o >>= λ i. a >>= λ is. accepted (i ∷ is))
    h
    (entries-again list r)

pub held-again : (list : List (List ℕ)) {is : List ℕ} → Entries list is → held list (accepted (spelled_out list is)) ≡ accepted is
held-again list {is} h =
    ap (λ (a : Answer (List ℕ)). a >>= λ is. accepted (firsts eqb is)) (entries-again list h.first) ∙ ap accepted h.once

-- Sentences of document 01 that hold in every context.
-- Assumes nothing.
use Prim.Native.Nat.{ℕ, ◌≤◌}
use native.Mathlib.Omega.{arith}
use mathlib.Core.Path.{◌≡◌, refl, sym, ◌∙◌, ap, ap₂}
use mathlib.Core.Bool.{Bool, true, false, cond, ◌&&◌, ◌||◌}
use mathlib.Core.List.{List, [], ◌∷◌, map}
use mathlib.Core.Option.{Option, some, none}
use lib.Dec.{eqb, ltb}
use lib.ListN.{length, get_or, length-map}
use borrow.Author.Tests.{eqb-true, ltb-false}
use Rattle.text.specs.Bytes.{bytes}
use Rattle.text.proofs.Tests.{halves, or_left, or_right}
use Rattle.labels.specs.Word.{same_word}
use Rattle.labels.specs.declared.Family.TheVariants.{VariabilityLevel}
use Rattle.labels.proofs.Words.{same_sym, same_trans}
use Rattle.reading.specs.Statement.{Name, Modes, Operand, symbol, names, Operator, Covariate, Covariance, feature}
use Rattle.reading.specs.Answer.{Answer, accepted, refused, ◌>>=◌}
use Rattle.text.specs.Lists.{any, is_nil}
use Rattle.resolving.specs.Context.{Context}
use Rattle.resolving.specs.Builtins.{builtin}
use Rattle.resolving.specs.Symbols.{Definition, Meaning, letting, meaning_after, look_up}
use Rattle.resolving.specs.Operands.{parameters_of, covariates_of}
use Rattle.resolving.specs.Effects.{Effect, effects_of, against}
use Rattle.resolving.specs.Brought.{Brought, dropped, stays, brings, whole, plain_name, listed, drop_if, bring}
use Rattle.resolving.specs.Ground.{Group, group_of, same_group}

-- "A symbol is looked up among the LETs, then among the built-ins": where no LET has its key, a symbol is what the built-in of that name is.
-- "Built-in PK_IIV uses the built-in PK, never a LET."

abbrev has_key : List ℕ → Option Definition → Bool
has_key w none = false
has_key w (some d) = same_word w d.key

unchanged : (look : Meaning) (ds : List (Option Definition)) (w : List ℕ) → any (has_key w) ds ≡ false → meaning_after look ds w ≡ look w
unchanged look [] w e = refl
unchanged look (none ∷ ds) w e = unchanged (letting look none) ds w e
unchanged look (some d ∷ ds) w e =
    unchanged (letting look (some d)) ds w (or_right (same_word w d.key) (any (has_key w) ds) e)
    ∙ ap (λ (t : Bool). cond t (some d.values) (look w)) (or_left (same_word w d.key) (any (has_key w) ds) e)

pub built_in : (c : Context) (ds : List (Option Definition)) (w : List ℕ) → any (has_key w) ds ≡ false → look_up c ds w ≡ builtin c w
unfolding look_up
built_in c ds w e = unchanged (builtin c) ds w e

-- ".. ignoring ASCII case": words that are the same but for case mean the same.

module _ (v w : List ℕ) (e : same_word v w ≡ true) where
  same_as : (u : List ℕ) → same_word v u ≡ same_word w u
  same_as u = by_cases (same_word v u) (same_word w u) refl refl
    where
      by_cases : (s t : Bool) → same_word v u ≡ s → same_word w u ≡ t → s ≡ t
      by_cases true t h k = sym (same_trans w v u (same_sym v w e) h) ∙ k
      by_cases false true h k = sym h ∙ same_trans v w u e k
      by_cases false false h k = refl

  meaning_case : (look : Meaning) → look v ≡ look w → (ds : List (Option Definition)) → meaning_after look ds v ≡ meaning_after look ds w
  meaning_case look h [] = h
  meaning_case look h (none ∷ ds) = meaning_case (letting look none) h ds
  meaning_case look h (some d ∷ ds) =
      meaning_case (letting look (some d))
      (ap₂ (λ (t : Bool) (o : Option (List (List ℕ))). cond t (some d.values) o) (same_as d.key) h)
      ds

  built_in_case : (c : Context) → builtin c v ≡ builtin c w
  unfolding builtin
  built_in_case c = simp same_as

  pub case_ignored : (c : Context) (ds : List (Option Definition)) → look_up c ds v ≡ look_up c ds w
  unfolding look_up
  case_ignored c ds = meaning_case (builtin c) (built_in_case c) ds

-- "fewer than two a COVARIANCE": one that stays has two names or more.
pub two-names :
    (c : Context) (look : Meaning) (m n : Bool) (ls ks : Modes) (ps : Operand) (ns : List Name)
    → bring c look (feature (Covariance m ls ps)) ≡ accepted (stays (Covariance n ks (names ns)))
    → 2 ≤ length ns
unfolding bring
two-names c look m n ls ks ps ns e = by_answer (parameters_of c look (bytes "IIV") ps) e
  where
    by_count :
        (is : List ℕ) (t : Bool)
        → ltb (length is) 2 ≡ t
        → ◌≡◌ {A = Answer Brought}
        (accepted (drop_if t (stays (Covariance m (whole VariabilityLevel ls) (listed c.parameters is)))))
        (accepted (stays (Covariance n ks (names ns))))
        → 2 ≤ length ns
    by_count is true h e = let z : ◌≡◌ {A = ℕ} 0 1 = cc in absurd (omega arith)
    by_count is false h e =
        let z : map (λ i. plain_name (get_or c.parameters i [])) is ≡ ns = cc in
        omega (arith, ltb-false (length is) 2 h, length-map is (λ i. plain_name (get_or c.parameters i [])), ap length z)

    by_answer :
        (a : Answer (List ℕ))
        → (a >>= λ is. accepted (drop_if (ltb (length is) 2) (stays (Covariance m (whole VariabilityLevel ls) (listed c.parameters is)))))
        ≡ accepted (stays (Covariance n ks (names ns)))
        → 2 ≤ length ns
    by_answer (refused k p) e = let z : ◌≡◌ {A = ℕ} 0 1 = cc in absurd (omega arith)
    by_answer (accepted is) e = by_count is (ltb (length is) 2) refl e

-- "a COVARIATE is explicit when its parameter operand is a list of names, whichever its covariate operand": one of a symbol is not.
pub not-explicit :
    (c : Context) (look : Meaning) (m : Bool) (n : Name) (cs : Operand) (es : Modes) (op : Operator) (x : Bool) (l : List Effect)
    → bring c look (feature (Covariate m (symbol n) cs es op)) ≡ accepted (brings x l)
    → x ≡ false
unfolding bring
not-explicit c look m n cs es op x l e =
    by-answers (parameters_of c look (bytes "PK") (symbol n)) (covariates_of c look cs) e
  where
    by_tests :
        (is vs : List ℕ) (s t : Bool)
        → cond s (accepted dropped) (cond t (refused 16 0) (accepted (brings false (effects_of c m es op is vs)))) ≡ accepted (brings x l)
        → x ≡ false
    by_tests is vs true t e = let z : ◌≡◌ {A = ℕ} 0 1 = cc in absurd (omega arith)
    by_tests is vs false true e = let z : ◌≡◌ {A = ℕ} 0 1 = cc in absurd (omega arith)
    by_tests is vs false false e = cc

    by-answers :
        (a b : Answer (List ℕ))
        → (a >>= λ is.
        b >>= λ vs.
        cond (is_nil is || is_nil vs)
        (accepted dropped)
        (cond (any (against c es) vs) (refused 16 0) (accepted (brings false (effects_of c m es op is vs)))))
        ≡ accepted (brings x l)
        → x ≡ false
    by-answers (refused k p) b e = let z : ◌≡◌ {A = ℕ} 0 1 = cc in absurd (omega arith)
    by-answers (accepted is) (refused k p) e = let z : ◌≡◌ {A = ℕ} 0 1 = cc in absurd (omega arith)
    by-answers (accepted is) (accepted vs) e = by_tests is vs (is_nil is || is_nil vs) (any (against c es) vs) e

-- "grouped by pair, operator and optional mark": the effects of a group have its operator.
pub one-operator : (g : Group) (e : Effect) → same_group g (group_of e) ≡ true → g.operator ≡ e.operator
one-operator g e h =
    let a = halves (eqb g.parameter e.parameter && eqb g.covariate e.covariate) _ h in
    eqb-true g.operator e.operator (halves (eqb g.operator e.operator) (eqb g.optional e.optional) a.1).0

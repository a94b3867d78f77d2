-- The LETs of a text's statements, gathered one after the other: of the statements so far they stand in the run and no two have one key, and whether
-- one comes again is told by those that are left.
-- Assumes nothing.
use Prim.Native.Nat.{ℕ, zero, suc, ◌+◌, ◌-◌, ◌≤◌, ◌<◌}
use native.Mathlib.Nat.{not-suc-le-zero}
use native.Mathlib.Numerals.{add-one}
use native.Mathlib.Omega.{arith}
use mathlib.Core.Path.{◌≡◌, refl, ◌∙◌, ap, sym, subst}
use mathlib.Core.Bool.{Bool, true, false, cond, ◌||◌}
use mathlib.Core.List.{List, [], ◌∷◌, ◌++◌, append-nil}
use mathlib.Core.Option.{Option, some, none}
use lib.ListN.{length, take, drop}
use lib.Seq.{append_snoc, drop-drop}
use Rattle.labels.specs.Word.{same_word}
use Rattle.text.specs.Lists.{later_by_one, any, again, again_after}
use Rattle.reading.specs.Statement.{Statement}
use Rattle.resolving.specs.Symbols.{Definition, definition, defines, lets, same_key}
use Rattle.read_forms.specs.declared.Name.{Name}
use Rattle.read_forms.specs.declared.Items.{Items}
use Rattle.read_forms.specs.declared.Feature.{Feature}
use Rattle.read_forms.specs.declared.Statement as forms
use Rattle.read_forms.specs.declared.Statement.TheVariants as form
use Rattle.read_forms.specs.Items.{name_in, items_in}
use Rattle.read_forms.specs.Fits.{InText, Listed}
use Rattle.read_forms.specs.Forms.{statement_in}
use Rattle.read_parts.specs.Apart.{apart}
use Rattle.read_parts.specs.Meaning.{PartsFit}
use Rattle.read_parts.proofs.Fitting.{statement-fits}
use Rattle.resolve_symbols.specs.Lets.{definitions_in, has_key, LetsFit, LetPut}
use Rattle.read_space.specs.Fit.{Fit}
use Rattle.resolve_taking.specs.Collected.{present, CollectedAll}

-- Places further on.

abbrev further : ℕ → Option ℕ → Option ℕ
further zero o = o
further (suc i) o = further i (later_by_one o)

further-none : (i : ℕ) → further i none ≡ none
further-none zero = refl
further-none (suc i) = further-none i

further_some : (i k : ℕ) → further i (some k) ≡ some (i + k)
further_some zero k = ap some (omega arith)
further_some (suc i) k = further_some i (suc k) ∙ ap some (omega arith)

-- Keys among those seen, whatever their order: a statement that is no LET has none.

no_key : (l : List (Option Definition)) → any (λ y. same_key y none) l ≡ false
no_key [] = refl
no_key (none ∷ l) = no_key l
no_key (some d ∷ l) = no_key l

or-last : (a b : Bool) → a || b ≡ b || (a || false)
or-last true true = refl
or-last true false = refl
or-last false true = refl
or-last false false = refl

has_key-last : (ds : List Definition) (d : Definition) (w : List ℕ) → has_key (ds ++ d ∷ []) w ≡ has_key ds w || (same_word d.key w || false)
has_key-last [] d w = refl
has_key-last (x ∷ ds) d w =
    ap (λ (t : Bool). same_word x.key w || t) (has_key-last ds d w)
    ∙ sym (or_assoc (same_word x.key w) (has_key ds w) (same_word d.key w || false))
  where
    or_assoc : (a b c : Bool) → (a || b) || c ≡ a || (b || c)
    or_assoc true b c = refl
    or_assoc false b c = refl

-- where no LET is left, none comes again
none-again : (seen ds : List (Option Definition)) → present ds ≡ [] → again_after same_key seen ds ≡ none
none-again seen [] e = refl
none-again seen (none ∷ ds) e =
    ap (λ (t : Bool). cond t (some 0) (later_by_one (again_after same_key (none ∷ seen) ds))) (no_key seen)
    ∙ ap later_by_one (none-again (none ∷ seen) ds e)
none-again seen (some d ∷ ds) e = let z : ◌≡◌ {A = ℕ} 0 1 = cc in absurd (omega arith)

-- Of so many statements the LETs stand in the run, and with those of the statements that are left they are all. `seen` is what the definition
-- has seen so far, last first; of it only the keys are told, and they are those of the run.
pub record Gathering (s : List ℕ) (ss : List Statement) (run : List ℕ) (n i : ℕ) : Type 0 where
  pub fit : LetsFit s run n
  pub few : n ≤ i
  pub are : definitions_in s run n ++ present (lets (drop i ss)) ≡ present (lets ss)
  pub seen : List (Option Definition)
  pub keys : (d : Definition) → any (λ y. same_key y (some d)) seen ≡ has_key (definitions_in s run n) d.key
  pub left : further i (again_after same_key seen (lets (drop i ss))) ≡ again same_key (lets ss)

pub none_gathered : (s : List ℕ) (ss : List Statement) (run : List ℕ) → Gathering s ss run 0 0
unfolding definitions_in
none_gathered s ss run =
    record {
      fit = record {
        room = omega arith;
        few = omega arith;
        keys = λ k h. absurd (not-suc-le-zero h);
        values = λ k h. absurd (not-suc-le-zero h);
      };
      few = omega arith;
      are = refl;
      seen = [];
      keys = λ d. refl;
      left = refl;
    }

-- where no LET stands from an index on, none stands from a later one on
quiet_behind : (o : Option Definition) (ds : List (Option Definition)) → present (o ∷ ds) ≡ [] → present ds ≡ []
quiet_behind none ds e = e
quiet_behind (some d) ds e = let z : ◌≡◌ {A = ℕ} 0 1 = cc in absurd (omega arith)

quiet_tail : (ss : List Statement) (k : ℕ) → present (lets ss) ≡ [] → present (lets (drop k ss)) ≡ []
quiet_tail ss zero e = e
quiet_tail [] (suc k) e = refl
quiet_tail (x ∷ ss) (suc k) e = quiet_tail ss k (quiet_behind (defines x) (lets ss) e)

pub still_quiet : (ss : List Statement) (end i : ℕ) → end ≤ i → present (lets (drop end ss)) ≡ [] → present (lets (drop i ss)) ≡ []
still_quiet ss end i h e =
    let k : i ≡ end + (i - end) = omega (arith, h) in
    ap (λ (l : List Statement). present (lets l)) (ap (λ (k : ℕ). drop k ss) k ∙ sym (drop-drop (i - end) end ss))
    ∙ quiet_tail (drop end ss) (i - end) e

module _ {s : List ℕ} {ss : List Statement} {run : List ℕ} {n i : ℕ} (g : Gathering s ss run n i) where
  -- none is left
  pub all_gathered : present (lets (drop i ss)) ≡ [] → CollectedAll s ss run n
  all_gathered q =
      record {
        fit = g.fit;
        are = sym (append-nil (definitions_in s run n)) ∙ ap (λ (l : List Definition). definitions_in s run n ++ l) (sym q) ∙ g.are;
        once = sym g.left ∙ ap (further i) (none-again g.seen (lets (drop i ss)) q) ∙ further-none i;
      }

  -- a statement that is no LET
  pub other-passed : (x : Statement) → drop i ss ≡ x ∷ drop (suc i) ss → defines x ≡ none → Gathering s ss run n (suc i)
  other-passed x h e =
      let z : lets (drop i ss) ≡ none ∷ lets (drop (suc i) ss) =
      ap lets h ∙ ap (λ (o : Option Definition). o ∷ lets (drop (suc i) ss)) e in
      record {
        fit = g.fit;
        few = omega (arith, g.few);
        are = ap (λ (l : List (Option Definition)). definitions_in s run n ++ present l) (sym z) ∙ g.are;
        seen = none ∷ g.seen;
        keys = g.keys;
        left =
            ap (λ (t : Bool). further i (cond t (some 0) (later_by_one (again_after same_key (none ∷ g.seen) (lets (drop (suc i) ss))))))
            (sym (no_key g.seen))
            ∙ ap (λ (l : List (Option Definition)). further i (again_after same_key g.seen l)) (sym z)
            ∙ g.left;
      }

  -- the statement at the index, and those behind it
  module _ (st : forms.Statement) (h : drop i ss ≡ statement_in s st ∷ drop (suc i) ss) where
    -- a statement that is no LET
    pub feature-passed : (f : Feature) → st ≡ form.Feature f → Gathering s ss run n (i + 1)
    unfolding statement_in
    feature-passed f e =
        subst (Gathering s ss run n) (sym (add-one i))
        (other-passed (statement_in s st) h (ap (λ (x : forms.Statement). defines (statement_in s x)) e))

    module _ (name : Name) (values : Items) (e : st ≡ form.Let name values) where
      abbrev this : Definition
      this = definition (name_in s name) (items_in s values)

      let-first : lets (drop i ss) ≡ some this ∷ lets (drop (suc i) ss)
      unfolding statement_in
      let-first = ap lets h ∙ ap (λ (x : forms.Statement). defines (statement_in s x) ∷ lets (drop (suc i) ss)) e

      -- whether its key came before
      told-left :
          (t : Bool)
          → has_key (definitions_in s run n) this.key ≡ t
          → further i (cond t (some 0) (later_by_one (again_after same_key (some this ∷ g.seen) (lets (drop (suc i) ss)))))
          ≡ again same_key (lets ss)
      told-left t k =
          ap
          (λ (t : Bool). further i (cond t (some 0) (later_by_one (again_after same_key (some this ∷ g.seen) (lets (drop (suc i) ss))))))
          (sym (g.keys this ∙ k))
          ∙ ap (λ (l : List (Option Definition)). further i (again_after same_key g.seen l)) (sym let-first)
          ∙ g.left

      pub key-again :
          {r : Bool}
          → r ≡ has_key (definitions_in s run n) (name_in s name).spelling
          → r ≡ true
          → again same_key (lets ss) ≡ some i
      key-again a b = sym (told-left true (sym a ∙ b)) ∙ further_some i 0 ∙ ap some (omega arith)

      pub one-gathered :
          {r : Bool} {after : List ℕ}
          → r ≡ has_key (definitions_in s run n) (name_in s name).spelling
          → r ≡ false
          → LetPut s run after n (definition (name_in s name) (items_in s values))
          → Gathering s ss after (n + 1) (i + 1)
      one-gathered {after} a b p =
          subst (Gathering s ss after (n + 1)) (sym (add-one i))
          (record {
            fit = p.fit;
            few = omega (arith, g.few);
            are =
                ap (λ (l : List Definition). l ++ present (lets (drop (suc i) ss))) p.definitions
                ∙ append_snoc (definitions_in s run n) this (present (lets (drop (suc i) ss)))
                ∙ ap (λ (l : List (Option Definition)). definitions_in s run n ++ present l) (sym let-first)
                ∙ g.are;
            seen = some this ∷ g.seen;
            keys = λ x.
                ap (λ (t : Bool). same_word this.key x.key || t) (g.keys x)
                ∙ or-last (same_word this.key x.key) (has_key (definitions_in s run n) x.key)
                ∙ sym (has_key-last (definitions_in s run n) this x.key)
                ∙ sym (ap (λ (l : List Definition). has_key l x.key) p.definitions);
            left = told-left false (sym a ∙ b);
          })

-- Where no LET stands before an index, gathering starts there.

-- the last of some statements of which none is a LET
record Other (ss : List Statement) (k : ℕ) : Type 0 where
  x : Statement
  first : drop k ss ≡ x ∷ drop (suc k) ss
  no_let : defines x ≡ none
  before : present (lets (take k ss)) ≡ []

other_at : (ss : List Statement) (k : ℕ) → k < length ss → present (lets (take (suc k) ss)) ≡ [] → Other ss k
other_at [] k h e = absurd (not-suc-le-zero h)
other_at (y ∷ ss) zero h e = by (defines y) refl
  where
    by : (o : Option Definition) → defines y ≡ o → Other (y ∷ ss) 0
    by none q = record { x = y; first = refl; no_let = q; before = refl }
    by (some d) q =
        let f : d ∷ [] ≡ [] = ap (λ (o : Option Definition). present (o ∷ [])) (sym q) ∙ e in
        let z : ◌≡◌ {A = ℕ} 0 1 = cc in
        absurd (omega arith)
other_at (y ∷ ss) (suc k) h e = by (defines y) refl (other_at ss k (omega (arith, h)) (quiet_behind (defines y) (lets (take (suc k) ss)) e))
  where
    by : (o : Option Definition) → defines y ≡ o → Other ss k → Other (y ∷ ss) (suc k)
    by none q r =
        record {
          x = r.x;
          first = r.first;
          no_let = r.no_let;
          before = ap (λ (o : Option Definition). present (o ∷ lets (take k ss))) q ∙ r.before;
        }
    by (some d) q r =
        let f : d ∷ present (lets (take (suc k) ss)) ≡ [] = ap (λ (o : Option Definition). present (o ∷ lets (take (suc k) ss))) (sym q) ∙ e in
        let z : ◌≡◌ {A = ℕ} 0 1 = cc in
        absurd (omega arith)

pub started : (s : List ℕ) (ss : List Statement) (run : List ℕ) (k : ℕ) → k ≤ length ss → present (lets (take k ss)) ≡ [] → Gathering s ss run 0 k
started s ss run zero h e = none_gathered s ss run
started s ss run (suc k) h e =
    let o = other_at ss k (omega (arith, h)) e in
    other-passed (started s ss run k (omega (arith, h)) o.before) o.x o.first o.no_let

-- the name of a LET that fits lies in the text, and its values can be read again
let_fits : (s : List ℕ) (name : Name) (values : Items) → PartsFit s (apart (form.Let name values)) → InText s name × Listed s values
unfolding apart
let_fits s name values p = (p.first, p.second)

pub let_stands :
    (s : List ℕ) (st : forms.Statement) (name : Name) (values : Items) → Fit s st → st ≡ form.Let name values → InText s name × Listed s values
let_stands s st name values f e =
    let_fits s name values (subst (λ (x : forms.Statement). PartsFit s (apart x)) e (statement-fits f.limit s st f.read))

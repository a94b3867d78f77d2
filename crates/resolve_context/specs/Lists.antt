-- The lists of a context where they stand in the run of numbers, and what is answered about them.
use Rattle.std.specs.Prelude.{ℕ, ◌+◌, ◌*◌, ◌≤◌, Bool, true, cond, ◌&&◌, ◌||◌, List, [], ◌∷◌, map, ◌≡◌, eqb, leb, length, get_or}
use Rattle.std.specs.Prelude as prelude
use Rattle.std.proofs.Math.Option.{Option, some, none}
use Rattle.text.specs.Bytes.{every}
use Rattle.text.specs.Lists.{all}
use Rattle.resolving.specs.Context.{Binding, Declared}
use Rattle.resolving.specs.Given.{Pair, is_entry, in_order, spelled, binding_in, declared_in}
use Rattle.resolving.specs.Handed.{pairs_at, bindings_at, declared_at, iiv_start, template_start, declared_start, columns_start, is_handed}
use Rattle.resolve_context.specs.declared.Names.{Names}
use Rattle.resolve_context.specs.declared.Layout.{Layout}

abbrev pub list_at : ℕ → ℕ → ℕ → Names
list_at i n step = record { start = i; count = n; step = step }

-- Where the lists stand.
unfoldable pub layout_of : List ℕ → Layout
layout_of l =
    record {
      parameters = list_at 7 (get_or l 0 0) 2;
      iiv = list_at (iiv_start l) (get_or l 1 0) 2;
      template = list_at (template_start l) (get_or l 2 0) 4;
      declared = list_at (declared_start l) (get_or l 3 0) 3;
      columns = list_at (columns_start l) (get_or l 4 0) 2;
      templated = eqb (get_or l 5 0) 1;
      declares = eqb (get_or l 6 0) 1;
    }

-- a template's roles and variables as one list, and the variables alone
abbrev pub both_of : Names → Names
both_of n = list_at n.start (2 * n.count) 2

abbrev pub variables_of : Names → Names
variables_of n = list_at (n.start + 2) n.count n.step

-- the list that covariates are held to: "declared covariates, or data columns without a block"
abbrev pub covariates_of : Layout → Names
covariates_of y = cond y.declares y.declared y.columns

-- What the check answers.
unfoldable pub checked_as : List ℕ → List ℕ → prelude.Option Layout
checked_as b l = cond (is_handed b l) (prelude.Some (layout_of l)) prelude.None

-- a context that was checked, and where its lists stand
pub record Stands (b l : List ℕ) (y : Layout) : Type 0 where
  pub is : is_handed b l ≡ true
  pub there : y ≡ layout_of l

-- What a list has: its pairs, its names; the kinds of declared covariates; bindings and declared covariates as the definition has them.

abbrev pub pairs_in : List ℕ → Names → List Pair
pairs_in l n = pairs_at l n.start n.step n.count

unfoldable pub names_in : List ℕ → List ℕ → Names → List (List ℕ)
names_in b l n = map (spelled b) (pairs_in l n)

unfoldable pub kinds_in : List ℕ → Names → List ℕ
kinds_in l n = map (λ d. d.kind) (declared_at l n.start n.count)

unfoldable pub template_in : List ℕ → List ℕ → Names → List Binding
template_in b l n = map (binding_in b) (bindings_at l n.start n.count)

unfoldable pub block_in : List ℕ → List ℕ → Names → List Declared
block_in b l n = map (declared_in b) (declared_at l n.start n.count)

-- a list of a context that was checked: each entry is a name of the block, and there are at most 64
pub record Sound (b l : List ℕ) (n : Names) : Type 0 where
  pub named : all (is_entry b) (pairs_in l n) ≡ true
  pub few : n.count ≤ 64

-- The place of a name in a list, as it is answered.
abbrev pub found_as : Option ℕ → prelude.Option ℕ
found_as none = prelude.None
found_as (some i) = prelude.Some i

-- The tests of a context, in the order in which they are made.

abbrev pub counts_of : List ℕ → List ℕ
counts_of l = get_or l 0 0 ∷ get_or l 1 0 ∷ get_or l 2 0 ∷ get_or l 3 0 ∷ get_or l 4 0 ∷ []

unfoldable pub mark_fits : ℕ → ℕ → Bool
mark_fits m n = leb m 1 && (eqb m 1 || eqb n 0)

-- the counts, the marks, and no entries without a mark
unfoldable pub heads_fit : List ℕ → Bool
heads_fit l =
    leb 7 (length l)
    && (every (λ n. leb n 64) (counts_of l) && (mark_fits (get_or l 5 0) (get_or l 2 0) && mark_fits (get_or l 6 0) (get_or l 3 0)))

-- a list lies in the run
pub record InRun (l : List ℕ) (n : Names) : Type 0 where
  pub wide : 2 ≤ n.step
  pub within : n.start + n.step * n.count ≤ length l

-- a list is in order
abbrev pub order_of : List ℕ → List ℕ → Names → Bool
order_of b l n = in_order b 0 (pairs_in l n)

abbrev pub kinds_fit : List ℕ → Names → Bool
kinds_fit l n = every (λ k. leb k 1) (kinds_in l n)

abbrev pub lists_of : Layout → List Names
lists_of y = y.parameters ∷ y.iiv ∷ both_of y.template ∷ y.declared ∷ y.columns ∷ []

unfoldable pub lists_fit : List ℕ → List ℕ → Bool
lists_fit b l = all (order_of b l) (lists_of (layout_of l)) && kinds_fit l (layout_of l).declared

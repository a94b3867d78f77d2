-- A context as the call takes it: a block of name bytes, and one run of numbers. The run has how many entries each of the five lists has, in
-- document 01's order; the two marks; and then the entries of the lists, one list after the other: an offset and a length for a parameter, an
-- IIV parameter and a data column, a role's pair and its variable's for a binding, a pair and a kind for a declared covariate.
use Rattle.std.specs.Prelude.{ℕ, zero, suc, ◌+◌, ◌*◌, Bool, cond, ◌&&◌, List, [], ◌∷◌, eqb, leb, length, get_or}
use Rattle.reading.specs.Answer.{Answer, refused, ◌>>=◌}
use Rattle.reading.specs.Read.{read_text}
use Rattle.resolving.specs.Faults.{wrong_context}
use Rattle.resolving.specs.Context.{Context}
use Rattle.resolving.specs.Resolve.{Resolved}
use Rattle.resolving.specs.Given.{Pair, BindingPairs, DeclaredPair, Given, is_context, context_in, resolve_text}

abbrev pub pair_of : ℕ → ℕ → Pair
pair_of o n = record { offset = o; size = n }

module _ (l : List ℕ) where
  abbrev pub pair_at : ℕ → Pair
  pair_at i = pair_of (get_or l i 0) (get_or l (i + 1) 0)

  -- so many pairs from an index on, each so many numbers after the one before it
  unfoldable pub pairs_at : ℕ → ℕ → ℕ → List Pair
  pairs_at i step zero = []
  pairs_at i step (suc n) = pair_at i ∷ pairs_at (i + step) step n

  unfoldable pub bindings_at : ℕ → ℕ → List BindingPairs
  bindings_at i zero = []
  bindings_at i (suc n) = record { role = pair_at i; variable = pair_at (i + 2) } ∷ bindings_at (i + 4) n

  unfoldable pub declared_at : ℕ → ℕ → List DeclaredPair
  declared_at i zero = []
  declared_at i (suc n) = record { name = pair_at i; kind = get_or l (i + 2) 0 } ∷ declared_at (i + 3) n

  -- where the lists start, behind the five counts and the two marks; and where the last ends
  abbrev pub iiv_start : ℕ
  iiv_start = 7 + 2 * get_or l 0 0

  abbrev pub template_start : ℕ
  template_start = iiv_start + 2 * get_or l 1 0

  abbrev pub declared_start : ℕ
  declared_start = template_start + 4 * get_or l 2 0

  abbrev pub columns_start : ℕ
  columns_start = declared_start + 3 * get_or l 3 0

  abbrev pub past_all : ℕ
  past_all = columns_start + 2 * get_or l 4 0

  -- The run is as long as it says, and each mark is 0 or 1.
  unfoldable pub is_run : Bool
  is_run = leb 7 (length l) && (eqb past_all (length l) && (leb (get_or l 5 0) 1 && leb (get_or l 6 0) 1))

-- What is handed over, as the paper has it.
unfoldable pub given_in : List ℕ → List ℕ → Given
given_in b l =
    record {
      bytes = b;
      parameters = pairs_at l 7 2 (get_or l 0 0);
      iiv = pairs_at l (iiv_start l) 2 (get_or l 1 0);
      bindings = bindings_at l (template_start l) (get_or l 2 0);
      declared = declared_at l (declared_start l) (get_or l 3 0);
      columns = pairs_at l (columns_start l) 2 (get_or l 4 0);
      has_template = eqb (get_or l 5 0) 1;
      has_block = eqb (get_or l 6 0) 1;
    }

-- 12 where this does not hold
unfoldable pub is_handed : List ℕ → List ℕ → Bool
is_handed b l = is_run l && is_context (given_in b l)

unfoldable pub handed_context : List ℕ → List ℕ → Context
handed_context b l = context_in (given_in b l)

-- Resolve's answer: a run that is no run is a wrong context, which comes after the text's own faults.
unfoldable pub resolve_handed : ℕ → List ℕ → List ℕ → List ℕ → Answer Resolved
resolve_handed limit b l text =
    cond (is_run l) (resolve_text limit (given_in b l) text) (read_text limit text >>= (λ ss. refused wrong_context 0))

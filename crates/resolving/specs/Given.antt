-- Document 01, The context, as it is handed over: "One block of name bytes, at most 16,384, and five lists of (offset, length) pairs into it,
-- each sorted by offset without overlap, at most 64 entries each". And Faults, 12: "context not as above".
use Rattle.std.specs.Prelude.{ℕ, ◌+◌, Bool, true, false, cond, ◌&&◌, ◌||◌, List, [], ◌∷◌, map, eqb, leb, length, take, drop}
use Rattle.std.proofs.Math.Option.{Option, some, none}
use Rattle.text.specs.Bytes.{every}
use Rattle.tokens.specs.Spelling.{is_name}
use Rattle.reading.specs.Answer.{Answer, refused, ◌>>=◌}
use Rattle.reading.specs.Read.{read_text}
use Rattle.text.specs.Lists.{all, gather, is_nil}
use Rattle.resolving.specs.Faults.{wrong_context}
use Rattle.resolving.specs.Context.{Binding, CovariateKind, continuous, categorical, Declared, Context}
use Rattle.resolving.specs.Resolve.{Resolved, resolve}

-- an "(offset, length)" pair
pub record Pair : Type 0 where
  pub offset : ℕ
  pub size : ℕ

-- a template binding: "a role pair, then a variable pair"
pub record BindingPairs : Type 0 where
  pub role : Pair
  pub variable : Pair

-- a declared covariate: a pair, and "a kind, 0 continuous or 1 categorical"
pub record DeclaredPair : Type 0 where
  pub name : Pair
  pub kind : ℕ

pub record Given : Type 0 where
  pub bytes : List ℕ
  pub parameters : List Pair
  pub iiv : List Pair
  pub bindings : List BindingPairs
  pub declared : List DeclaredPair
  pub columns : List Pair
  pub has_template : Bool
  pub has_block : Bool

-- The pairs of a block.
module _ (block : List ℕ) where
  abbrev pub spelled : Pair → List ℕ
  spelled p = take p.size (drop p.offset block)

  -- "A name has 1 to 32 bytes, and all of them together, nothing skipped, are one word or one number"
  abbrev pub is_entry : Pair → Bool
  is_entry p = leb 1 p.size && (leb p.size 32 && (leb (p.offset + p.size) (length block) && is_name (spelled p)))

  -- "sorted by offset without overlap", from an offset on
  abbrev pub in_order : ℕ → List Pair → Bool
  in_order end [] = true
  in_order end (p ∷ ps) = is_entry p && (leb end p.offset && in_order (p.offset + p.size) ps)

-- The five lists, with a binding's role before its variable; and how many entries each has.

abbrev pub both_pairs : BindingPairs → List Pair
both_pairs b = b.role ∷ b.variable ∷ []

abbrev pub pair_lists : Given → List (List Pair)
pair_lists g = g.parameters ∷ g.iiv ∷ gather both_pairs g.bindings ∷ map (λ d. d.name) g.declared ∷ g.columns ∷ []

abbrev pub entry_counts : Given → List ℕ
entry_counts g =
    length g.parameters ∷ length g.iiv ∷ length g.bindings ∷ length g.declared ∷ length g.columns ∷ []

-- The tests of a context.

-- "One block of name bytes, at most 16,384"
abbrev pub block_fits : Given → Bool
block_fits g = leb (length g.bytes) 16384

-- "at most 64 entries each"
abbrev pub few_entries : Given → Bool
few_entries g = every (λ n. leb n 64) (entry_counts g)

-- "five lists of (offset, length) pairs into it, each sorted by offset without overlap"
abbrev pub pairs_in_order : Given → Bool
pairs_in_order g = all (in_order g.bytes 0) (pair_lists g)

-- "a kind, 0 continuous or 1 categorical"
abbrev pub kinds_known : Given → Bool
kinds_known g = every (λ k. leb k 1) (map (λ d. d.kind) g.declared)

-- "Two marks say if there is a template and if there is a declaration block; without the mark that list must be empty."
abbrev pub marks_agree : Given → Bool
marks_agree g = (g.has_template || is_nil g.bindings) && (g.has_block || is_nil g.declared)

abbrev pub is_context : Given → Bool
is_context g = block_fits g && (few_entries g && (pairs_in_order g && (kinds_known g && marks_agree g)))

-- What such a context means: its names as bytes, a template or none, a block or none.

abbrev pub only_if : {A : Type 0} → Bool → A → Option A
only_if true a = some a
only_if false a = none

abbrev pub kind_of : ℕ → CovariateKind
kind_of k = cond (eqb k 0) continuous categorical

module _ (block : List ℕ) where
  abbrev pub binding_in : BindingPairs → Binding
  binding_in b = record { role = spelled block b.role; variable = spelled block b.variable }

  abbrev pub declared_in : DeclaredPair → Declared
  declared_in d = record { name = spelled block d.name; kind = kind_of d.kind }

abbrev pub context_in : Given → Context
context_in g =
    record {
      parameters = map (spelled g.bytes) g.parameters;
      iiv = map (spelled g.bytes) g.iiv;
      template = only_if g.has_template (map (binding_in g.bytes) g.bindings);
      block = only_if g.has_block (map (declared_in g.bytes) g.declared);
      columns = map (spelled g.bytes) g.columns;
    }

-- The call's answer: "Reading faults come next .., then 12, 13". The count limit is a parameter.
unfoldable pub resolve_text : ℕ → Given → List ℕ → Answer Resolved
resolve_text limit g text = do
  ss ← read_text limit text
  cond (is_context g) (resolve (context_in g) ss) (refused wrong_context 0)

-- A context that is handed over as document 01 says is readable: its names can be read, and its parameters are few.
-- Assumes nothing.
use Prim.Native.Nat.{ℕ, ◌+◌, ◌≤◌}
use mathlib.Core.Path.{◌≡◌, refl, sym, ◌∙◌, ap, ap₂}
use mathlib.Core.Bool.{Bool, true, false, ◌&&◌}
use mathlib.Core.List.{List, [], ◌∷◌, map, map-map}
use lib.Dec.{leb}
use lib.ListN.{length, length-map}
use borrow.Author.Tests.{leb-true}
use Rattle.text.proofs.Tests.{halves}
use Rattle.tokens.specs.Spelling.{is_name}
use Rattle.text.specs.Lists.{all}
use Rattle.text.proofs.Passing.{Passing, all_passing}
use Rattle.resolving.specs.Context.{Declared, covariates_or}
use Rattle.resolving.specs.Given.{
  Pair,
  DeclaredPair,
  Given,
  spelled,
  is_entry,
  in_order,
  block_fits,
  few_entries,
  pair_lists,
  pairs_in_order,
  is_context,
  only_if,
  declared_in,
  context_in,
}
use Rattle.resolving_laws.proofs.WellGround.{Readable}

pair_named : (block : List ℕ) (p : Pair) → is_entry block p ≡ true → is_name (spelled block p) ≡ true
pair_named block p e =
    let a = halves (leb 1 p.size) (leb p.size 32 && (leb (p.offset + p.size) (length block) && is_name (spelled block p))) e in
    let b = halves (leb p.size 32) (leb (p.offset + p.size) (length block) && is_name (spelled block p)) a.1 in
    (halves (leb (p.offset + p.size) (length block)) (is_name (spelled block p)) b.1).1

order_named : (block : List ℕ) (end : ℕ) (ps : List Pair) → in_order block end ps ≡ true → all is_name (map (spelled block) ps) ≡ true
order_named block end [] e = refl
order_named block end (p ∷ ps) e =
    let a = halves (is_entry block p) (leb end p.offset && in_order block (p.offset + p.size) ps) e in
    let b = halves (leb end p.offset) (in_order block (p.offset + p.size) ps) a.1 in
    ap₂ ◌&&◌ (pair_named block p a.0) (order_named block (p.offset + p.size) ps b.1)

module _ (g : Given) (e : is_context g ≡ true) where
  abbrev ordered : List Pair → Bool
  ordered ps = in_order g.bytes 0 ps

  -- of parameters; of declared covariates; of data columns
  few_entries_lem : (length g.parameters ≤ 64) × (length g.declared ≤ 64) × (length g.columns ≤ 64)
  few_entries_lem =
      let p = halves (leb (length g.parameters) 64) _ (halves (few_entries g) _ (halves (block_fits g) _ e).1).0 in
      let i = halves (leb (length g.iiv) 64) _ p.1 in
      let b = halves (leb (length g.bindings) 64) _ i.1 in
      let d = halves (leb (length g.declared) 64) _ b.1 in
      let c = halves (leb (length g.columns) 64) _ d.1 in
      (leb-true _ 64 p.0, leb-true _ 64 d.0, leb-true _ 64 c.0)

  lists_ordered : Passing ordered (pair_lists g)
  lists_ordered = all_passing ordered (pair_lists g) (halves (pairs_in_order g) _ (halves (few_entries g) _ (halves (block_fits g) _ e).1).1).0

  covariates-named : (t : Bool) → all is_name (covariates_or (only_if t (map (declared_in g.bytes) g.declared)) (map (spelled g.bytes) g.columns)) ≡ true
  covariates-named true =
      ap
      (all is_name)
      (map-map (λ (d : Declared). d.name) (declared_in g.bytes) g.declared
      ∙ sym (map-map (spelled g.bytes) (λ (d : DeclaredPair). d.name) g.declared))
      ∙ order_named g.bytes 0 (map (λ d. d.name) g.declared) lists_ordered.1.1.1.0
  covariates-named false = order_named g.bytes 0 g.columns lists_ordered.1.1.1.1.0

  few-covariates : (t : Bool) → length (covariates_or (only_if t (map (declared_in g.bytes) g.declared)) (map (spelled g.bytes) g.columns)) ≤ 64
  few-covariates true = simp length-map few_entries_lem.1
  few-covariates false = simp length-map few_entries_lem.2

  pub given_readable : Readable (context_in g)
  given_readable =
      record {
        parameters-named = order_named g.bytes 0 g.parameters lists_ordered.0;
        covariates-named = covariates-named g.has_block;
        parameters-few = simp length-map few_entries_lem.0;
        covariates-few = few-covariates g.has_block;
      }

-- A value stands for the statement that was found: its arrays hold the lists that the statement has in the text.
-- Assumes nothing.
use mathlib.Core.Path.{◌≡◌, refl, ◌∙◌, ap, sym, subst}
use mathlib.Core.Bool.{true}
use mathlib.Core.List.{List, [], map}
use Prim.Native.Nat.{ℕ}
use lib.Dec.{lit≤}
use lib.ListN.{length, take}
use Rattle.reading.specs.Statement as statement
use Rattle.reading.specs.Answer.{accepted}
use Rattle.reading.specs.Read.{read_text}
use Rattle.read_forms.specs.declared.Item.{Item}
use Rattle.read_forms.specs.declared.Items.{Items}
use Rattle.read_forms.specs.declared.Counts.{Counts}
use Rattle.read_forms.specs.declared.Counts.TheVariants as counts
use Rattle.read_forms.specs.declared.TransitCounts.{TransitCounts}
use Rattle.read_forms.specs.declared.TransitCounts.TheVariants as transits
use Rattle.read_forms.specs.declared.Operand.{Operand}
use Rattle.read_forms.specs.declared.Operand.TheVariants as operand
use Rattle.read_forms.specs.declared.Feature.{Feature}
use Rattle.read_forms.specs.declared.Feature.TheVariants.{
  Absorption,
  Elimination,
  Peripherals,
  Transits,
  Lagtime,
  Covariate,
  Allometry,
  DirectEffect,
  EffectComp,
  IndirectEffect,
  Metabolite,
  Iiv,
  Iov,
  Covariance,
}
use Rattle.read_forms.specs.declared.Statement.{Statement}
use Rattle.read_forms.specs.declared.Statement.TheVariants as form
use Rattle.read_forms.specs.Items.{item_in, listed, items_in}
use Rattle.read_forms.specs.Forms.{values_in, counts_in, transits_in, operand_in, feature_in, statement_in, feature_by, statement_by}
use Rattle.read_forms.specs.Fits.{Listed}
use Rattle.read_lists.specs.Lists.{items_for, in_order}
use Rattle.read_lists.proofs.Order.{ordered_within, ordered_items, items_ordered}
use Rattle.read_parts.specs.declared.Part.{Part}
use Rattle.read_parts.specs.declared.Part.TheVariants as part
use Rattle.read_parts.specs.Apart.{feature_apart, apart}
use Rattle.read_parts.specs.Meaning.{PartFits}
use Rattle.read_parts.proofs.Fitting.{statement-fits}
use Rattle.std.specs.Prelude.{Result, Ok, Err}
use Rattle.read_forms.specs.declared.Refusal.{Refusal}
use Rattle.read_forms.specs.Faults.{answered}
use Rattle.reading.specs.Calls.{nth_of}
use Rattle.reading_laws.proofs.Calls.{found_as-read}
use Rattle.read_values.specs.declared.Value.{Value}
use Rattle.read_values.specs.declared.Lists.{Lists}
use Rattle.read_values.specs.Lists.{no_items, names_in, parts_lists, found_lists}
use Rattle.read_values.specs.Lists as lists
use Rattle.read_values.specs.Value.{
  counts_with,
  transits_with,
  items_with,
  operand_with,
  in_arrays,
  found_with,
  value_as,
  FoundFits,
  Usable,
  Filled,
}

-- The lists of what was found can be read again.
pub record Readable (s : List ℕ) (l : Lists) : Type 0 where
  pub first : Listed s l.first
  pub second : Listed s l.second
  pub counts : Listed s l.counts

module _ (s : List ℕ) where
  none-listed : Listed s no_items
  unfolding listed
  none-listed = record { are = refl; few = lit≤ tt }

  names-listed : (p : Part) → PartFits s p → Listed s (names_in p)
  names-listed (part.Operand (operand.Names is)) f = f
  names-listed (part.Operand (operand.Symbol n)) f = none-listed
  names-listed (part.Operand operand.Wildcard) f = none-listed
  names-listed (part.Values is) f = f
  names-listed (part.Counts c) f = none-listed
  names-listed (part.Modes g m) f = none-listed
  names-listed (part.Name n) f = none-listed
  names-listed (part.Op op) f = none-listed
  names-listed part.N f = none-listed
  names-listed part.Absent f = none-listed
  names-listed part.Omitted f = none-listed

  counts-listed : (p : Part) → PartFits s p → Listed s (lists.counts_in p)
  counts-listed (part.Counts (counts.List is)) f = f
  counts-listed (part.Counts (counts.Single v)) f = none-listed
  counts-listed (part.Counts (counts.Range a b)) f = none-listed
  counts-listed (part.Operand p) f = none-listed
  counts-listed (part.Values is) f = none-listed
  counts-listed (part.Modes g m) f = none-listed
  counts-listed (part.Name n) f = none-listed
  counts-listed (part.Op op) f = none-listed
  counts-listed part.N f = none-listed
  counts-listed part.Absent f = none-listed
  counts-listed part.Omitted f = none-listed

  pub found-fits : (limit i : ℕ) (f : Result Statement Refusal) → answered (statement_in s) f ≡ nth_of i (read_text limit s) → FoundFits s f
  found-fits limit i (Ok st) e = statement-fits limit s st (found_as-read limit s i (statement_in s st) e)
  found-fits limit i (Err r) e = tt

  pub found_readable : (f : Result Statement Refusal) → FoundFits s f → Readable s (found_lists f)
  found_readable (Ok st) p = record {
    first = names-listed (apart st).first p.first;
    second = names-listed (apart st).second p.second;
    counts = counts-listed (apart st).first p.first;
  }
  found_readable (Err r) p = record { first = none-listed; second = none-listed; counts = none-listed }

  -- the entries of a list, from an array that holds them
  module _ (xs : List Item) (is : Items) (l : Listed s is) (e : take is.count xs ≡ items_for (items_in s is)) where
    items_mean : items_with s xs is.count ≡ items_in s is
    items_mean = ap (map (item_in s)) e ∙ ordered_items (items_ordered s is l)

    items-within : in_order (length s) (take is.count xs) ≡ true
    items-within = ap (in_order (length s)) e ∙ ordered_within (items_ordered s is l)

  module _ (v : Value) (l : Lists) (r : Readable s l) (h : Filled s l v) where
    operand_means :
        (xs : List Item) (p : Operand)
        → Listed s (names_in (part.Operand p))
        → take (names_in (part.Operand p)).count xs ≡ items_for (items_in s (names_in (part.Operand p)))
        → operand_with s xs p ≡ operand_in s p
    unfolding operand_in
    operand_means xs operand.Wildcard k e = refl
    operand_means xs (operand.Symbol n) k e = refl
    operand_means xs (operand.Names is) k e = ap (λ (ys : List statement.Item). statement.names (map (λ i. i.name) ys)) (items_mean xs is k e)

    counts-mean :
        (c : Counts)
        → take (lists.counts_in (part.Counts c)).count v.counts ≡ values_in (items_in s (lists.counts_in (part.Counts c)))
        → counts_with v.counts c ≡ counts_in s c
    unfolding counts_in
    counts-mean (counts.Single x) e = refl
    counts-mean (counts.Range a b) e = refl
    counts-mean (counts.List is) e = ap statement.counts e

    feature-means : (f : Feature) → l ≡ parts_lists (feature_apart f) → feature_by (in_arrays s v) f ≡ feature_in s f
    unfolding feature_in feature_apart transits_in
    feature-means (Absorption m) e = refl
    feature-means (Elimination m) e = refl
    feature-means (Peripherals c k) e = simp (counts-mean c (rw e at h.counts))
    feature-means (Transits transits.N d) e = refl
    feature-means (Transits (transits.Counts c) d) e = simp (counts-mean c (rw e at h.counts))
    feature-means (Lagtime m) e = refl
    feature-means (Covariate o p c m op) e =
        simp (operand_means v.first p (rw e at r.first) (rw e at h.first), operand_means v.second c (rw e at r.second) (rw e at h.second))
    feature-means (Allometry n m) e = refl
    feature-means (DirectEffect m) e = refl
    feature-means (EffectComp m) e = refl
    feature-means (IndirectEffect m p) e = refl
    feature-means (Metabolite m) e = refl
    feature-means (Iiv o p m) e = simp (operand_means v.first p (rw e at r.first) (rw e at h.first))
    feature-means (Iov o p m) e = simp (operand_means v.first p (rw e at r.first) (rw e at h.first))
    feature-means (Covariance o m p) e = simp (operand_means v.second p (rw e at r.second) (rw e at h.second))

    statement-means : (st : Statement) → l ≡ parts_lists (apart st) → statement_by (in_arrays s v) st ≡ statement_in s st
    unfolding statement_in apart
    statement-means (form.Let n is) e = simp (items_mean v.second is (rw e at r.second) (rw e at h.second))
    statement-means (form.Feature f) e = ap statement.feature (feature-means f e)

  -- A value stands for what was found.
  pub found-means :
      (v : Value) (f : Result Statement Refusal) → v.found ≡ f → Readable s (found_lists f) → Filled s (found_lists f) v → value_as s v ≡ answered (statement_in s) f
  unfolding found_with
  found-means v (Ok st) e r h = ap (found_with s v) e ∙ ap accepted (statement-means v (parts_lists (apart st)) r h st refl)
  found-means v (Err x) e r h = ap (found_with s v) e

  -- Its names and its lists can be used as they stand.
  pub found_usable : (v : Value) (f : Result Statement Refusal) → v.found ≡ f → FoundFits s f → Readable s (found_lists f) → Filled s (found_lists f) v → Usable s v
  found_usable v f e p r h = record {
    fits = subst (FoundFits s) (sym e) p;
    few-first = rw e r.first.few;
    few-second = rw e r.second.few;
    few-counts = rw e r.counts.few;
    first = rw e (items-within v.first (found_lists f).first r.first h.first);
    second = rw e (items-within v.second (found_lists f).second r.second h.second);
  }

-- The names of a source, entry by entry: all of them are the source's, values of the text among them; and where the next one is read.
-- Assumes nothing.
use mathlib.Core.Path.{◌≡◌, refl, sym, ◌∙◌, ap}
use mathlib.Core.Bool.{true}
use mathlib.Core.List.{List, [], ◌∷◌, ◌++◌, map}
use Prim.Native.Nat.{ℕ, zero, suc, ◌+◌, ◌≤◌, ◌<◌}
use native.Mathlib.Omega.{arith}
use Rattle.tokens.specs.Token.{Tokens}
use Rattle.reading.specs.Statement.{Item}
use Rattle.resolving.specs.Handed.{handed_context}
use Rattle.text.proofs.Appended.{map-append}
use Rattle.read_forms.specs.declared.Items.{Items}
use Rattle.read_forms.specs.Items.{tokens_from, entries, after_entries, listed, items_in}
use Rattle.read_forms.specs.Fits.{Listed}
use Rattle.read_forms.proofs.Lists.{items_are}
use Rattle.read_forms.proofs.Entries.{entries-ahead, first-listed, entries-more}
use Rattle.read_checks.specs.declared.Entry.{Entry}
use Rattle.read_checks.specs.Answers.{NextEntry, goes_on}
use Rattle.read_lists.proofs.Filling.{Come, next-stands, come-on}
use Rattle.resolve_context.specs.declared.Layout.{Layout}
use Rattle.resolve_context.specs.Lists.{Stands}
use Rattle.resolve_symbols.specs.declared.Source.{Source}
use Rattle.resolve_symbols.specs.declared.Source.TheVariants.{Values, Given}
use Rattle.resolve_symbols.specs.Sources.{source_list, SourceFits}
use Rattle.resolve_symbols.specs.Brings.{brought_by, spelled_in}
use Rattle.resolve_symbols.proofs.Sources.{listing_brought, list_few}
use Rattle.resolve_operands.specs.Named.{extent_of, value_at, names_at, EntryAt}

module _ (s : List ℕ) (is : Items) where
  abbrev word : Item → List ℕ
  word x = x.name.spelling

  abbrev from : Tokens
  from = tokens_from s is.first.at

  values_so_far : (n : ℕ) → listed n from ≡ true → brought_by (value_at s is) n ≡ map word (entries n from)
  unfolding brought_by entries
  values_so_far zero e = refl
  values_so_far (suc n) e =
      let f = first-listed n (suc n) from e (omega arith) in
      ap (λ (l : List (List ℕ)). l ++ value_at s is n) (values_so_far n f)
      ∙ sym (map-append word (entries n from) (entries 1 (after_entries n from)))
      ∙ ap (map word) (sym (entries-more n from f))

  values-brought : Listed s is → brought_by (value_at s is) is.count ≡ map word (items_in s is)
  values-brought l = values_so_far is.count l.are ∙ ap (map word) (sym (items_are s is l))

module _ (b l : List ℕ) (y : Layout) (st : Stands b l y) (s : List ℕ) where
  -- all that its entries bring are the source's names
  pub all_named : (x : Source) → SourceFits s x → brought_by (names_at s b l y x) (extent_of y x).count ≡ source_list (handed_context b l) s x
  all_named (Values is) f = values-brought s is f
  all_named (Given x) f = listing_brought b l y st x

  -- they are at most 64
  pub extent_few : (x : Source) → SourceFits s x → (extent_of y x).count ≤ 64
  extent_few (Values is) f = f.few
  extent_few (Given x) f = list_few b l y st x

-- its first entry is read from where it starts
pub first_read : (s : List ℕ) (y : Layout) (x : Source) → EntryAt s x 0 (extent_of y x).first.at
unfolding after_entries
first_read s y (Values is) = refl
first_read s y (Given x) = tt

-- an entry that stands in the text
module _ (s : List ℕ) (is : Items) (i o : ℕ) (f : Listed s is) (h : i < is.count) (g : EntryAt s (Values is) i o) where
  come : Come s is i o
  come = record { here = g; most = omega (arith, h) }

  pub entry-stands : listed 1 (tokens_from s o) ≡ true
  entry-stands = next-stands s is i o f come h

  -- it brings its own bytes, and the next one is read behind it
  module _ (r : Entry) (t : NextEntry s o r) where
    pub entry_named : spelled_in s r.name ∷ [] ≡ value_at s is i
    unfolding entries
    entry_named = sym (ap (λ (ts : Tokens). map (word s is) (entries 1 ts)) g ∙ ap (map (word s is)) (entries-ahead t.here 0))

    pub next-read : EntryAt s (Values is) (i + 1) (goes_on s r)
    next-read = (come-on s is i o f come h (goes_on s r) t.here).here

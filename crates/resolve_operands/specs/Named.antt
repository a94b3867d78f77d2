-- A name before it is an index: "Each name in one, written or brought by a symbol or `*`, is held by 15 to the list that written names are held to
-- there". Each entry of a source brings one, or none: a value of the text is read where it stands, and an entry of the context brings what it does.
use Rattle.std.specs.Prelude.{ℕ, ◌+◌, List, [], ◌∷◌, map, ◌≡◌}
use Rattle.std.proofs.Math.Option.{Option, some, none}
use Rattle.tokens.specs.Next.{cursor}
use Rattle.text.specs.Lists.{place_in, same_bytes}
use Rattle.read_forms.specs.declared.Items.{Items}
use Rattle.read_forms.specs.Items.{tokens_from, entries, after_entries}
use Rattle.resolve_context.specs.declared.Layout.{Layout}
use Rattle.resolve_symbols.specs.declared.Source.{Source}
use Rattle.resolve_symbols.specs.declared.Source.TheVariants.{Values, Given}
use Rattle.resolve_symbols.specs.Brings.{list_of, brings, named_as, NamedFits}
use Rattle.resolve_operands.specs.declared.NextName.{NextName}
use Rattle.read_forms.specs.declared.Fault.{Fault}
use Rattle.read_forms.specs.declared.Fault.TheVariants.{UnknownName}
use Rattle.std.specs.Prelude as prelude

-- where its entries start, and how many there are
abbrev pub extent_of : Layout → Source → Items
extent_of y (Values is) = is
extent_of y (Given x) = record { first = cursor 0; count = (list_of y x).count }

-- the word of an entry of a list in the text, by its index
abbrev pub value_at : List ℕ → Items → ℕ → List (List ℕ)
value_at s is i = map (λ x. x.name.spelling) (entries 1 (after_entries i (tokens_from s is.first.at)))

-- what an entry of a source brings
abbrev pub names_at : List ℕ → List ℕ → List ℕ → Layout → Source → ℕ → List (List ℕ)
names_at s b l y (Values is) i = value_at s is i
names_at s b l y (Given x) i = brings b l y x i

-- where it is read, if it stands in the text
abbrev pub EntryAt : List ℕ → Source → ℕ → ℕ → Type 0
EntryAt s (Values is) i o = after_entries i (tokens_from s is.first.at) ≡ tokens_from s o
EntryAt s (Given x) i o = Unit {0}

pub record NameHere (s b l : List ℕ) (y : Layout) (x : Source) (i : ℕ) (r : NextName) : Type 0 where
  pub fits : NamedFits s b r.named
  pub same : named_as s b r.named ≡ names_at s b l y x i
  pub behind : EntryAt s x (i + 1) r.next.at

-- the word of a name, and its first place in a list
pub record Word (list ws : List (List ℕ)) (o : Option ℕ) : Type 0 where
  pub word : List ℕ
  pub are : ws ≡ word ∷ []
  pub found : place_in (same_bytes word) list ≡ o

abbrev pub PlacedAs : List (List ℕ) → List (List ℕ) → prelude.Result (prelude.Option ℕ) Fault → Type 0
PlacedAs list ws (prelude.Ok (prelude.Some i)) = Word list ws (some i)
PlacedAs list ws (prelude.Ok prelude.None) = ws ≡ []
PlacedAs list ws (prelude.Err k) = (k ≡ UnknownName) × Word list ws none

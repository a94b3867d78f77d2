-- The names that stand in the context: what each entry of a list brings, by its index. An entry of the template brings
-- the parameter that its variable matches, if its role is asked for; a declared covariate brings itself, if its kind is.
use Rattle.std.specs.Prelude.{ℕ, zero, suc, ◌<◌, Bool, cond, List, [], ◌∷◌, ◌++◌, ◌≡◌, get_or}
use Rattle.text.specs.Lists.{any, keep, same_bytes}
use Rattle.resolving.specs.Context.{Binding}
use Rattle.resolving.specs.Context as context
use Rattle.resolving.specs.Builtins.{matching, of_kind}
use Rattle.resolving.specs.Given.{kind_of}
use Rattle.read_forms.specs.declared.Name.{Name}
use Rattle.read_forms.specs.Items.{name_in}
use Rattle.read_forms.specs.Fits.{InText}
use Rattle.resolve_context.specs.declared.Names.{Names}
use Rattle.resolve_context.specs.declared.Layout.{Layout}
use Rattle.resolve_context.specs.Kinds.{kind_as}
use Rattle.resolve_context.specs.Lists.{list_at, names_in, kinds_in, variables_of, covariates_of}
use Rattle.std.specs.Prelude as prelude
use Rattle.resolve_symbols.specs.declared.Roles.{Roles}
use Rattle.resolve_symbols.specs.declared.Roles.TheVariants.{Every}
use Rattle.resolve_symbols.specs.declared.Listing.{Listing}
use Rattle.resolve_symbols.specs.declared.Listing.TheVariants.{Iiv, Template, TemplateIiv, Nothing, Declared, Covariates}
use Rattle.resolve_symbols.specs.declared.Named.{Named}
use Rattle.resolve_symbols.specs.declared.Named.TheVariants as named
use Rattle.resolve_symbols.specs.Sources.{of_roles}

-- the list whose entries are taken
abbrev pub list_of : Layout → Listing → Names
list_of y Iiv = y.iiv
list_of y (Template r) = y.template
list_of y TemplateIiv = y.template
list_of y Nothing = list_at 0 0 2
list_of y (Declared k) = y.declared
list_of y Covariates = covariates_of y

-- what an entry brings that passes or does not
abbrev pub from_binding : List (List ℕ) → (Binding → Bool) → Binding → List (List ℕ)
from_binding parameters p x = cond (p x) (matching parameters x.variable) []

abbrev pub from_declared : (context.Declared → Bool) → context.Declared → List (List ℕ)
from_declared p x = cond (p x) (x.name ∷ []) []

module _ (b l : List ℕ) (y : Layout) where
  abbrev pub entry_at : Names → ℕ → List ℕ
  entry_at n i = get_or (names_in b l n) i []

  abbrev pub binding_at : ℕ → Binding
  binding_at i = record { role = entry_at y.template i; variable = entry_at (variables_of y.template) i }

  abbrev pub declared_at : ℕ → context.Declared
  declared_at i = record { name = entry_at y.declared i; kind = kind_of (get_or (kinds_in l y.declared) i 0) }

  abbrev pub is_iiv : List ℕ → Bool
  is_iiv v = any (same_bytes v) (names_in b l y.iiv)

  -- the parameter at a place that was found
  abbrev pub parameter_at : prelude.Option ℕ → List (List ℕ)
  parameter_at (prelude.Some i) = entry_at y.parameters i ∷ []
  parameter_at prelude.None = []

  abbrev pub from_template : Roles → ℕ → List (List ℕ)
  from_template r i = from_binding (names_in b l y.parameters) (of_roles r) (binding_at i)

  abbrev pub brings : Listing → ℕ → List (List ℕ)
  brings Iiv i = entry_at y.iiv i ∷ []
  brings (Template r) i = from_template r i
  brings TemplateIiv i = keep is_iiv (from_template Every i)
  brings Nothing i = []
  brings (Declared k) i = from_declared (of_kind (kind_as k)) (declared_at i)
  brings Covariates i = entry_at (covariates_of y) i ∷ []

-- what the first so many bring
unfoldable pub brought_by : (ℕ → List (List ℕ)) → ℕ → List (List ℕ)
brought_by f zero = []
brought_by f (suc n) = brought_by f n ++ f n

-- a place that was found is one of so many
abbrev pub FoundBelow : ℕ → prelude.Option ℕ → Type 0
FoundBelow n (prelude.Some i) = i < n
FoundBelow n prelude.None = Unit {0}

-- a place of a parameter, or none, for words that are that parameter or none
pub record Matches (b l : List ℕ) (y : Layout) (words : List (List ℕ)) (r : prelude.Option ℕ) : Type 0 where
  pub below : FoundBelow y.parameters.count r
  pub same : parameter_at b l y r ≡ words

-- the bytes of a name, which is a pair into a text or into the block
abbrev pub spelled_in : List ℕ → Name → List ℕ
spelled_in s n = (name_in s n).spelling

-- a name by its mark: its bytes, and that it lies where it says
module _ (s b : List ℕ) where
  abbrev pub named_as : Named → List (List ℕ)
  named_as (named.Text n) = spelled_in s n ∷ []
  named_as (named.Block n) = spelled_in b n ∷ []
  named_as named.Nothing = []

  abbrev pub NamedFits : Named → Type 0
  NamedFits (named.Text n) = InText s n
  NamedFits (named.Block n) = InText b n
  NamedFits named.Nothing = Unit {0}

-- what an entry of the context brings has nothing of a text
pub record Yields (b : List ℕ) (words : List (List ℕ)) (r : Named) : Type 0 where
  pub fits : (s : List ℕ) → NamedFits s b r
  pub same : (s : List ℕ) → named_as s b r ≡ words

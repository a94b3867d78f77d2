-- What an operand or a symbol stands for: values of a LET, which are in the text, or names of the context, which are in its block. And what
-- looking a symbol up answers.
use Rattle.std.specs.Prelude.{ℕ, Bool, true, false, List, [], ◌∷◌, map, ◌≡◌}
use Rattle.std.proofs.Math.Option.{Option, some, none}
use Rattle.text.specs.Bytes.{bytes}
use Rattle.text.specs.Lists.{any, keep, same_bytes}
use Rattle.resolving.specs.Context.{Context, Binding, covariates}
use Rattle.resolving.specs.Builtins.{every_role, absorption_roles, distribution_roles, templated, declared}
use Rattle.read_forms.specs.Items.{items_in}
use Rattle.read_forms.specs.Fits.{Listed}
use Rattle.resolve_context.specs.declared.Layout.{Layout}
use Rattle.resolve_context.specs.Kinds.{kind_as}
use Rattle.resolve_symbols.specs.declared.Roles.{Roles}
use Rattle.resolve_symbols.specs.declared.Roles.TheVariants.{Every, Absorption, Elimination, Distribution, Bioavail}
use Rattle.resolve_symbols.specs.declared.Listing.{Listing}
use Rattle.resolve_symbols.specs.declared.Listing.TheVariants.{Iiv, Template, TemplateIiv, Nothing, Declared, Covariates}
use Rattle.resolve_symbols.specs.declared.Source.{Source}
use Rattle.resolve_symbols.specs.declared.Source.TheVariants.{Values, Given}
use Rattle.std.specs.Prelude as prelude

-- whether a role is one of those that a built-in takes
abbrev pub role_of : Roles → List ℕ → Bool
role_of Every w = true
role_of Absorption w = any (same_bytes w) absorption_roles
role_of Elimination w = any (same_bytes w) (bytes "cl" ∷ [])
role_of Distribution w = any (same_bytes w) distribution_roles
role_of Bioavail w = any (same_bytes w) (bytes "f" ∷ [])

abbrev pub of_roles : Roles → Binding → Bool
of_roles r b = role_of r b.role

abbrev pub or_none : Option (List (List ℕ)) → List (List ℕ)
or_none none = []
or_none (some ws) = ws

abbrev pub among_iiv : Context → List ℕ → Bool
among_iiv c v = any (same_bytes v) c.iiv

-- the names of the context that are taken; without a template or a block, those of it are none
abbrev pub listing_names : Context → Listing → List (List ℕ)
listing_names c Iiv = c.iiv
listing_names c (Template r) = or_none (templated c (of_roles r))
listing_names c TemplateIiv = keep (among_iiv c) (or_none (templated c every_role))
listing_names c Nothing = []
listing_names c (Declared k) = or_none (declared c (kind_as k))
listing_names c Covariates = covariates c

abbrev pub source_list : Context → List ℕ → Source → List (List ℕ)
source_list c s (Values is) = map (λ i. i.name.spelling) (items_in s is)
source_list c s (Given x) = listing_names c x

-- the names of a symbol, or none
abbrev pub looked_as : Context → List ℕ → prelude.Option Source → Option (List (List ℕ))
looked_as c s prelude.None = none
looked_as c s (prelude.Some x) = some (source_list c s x)

-- values can be read again
abbrev pub SourceFits : List ℕ → Source → Type 0
SourceFits s (Values is) = Listed s is
SourceFits s (Given x) = Unit {0}

abbrev pub LookedFits : List ℕ → prelude.Option Source → Type 0
LookedFits s prelude.None = Unit {0}
LookedFits s (prelude.Some x) = SourceFits s x

abbrev pub is_some : {A : Type 0} → Option A → Bool
is_some none = false
is_some (some a) = true

-- a layout has the marks of a context
pub record Marked (c : Context) (y : Layout) : Type 0 where
  pub templated : y.templated ≡ is_some c.template
  pub declares : y.declares ≡ is_some c.block

-- in every context with the layout's marks, an answer's names are these
abbrev pub Means : List ℕ → Layout → prelude.Option Source → (Context → Option (List (List ℕ))) → Type 0
Means s y r f = (c : Context) → Marked c y → looked_as c s r ≡ f c

-- so they are in every text: a built-in has nothing of it
pub record MeansAnywhere (y : Layout) (r : prelude.Option Source) (f : Context → Option (List (List ℕ))) : Type 0 where
  pub fits : (s : List ℕ) → LookedFits s r
  pub means : (s : List ℕ) → Means s y r f

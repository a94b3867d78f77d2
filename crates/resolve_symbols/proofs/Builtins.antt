-- The built-ins: what a word's answer means, where what it is chosen from does. A template or a block that is missing makes one unknown.
-- Assumes nothing.
use mathlib.Core.Path.{◌≡◌, refl, ◌∙◌, sym, subst}
use mathlib.Core.Bool.{Bool, true, false, cond}
use mathlib.Core.List.{List, []}
use mathlib.Core.Option.{Option, some, none, map}
use Prim.Native.Nat.{ℕ}
use Rattle.text.specs.Lists.{keep}
use Rattle.resolving.specs.Context.{Context}
use Rattle.resolving.specs.Builtins.{every_role, templated, declared}
use Rattle.resolve_context.specs.declared.Kind.{Kind}
use Rattle.resolve_context.specs.declared.Layout.{Layout}
use Rattle.resolve_context.specs.Kinds.{kind_as}
use Rattle.resolve_symbols.specs.declared.Roles.{Roles}
use Rattle.resolve_symbols.specs.declared.Listing.{Listing}
use Rattle.resolve_symbols.specs.declared.Listing.TheVariants.{Iiv, Template, TemplateIiv, Nothing, Declared}
use Rattle.resolve_symbols.specs.declared.Source.{Source}
use Rattle.resolve_symbols.specs.declared.Source.TheVariants.{Given}
use Rattle.std.specs.Prelude as prelude
use Rattle.resolve_symbols.specs.Sources.{
  of_roles,
  or_none,
  is_some,
  among_iiv,
  listing_names,
  looked_as,
  LookedFits,
  Marked,
  MeansAnywhere,
}

abbrev Wanted : Type 0
Wanted = Context → Option (List (List ℕ))

-- a test chooses between two answers
pub chosen : {y : Layout} (t : Bool) {a b r : prelude.Option Source} {f g : Wanted}
    → r ≡ cond t a b → MeansAnywhere y a f → MeansAnywhere y b g → MeansAnywhere y r (λ c. cond t (f c) (g c))
chosen {y} t {a} {b} {r} {f} {g} e p q = subst (λ (x : prelude.Option Source). MeansAnywhere y x (λ c. cond t (f c) (g c))) (sym e) (by_test t)
  where
    by_test : (u : Bool) → MeansAnywhere y (cond u a b) (λ c. cond u (f c) (g c))
    by_test true = p
    by_test false = q

pub unknown : {y : Layout} → MeansAnywhere y prelude.None (λ c. none)
unknown = record { fits = λ s. tt; means = λ s c m. refl }

pub is_iiv : {y : Layout} → MeansAnywhere y (prelude.Some (Given Iiv)) (λ c. some c.iiv)
is_iiv = record { fits = λ s. tt; means = λ s c m. refl }

pub is-nothing : {y : Layout} → MeansAnywhere y (prelude.Some (Given Nothing)) (λ c. some [])
is-nothing = record { fits = λ s. tt; means = λ s c m. refl }

-- names whose template or block may be missing
if_marked : {y : Layout} (t : Bool) (x : Listing) {r : prelude.Option Source} (f : Wanted)
    → r ≡ cond t (prelude.Some (Given x)) prelude.None
    → ((c : Context) → Marked c y → cond t (some (listing_names c x)) none ≡ f c)
    → MeansAnywhere y r f
if_marked {y} t x {r} f e g =
    subst (λ (q : prelude.Option Source). MeansAnywhere y q f) (sym e)
    (record { fits = λ s. fits s t; means = λ s c m. looked s c t ∙ g c m })
  where
    fits : (s : List ℕ) (u : Bool) → LookedFits s (cond u (prelude.Some (Given x)) prelude.None)
    fits s true = tt
    fits s false = tt

    looked : (s : List ℕ) (c : Context) (u : Bool) → looked_as c s (cond u (prelude.Some (Given x)) prelude.None) ≡ cond u (some (listing_names c x)) none
    looked s c true = refl
    looked s c false = refl

some_or : {A : Type 0} (g : A → List (List ℕ)) (o : Option A) → cond (is_some o) (some (or_none (map g o))) none ≡ map g o
some_or g none = refl
some_or g (some a) = refl

kept-or : {A : Type 0} (h : List (List ℕ) → List (List ℕ)) (g : A → List (List ℕ)) (o : Option A)
    → cond (is_some o) (some (h (or_none (map g o)))) none ≡ map h (map g o)
kept-or h g none = refl
kept-or h g (some a) = refl

module _ {y : Layout} where
  pub of_template : (q : Roles) → MeansAnywhere y (cond y.templated (prelude.Some (Given (Template q))) prelude.None) (λ c. templated c (of_roles q))
  of_template q =
      if_marked y.templated (Template q) (λ c. templated c (of_roles q)) refl
      (λ c m. rw m.templated (some_or _ c.template))

  pub of_template-iiv :
      MeansAnywhere y (cond y.templated (prelude.Some (Given TemplateIiv)) prelude.None) (λ c. map (keep (among_iiv c)) (templated c every_role))
  of_template-iiv =
      if_marked y.templated TemplateIiv (λ c. map (keep (among_iiv c)) (templated c every_role)) refl
      (λ c m. rw m.templated (kept-or (keep (among_iiv c)) _ c.template))

  pub of_block : (k : Kind) → MeansAnywhere y (cond y.declares (prelude.Some (Given (Declared k))) prelude.None) (λ c. declared c (kind_as k))
  of_block k = if_marked y.declares (Declared k) (λ c. declared c (kind_as k)) refl (λ c m. rw m.declares (some_or _ c.block))

-- `resolve_symbols::bring` meets its contract, list by list. Assumes nothing.
use mathlib.Core.Path.{◌≡◌, refl, ◌∙◌, ap, sym, subst}
use mathlib.Core.List.{List, []}
use Prim.Native.Nat.{ℕ, ◌<◌}
use lib.ListN.{get_or}
use Rattle.text.specs.Lists.{keep}
use Rattle.resolve_context.specs.declared.Names.{Names}
use Rattle.resolve_context.specs.Lists.{Sound, names_in, covariates_of}
use Rattle.resolve_context.proofs.Meaning.{iiv_sound, covariates_sound}
use Rattle.resolve_symbols.specs.declared.Listing.{Listing}
use Rattle.resolve_symbols.specs.Brings.{list_of, entry_at, is_iiv, Yields}
use Rattle.resolve_symbols.proofs.Brings.{yields_nothing, yields_pair}
use Rattle.resolve_symbols.proofs.bring.Goals.{Start}
use Rattle.resolve_symbols.proofs.bring.Goals as goal

-- the index is one of the list
below : (s : Start) {x : Listing} → s.args.listing ≡ x → s.args.index < (list_of s.args.layout x).count
below s e = subst (λ (x : Listing). s.args.index < (list_of s.args.layout x).count) e s.requires.1

pub pair_at-requires : goal.pair_at-requires
pair_at-requires c = (below (goal.at.pair_at-requires c).Start c.in-Iiv.is, iiv_sound _ _ _ c.requires.0)

pub of_template-found-requires : goal.of_template-found-requires
of_template-found-requires c = (c.requires.0, below (goal.at.of_template-found-requires c).Start c.in-Template.is)

pub of_template-found-requires-in-TemplateIiv : goal.of_template-found-requires-in-TemplateIiv
of_template-found-requires-in-TemplateIiv c = (c.requires.0, below (goal.at.of_template-found-requires-in-TemplateIiv c).Start c.in-TemplateIiv.is)

pub of_kind-requires : goal.of_kind-requires
of_kind-requires c = (c.requires.0, below (goal.at.of_kind-requires c).Start c.in-Declared.is)

pub pair_at-requires-in-Covariates : goal.pair_at-requires-in-Covariates
pair_at-requires-in-Covariates c =
    subst (λ (n : Names). (c.args.index < n.count) × Sound c.args.block.now c.args.lists.now n) (sym c.covariates-names.ensures)
    (below (goal.at.pair_at-requires-in-Covariates c).Start c.in-Covariates.is, covariates_sound _ _ _ c.requires.0)

pub returns-in-Iiv : goal.returns-in-Iiv
returns-in-Iiv c = rw c.in-Iiv.is (yields_pair _ c.pair_at.ensures.0 c.pair_at.ensures.1 refl)

pub returns-in-Template : goal.returns-in-Template
returns-in-Template c =
    let a = c.args in
    rw c.in-Template.is
    (subst (λ (ws : List (List ℕ)). Yields a.block.now ws c.parameter.result) c.of_template-found.ensures.same c.parameter.ensures)

pub returns-in-TemplateIiv : goal.returns-in-TemplateIiv
returns-in-TemplateIiv c =
    let a = c.args in
    rw c.in-TemplateIiv.is
    (subst (λ (ws : List (List ℕ)). Yields a.block.now ws c.parameter-in-TemplateIiv.result)
    (c.if_iiv.ensures.same ∙ ap (keep (is_iiv a.block.now a.lists.now a.layout)) c.of_template-found-in-TemplateIiv.ensures.same)
    c.parameter-in-TemplateIiv.ensures)

pub returns-in-Covariates : goal.returns-in-Covariates
returns-in-Covariates c =
    let a = c.args in
    rw c.in-Covariates.is
    (yields_pair (entry_at a.block.now a.lists.now a.layout (covariates_of a.layout) a.index) c.pair_at-in-Covariates.ensures.0
    (c.pair_at-in-Covariates.ensures.1
    ∙ ap (λ (n : Names). get_or (names_in a.block.now a.lists.now n) a.index []) c.covariates-names.ensures)
    refl)

pub parameter-requires : goal.parameter-requires
parameter-requires c = (c.requires.0, c.of_template-found.ensures.below)

pub if_iiv-requires : goal.if_iiv-requires
if_iiv-requires c = (c.requires.0, c.of_template-found-in-TemplateIiv.ensures.below)

pub parameter-requires-in-TemplateIiv : goal.parameter-requires-in-TemplateIiv
parameter-requires-in-TemplateIiv c = (c.requires.0, c.if_iiv.ensures.below)

pub returns-in-Nothing : goal.returns-in-Nothing
returns-in-Nothing c = rw c.in-Nothing.is (yields_nothing refl)

pub returns-in-Declared : goal.returns-in-Declared
returns-in-Declared c = rw c.in-Declared.is c.of_kind.ensures

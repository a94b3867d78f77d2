-- `resolve_symbols::of_template` meets its contract: the role is tested, and the first parameter is found that the variable matches. Assumes nothing.
use mathlib.Core.Path.{◌≡◌, ◌∙◌, ap, sym, subst}
use mathlib.Core.List.{List, []}
use Prim.Native.Nat.{ℕ, ◌<◌}
use lib.ListN.{get_or}
use Rattle.resolving.specs.Context.{Binding}
use Rattle.resolve_context.specs.declared.Names.{Names}
use Rattle.resolve_context.specs.Lists.{Sound, names_in}
use Rattle.resolve_context.proofs.Meaning.{roles_sound, variables_sound, parameters_sound, template-near}
use Rattle.resolve_symbols.specs.Sources.{role_of, of_roles}
use Rattle.resolve_symbols.specs.Brings.{binding_at, Matches}
use Rattle.resolve_symbols.proofs.Brings.{binding_taken, binding_left, matches_nothing, match_found}
use Rattle.resolve_symbols.proofs.of_template.Goals.{After-has_role, Start}
use Rattle.resolve_symbols.proofs.of_template.Goals as goal

pub name_at-role-requires : goal.name_at-role-requires
name_at-role-requires c = let p = c.requires in (p.1, roles_sound _ _ _ p.0)

module _ (c : After-has_role) where
  abbrev start : Start
  start = (goal.at.After-has_role c).Start

  abbrev block : List ℕ
  block = start.args.block.now

  abbrev lists : List ℕ
  lists = start.args.lists.now

  abbrev parameters : List (List ℕ)
  parameters = names_in block lists start.args.layout.parameters

  abbrev entry : Binding
  entry = binding_at block lists start.args.layout start.args.index

  -- the test that was made is the definition's
  tested : c.has_role.result ≡ of_roles start.args.roles entry
  tested = c.has_role.ensures ∙ ap (role_of start.args.roles) c.name_at-role.ensures

pub returns-then-not-has_role : goal.returns-then-not-has_role
returns-then-not-has_role c =
    matches_nothing (block (goal.at.returns-then-not-has_role c).After-has_role) (lists (goal.at.returns-then-not-has_role c).After-has_role) (start (goal.at.returns-then-not-has_role c).After-has_role).args.layout
    (binding_left (parameters (goal.at.returns-then-not-has_role c).After-has_role) (of_roles (start (goal.at.returns-then-not-has_role c).After-has_role).args.roles) (entry (goal.at.returns-then-not-has_role c).After-has_role) (sym (tested (goal.at.returns-then-not-has_role c).After-has_role) ∙ c.if-not-has_role.true))

pub variables_of-requires : goal.variables_of-requires
variables_of-requires c = template-near _ _ _ (start (goal.at.variables_of-requires c).After-has_role).requires.0

pub name_at-variable-requires : goal.name_at-variable-requires
name_at-variable-requires c =
    let s = start (goal.at.name_at-variable-requires c).After-has_role in
    subst (λ (n : Names). (s.args.index < n.count) × Sound s.args.block.now s.args.lists.now n) (sym c.variables_of.ensures)
    (s.requires.1, variables_sound _ _ _ s.requires.0)

pub match_of-requires : goal.match_of-requires
match_of-requires c = parameters_sound _ _ _ (start (goal.at.match_of-requires c).After-has_role).requires.0

pub returns : goal.returns
returns c =
    let own =
    c.name_at-variable.ensures ∙ ap (λ (n : Names). get_or (names_in (block (goal.at.returns c).After-has_role) (lists (goal.at.returns c).After-has_role) n) (start (goal.at.returns c).After-has_role).args.index []) c.variables_of.ensures in
    subst (λ (ws : List (List ℕ)). Matches (block (goal.at.returns c).After-has_role) (lists (goal.at.returns c).After-has_role) (start (goal.at.returns c).After-has_role).args.layout ws c.match_of.result)
    (sym (binding_taken (parameters (goal.at.returns c).After-has_role) (of_roles (start (goal.at.returns c).After-has_role).args.roles) (entry (goal.at.returns c).After-has_role) (sym (tested (goal.at.returns c).After-has_role) ∙ c.if-not-has_role.false)))
    (match_found (block (goal.at.returns c).After-has_role) (lists (goal.at.returns c).After-has_role) (start (goal.at.returns c).After-has_role).args.layout own c.match_of.ensures)

-- `resolve_symbols::if_iiv` meets its contract: the parameter that was found stands among the IIV parameters, or not. Assumes nothing.
use mathlib.Core.Path.{sym, subst}
use Rattle.resolve_context.proofs.Meaning.{parameters_sound, iiv_sound}
use Rattle.resolve_symbols.specs.Brings.{FoundBelow, Matches}
use Rattle.resolve_symbols.proofs.Brings.{if-there, if-absent}
use Rattle.resolve_symbols.proofs.if_iiv.Goals as goal

pub name_at-name-requires : goal.name_at-name-requires
name_at-name-requires c = (subst (FoundBelow c.args.layout.parameters.count) c.in_ok-place.was c.requires.1, parameters_sound _ _ _ c.requires.0)

pub index_of-requires : goal.index_of-requires
index_of-requires c = iiv_sound _ _ _ c.requires.0

pub returns-in_err-index_of : goal.returns-in_err-index_of
returns-in_err-index_of c =
    let a = c.args in
    let absent = if-absent a.block.now a.lists.now a.layout c.in_ok-place.was c.name_at-name.ensures c.index_of.ensures c.in_err-index_of.was in
    subst (Matches a.block.now a.lists.now a.layout _) (sym c.from_residual-in_err-index_of.ensures) absent

pub returns : goal.returns
returns c =
    let a = c.args in
    if-there a.block.now a.lists.now a.layout c.in_ok-place.was c.name_at-name.ensures c.index_of.ensures c.requires.1 c.in_ok-index_of.was

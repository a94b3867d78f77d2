-- `resolve_symbols::list_of` meets its contract, list by list. Assumes nothing.
use Rattle.resolve_symbols.proofs.list_of.Goals as goal

pub returns-in-Template : goal.returns-in-Template
returns-in-Template c = rw c.in-Template.is

pub returns-in-Declared : goal.returns-in-Declared
returns-in-Declared c = rw c.in-Declared.is

pub returns-in-Covariates : goal.returns-in-Covariates
returns-in-Covariates c = rw c.in-Covariates.is c.covariates.ensures

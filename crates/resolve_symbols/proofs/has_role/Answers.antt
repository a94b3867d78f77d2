-- `resolve_symbols::has_role` meets its contract, set by set. Assumes nothing.
use mathlib.Core.Path.{◌∙◌, sym}
use mathlib.Core.Bool.{or-false}
use Rattle.resolve_symbols.proofs.has_role.Goals as goal

pub returns-in-Absorption : goal.returns-in-Absorption
returns-in-Absorption c = rw c.in-Absorption.is c.is_absorption.ensures

pub returns-in-Elimination : goal.returns-in-Elimination
returns-in-Elimination c = rw c.in-Elimination.is (c.same_bytes.ensures ∙ sym (or-false _))

pub returns-in-Distribution : goal.returns-in-Distribution
returns-in-Distribution c = rw c.in-Distribution.is c.is_distribution.ensures

pub returns-in-Bioavail : goal.returns-in-Bioavail
returns-in-Bioavail c = rw c.in-Bioavail.is (c.same_bytes-in-Bioavail.ensures ∙ sym (or-false _))

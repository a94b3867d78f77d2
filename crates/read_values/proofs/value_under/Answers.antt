-- `read_values::value_under` meets its contract: the lists of what was found can be read again, and the value stands for it. Assumes nothing.
use mathlib.Core.Path.{refl, ◌∙◌, sym, subst}
use Rattle.tokens.specs.Class.{class_of, class_table}
use Rattle.read_values.specs.declared.Lists.{Lists}
use Rattle.read_values.specs.Lists.{found_lists}
use Rattle.read_values.specs.Value.{FoundFits, Filled}
use Rattle.read_values.proofs.Meaning.{Readable, found-fits, found_readable, found-means, found_usable}
use Rattle.read_values.proofs.value_under.Goals.{After-statement_under-found}
use Rattle.read_values.proofs.value_under.Goals as goal

-- what was found, and its lists
fits : (c : After-statement_under-found) → FoundFits c.args.text.now c.statement_under-found.result
fits c =
    let a = c.args in
    found-fits a.text.now a.limit a.index c.statement_under-found.result c.statement_under-found.ensures

readable : (c : After-statement_under-found) → Readable c.args.text.now (found_lists c.statement_under-found.result)
readable c = found_readable c.args.text.now c.statement_under-found.result (fits c)

pub value_of-requires : goal.value_of-requires
unfolding class_table class_of
value_of-requires c =
    let r = subst (Readable c.args.text.now) (sym c.found_lists.ensures) (readable (goal.at.value_of-requires c).After-statement_under-found) in
    (refl, r.first, r.second, r.counts)

pub returns : goal.returns
returns c =
    let s = c.args.text.now in
    let f = c.statement_under-found.result in
    let v = c.value_of.result in
    let e = c.value_of.ensures in
    let h = subst (λ (l : Lists). Filled s l v) c.found_lists.ensures e.1 in
    (found-means s v f e.0 (readable (goal.at.returns c).After-statement_under-found) h ∙ c.statement_under-found.ensures, found_usable s v f e.0 (fits (goal.at.returns c).After-statement_under-found) (readable (goal.at.returns c).After-statement_under-found) h)

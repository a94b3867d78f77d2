-- `resolve_context::kind_at` meets its contract: the third number of an entry is its kind's. Assumes nothing.
use mathlib.Core.Path.{◌∙◌, ap, sym}
use Rattle.resolving.specs.Given.{kind_of}
use Rattle.resolve_context.proofs.Pairs.{kind-is}
use Rattle.resolve_context.proofs.kind_at.Goals as goal

pub returns : goal.returns
returns c =
    c.from.ensures ∙ ap kind_of (sym (kind-is c.args.lists.now c.args.names c.args.index c.requires.0))

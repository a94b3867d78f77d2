-- `resolve_operands::extent_of` meets its contract: values say themselves where they are, and a list of the context how long it is. Assumes nothing.
use mathlib.Core.Path.{◌∙◌, sym, ap}
use Rattle.tokens.specs.Next.{cursor}
use Rattle.read_forms.specs.declared.Items.{Items}
use Rattle.resolve_context.specs.declared.Names.{Names}
use Rattle.resolve_operands.specs.Named.{extent_of}
use Rattle.resolve_operands.proofs.extent_of.Goals as goal

abbrev of_list : Names → Items
of_list n = record { first = cursor 0; count = n.count }

pub returns-in-Given : goal.returns-in-Given
returns-in-Given c =
    ap of_list c.list_of-names.ensures ∙ sym (ap (extent_of c.args.layout) c.in-Given.is)

-- Where the lists of a statement that was read stand in the text: those of its first argument and of its second, and no other has one.
use Rattle.read_forms.specs.declared.Items.{Items}
use Rattle.read_forms.specs.declared.Counts.TheVariants as counts
use Rattle.read_forms.specs.declared.Operand.TheVariants as operand
use Rattle.tokens.specs.Next.{cursor}
use Rattle.read_parts.specs.declared.Part.{Part}
use Rattle.read_parts.specs.declared.Part.TheVariants.{Absent, Modes, Counts, N, Operand, Name, Values, Op, Omitted}
use Rattle.read_parts.specs.declared.Parts.{Parts}
use Rattle.read_parts.specs.Apart.{apart}
use Rattle.std.specs.Prelude.{Result, Ok, Err}
use Rattle.read_forms.specs.declared.Statement.{Statement}
use Rattle.read_forms.specs.declared.Refusal.{Refusal}
use Rattle.read_values.specs.declared.Lists.{Lists}

-- a list that an argument does not have
abbrev pub no_items : Items
no_items = record { first = cursor 0; count = 0 }

-- the names or values of an argument, and its counts
abbrev pub names_in : Part → Items
names_in (Operand (operand.Names is)) = is
names_in (Operand (operand.Symbol n)) = no_items
names_in (Operand operand.Wildcard) = no_items
names_in (Values is) = is
names_in (Counts c) = no_items
names_in (Modes f m) = no_items
names_in (Name n) = no_items
names_in (Op op) = no_items
names_in N = no_items
names_in Absent = no_items
names_in Omitted = no_items

abbrev pub counts_in : Part → Items
counts_in (Counts (counts.List is)) = is
counts_in (Counts (counts.Single v)) = no_items
counts_in (Counts (counts.Range a b)) = no_items
counts_in (Operand p) = no_items
counts_in (Values is) = no_items
counts_in (Modes f m) = no_items
counts_in (Name n) = no_items
counts_in (Op op) = no_items
counts_in N = no_items
counts_in Absent = no_items
counts_in Omitted = no_items

abbrev pub parts_lists : Parts → Lists
parts_lists p = record { first = names_in p.first; second = names_in p.second; counts = counts_in p.first }

-- a refusal has none
abbrev pub found_lists : Result Statement Refusal → Lists
found_lists (Ok s) = parts_lists (apart s)
found_lists (Err r) = record { first = no_items; second = no_items; counts = no_items }

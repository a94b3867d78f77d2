-- Document 01, The calls offered: "Statement: a text and an index give that statement by value, each name as an (offset, length) pair into the
-- text, the pairs of one list sorted by offset." What a value means: the statement whose names are the bytes that its pairs point to, and
-- whose lists are the first entries of its arrays, as many as the list says.
use Rattle.std.specs.Prelude.{ℕ, ◌≤◌, true, List, map, ◌≡◌, length, take, Result, Ok, Err}
use Rattle.reading.specs.Statement as statement
use Rattle.reading.specs.Answer.{Answer, accepted}
use Rattle.read_forms.specs.declared.Item.{Item}
use Rattle.read_forms.specs.declared.Counts.{Counts}
use Rattle.read_forms.specs.declared.Counts.TheVariants as counts
use Rattle.read_forms.specs.declared.TransitCounts.{TransitCounts}
use Rattle.read_forms.specs.declared.TransitCounts.TheVariants as transits
use Rattle.read_forms.specs.declared.Operand.{Operand}
use Rattle.read_forms.specs.declared.Operand.TheVariants as operand
use Rattle.read_forms.specs.Items.{name_in, item_in, items_in}
use Rattle.read_forms.specs.Forms.{values_in, Meanings, statement_by}
use Rattle.read_lists.specs.Lists.{items_for, in_order}
use Rattle.read_parts.specs.Apart.{apart}
use Rattle.read_parts.specs.Meaning.{PartsFit}
use Rattle.read_forms.specs.declared.Statement.{Statement}
use Rattle.read_forms.specs.declared.Refusal.{Refusal}
use Rattle.read_forms.specs.Faults.{refused_by}
use Rattle.read_values.specs.declared.Value.{Value}
use Rattle.read_values.specs.declared.Lists.{Lists}
use Rattle.read_values.specs.Lists.{found_lists}

abbrev pub counts_with : List ℕ → Counts → statement.Counts
counts_with vs (counts.Single v) = statement.count v
counts_with vs (counts.Range a b) = statement.range a b
counts_with vs (counts.List is) = statement.counts (take is.count vs)

abbrev pub transits_with : List ℕ → TransitCounts → statement.TransitCounts
transits_with vs transits.N = statement.estimated
transits_with vs (transits.Counts c) = statement.counted (counts_with vs c)

-- the entries that an array has, as many as a list says
abbrev pub items_with : List ℕ → List Item → ℕ → List statement.Item
items_with s xs n = map (item_in s) (take n xs)

abbrev pub operand_with : List ℕ → List Item → Operand → statement.Operand
operand_with s xs operand.Wildcard = statement.everyone
operand_with s xs (operand.Symbol n) = statement.symbol (name_in s n)
operand_with s xs (operand.Names is) = statement.names (map (λ i. i.name) (items_with s xs is.count))

-- the lists of a form in a value's arrays
abbrev pub in_arrays : List ℕ → Value → Meanings
in_arrays s v = record {
  name = name_in s;
  counts = counts_with v.counts;
  transits = transits_with v.counts;
  first = operand_with s v.first;
  second = operand_with s v.second;
  values = λ is. items_with s v.second is.count;
}

-- the statement that a value stands for in a text, or the refusal
unfoldable pub found_with : List ℕ → Value → Result Statement Refusal → Answer statement.Statement
found_with s v (Ok f) = accepted (statement_by (in_arrays s v) f)
found_with s v (Err r) = refused_by r

abbrev pub value_as : List ℕ → Value → Answer statement.Statement
value_as s v = found_with s v v.found

-- what was found has its names in the text: symbols and names alone lie in it, and lists can be read again from where they start
abbrev pub FoundFits : List ℕ → Result Statement Refusal → Type 0
FoundFits s (Ok f) = PartsFit s (apart f)
FoundFits s (Err r) = Unit {0}

-- Each list has as many entries as it says, at most 64. Each pair lies in the text, and those of a list end before the next one starts.
pub record Usable (s : List ℕ) (v : Value) : Type 0 where
  pub fits : FoundFits s v.found
  pub few-first : (found_lists v.found).first.count ≤ 64
  pub few-second : (found_lists v.found).second.count ≤ 64
  pub few-counts : (found_lists v.found).counts.count ≤ 64
  pub first : in_order (length s) (take (found_lists v.found).first.count v.first) ≡ true
  pub second : in_order (length s) (take (found_lists v.found).second.count v.second) ≡ true

-- a value's arrays hold lists of a text
pub record Filled (s : List ℕ) (l : Lists) (v : Value) : Type 0 where
  pub first : take l.first.count v.first ≡ items_for (items_in s l.first)
  pub second : take l.second.count v.second ≡ items_for (items_in s l.second)
  pub counts : take l.counts.count v.counts ≡ values_in (items_in s l.counts)

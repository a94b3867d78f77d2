-- The parts of a statement are short where its lists are: no argument behind the second has a list, and only the first has counts.
-- Assumes nothing.
use Prim.Native.Nat.{◌≤◌, ◌<◌}
use mathlib.Core.Path.{◌≡◌}
use mathlib.Core.Bool.{true, false≢true}
use mathlib.Core.List.{[]}
use lib.Dec.{lit≤}
use lib.ListN.{length}
use Rattle.labels.specs.Label.{keywords}
use Rattle.read_forms.specs.declared.Statement.{Statement}
use Rattle.read_parts.specs.declared.Part.{Part}
use Rattle.read_parts.specs.declared.Part.TheVariants.{Absent, Modes, Counts, N, Operand, Name, Values, Op, Omitted}
use Rattle.read_parts.specs.declared.Parts.{Parts}
use Rattle.read_parts.specs.Apart.{apart, no_counts, is_plain}
use Rattle.read_parts.proofs.Meaning.{taken}
use Rattle.read_values.specs.Lists.{names_in, counts_in, parts_lists}

abbrev pub ShortPart : Part → Type 0
ShortPart p = ((names_in p).count ≤ 64) × ((counts_in p).count ≤ 64)

pub record Short (r : Parts) : Type 0 where
  pub known : r.keyword < length keywords
  pub first : ShortPart r.first
  pub second : ShortPart r.second
  pub third : ShortPart r.third
  pub fourth : ShortPart r.fourth

few-counts : (p : Part) → no_counts p ≡ true → (counts_in p).count ≤ 64
few-counts Absent e = lit≤ tt
few-counts (Modes f m) e = lit≤ tt
few-counts (Counts c) e = absurd (false≢true e)
few-counts N e = lit≤ tt
few-counts (Operand p) e = lit≤ tt
few-counts (Name n) e = lit≤ tt
few-counts (Values is) e = lit≤ tt
few-counts (Op op) e = lit≤ tt
few-counts Omitted e = lit≤ tt

plain-short : (p : Part) → is_plain p ≡ true → ShortPart p
plain-short Absent e = (lit≤ tt, lit≤ tt)
plain-short (Modes f m) e = (lit≤ tt, lit≤ tt)
plain-short (Counts c) e = absurd (false≢true e)
plain-short N e = (lit≤ tt, lit≤ tt)
plain-short (Operand p) e = absurd (false≢true e)
plain-short (Name n) e = (lit≤ tt, lit≤ tt)
plain-short (Values is) e = absurd (false≢true e)
plain-short (Op op) e = (lit≤ tt, lit≤ tt)
plain-short Omitted e = (lit≤ tt, lit≤ tt)

pub short :
    (st : Statement)
    → ((parts_lists (apart st)).first.count ≤ 64) × ((parts_lists (apart st)).second.count ≤ 64) × ((parts_lists (apart st)).counts.count ≤ 64)
    → Short (apart st)
short st h =
    let t = taken [] st in
    record {
      known = t.known;
      first = (h.0, h.2);
      second = (h.1, few-counts (apart st).second t.second);
      third = plain-short (apart st).third t.third;
      fourth = plain-short (apart st).fourth t.fourth;
    }

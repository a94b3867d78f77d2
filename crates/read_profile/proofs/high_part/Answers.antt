-- `read_profile::high_part` meets its contract: counts, or what has none. Assumes nothing.
use borrow.Enum.Refused.{opened}
use mathlib.Core.Path.{◌∙◌, ap, sym, subst}
use Rattle.read_parts.specs.Meaning.{PartFits}
use Rattle.read_profile.specs.Answers.{high_part}
use Rattle.read_profile.proofs.HighCounts.{no_counts}
use Rattle.read_profile.proofs.high_part.Goals as goal

pub high_counts-requires : goal.high_counts-requires
high_counts-requires c =
    (c.requires.0, subst (PartFits c.args.text.now) c.in-Counts.is c.requires.1)

pub returns-in-Counts : goal.returns-in-Counts
returns-in-Counts c =
    c.high_counts.ensures ∙ sym (ap (high_part c.args.text.now) c.in-Counts.is)

pub returns-in_default : goal.returns-in_default
returns-in_default c = no_counts c.args.text.now c.args.part (opened c.in_default.in_default-own.keys2)

-- `read_profile::high_counts` meets its contract: the count, the right end, or the list's. Assumes nothing.
use mathlib.Core.Path.{◌∙◌, ap, sym, subst}
use Rattle.profiling.specs.Profile.{high_counts}
use Rattle.read_forms.specs.declared.Counts.{Counts}
use Rattle.read_forms.specs.Forms.{counts_in}
use Rattle.read_parts.specs.Meaning.{CountsFit}
use Rattle.read_profile.proofs.high_counts.Goals as goal

pub any_high-requires : goal.any_high-requires
any_high-requires c =
    (c.requires.0, subst (CountsFit c.args.text.now) c.in-List.is c.requires.1)

pub returns-in-Single : goal.returns-in-Single
unfolding counts_in
returns-in-Single c =
    sym (ap (λ (x : Counts). high_counts (counts_in c.args.text.now x)) c.in-Single.is)

pub returns-in-Range : goal.returns-in-Range
unfolding counts_in
returns-in-Range c =
    sym (ap (λ (x : Counts). high_counts (counts_in c.args.text.now x)) c.in-Range.is)

pub returns-in-List : goal.returns-in-List
unfolding counts_in
returns-in-List c =
    c.any_high.ensures
    ∙ sym (ap (λ (x : Counts). high_counts (counts_in c.args.text.now x)) c.in-List.is)

-- `read_checks::lone_count` meets its contract. Assumes nothing.
use Rattle.read_forms.specs.Forms.{counts_in}
use Rattle.read_checks.proofs.lone_count.Goals as goal

pub returns : goal.returns
unfolding counts_in
returns c = rw (← c.judge_count.ensures, c.in_ok-value.was)

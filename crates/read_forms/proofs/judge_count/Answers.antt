-- `read_forms::judge_count` meets its contract. Assumes nothing.
use Rattle.read_forms.specs.Items.{name_in}
use Rattle.reading.specs.Argument.{count_at}
use Rattle.read_forms.proofs.Judging.{count_told}
use Rattle.read_forms.proofs.judge_count.Goals as goal

pub returns : goal.returns
unfolding count_at
returns c = rw (c.ok_or.ensures.value, c.count_at.ensures) (count_told (name_in c.args.text.now c.args.name) _)

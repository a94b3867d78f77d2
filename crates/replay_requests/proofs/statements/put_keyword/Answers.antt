-- `replay_requests::statements::put_keyword` is safe and ends: the constant is the table of keywords. Assumes nothing.
use borrow.Author.Rules.{rules}
use Rattle.labels.specs.Label.{keywords}
use Rattle.labels.specs.Table.{keyword_table}
use Rattle.replay_requests.proofs.statements.put_keyword.Goals as goal

pub keyword_label-requires : goal.keyword_label-requires
unfolding keyword_table keywords
keyword_label-requires c = search rules

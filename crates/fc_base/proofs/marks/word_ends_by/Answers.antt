use Rattle.std.proofs.Common.{rules}
use Rattle.fc_base.proofs.MarkLemmas.{word_ends}
use Rattle.fc_base.proofs.marks.word_ends_by.Goals as goal

pub returns-else-end-ge64 : goal.returns-else-end-ge64
returns-else-end-ge64 c = word_ends c.args.word c.args.end (search rules)

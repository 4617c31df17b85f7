use Rattle.std.proofs.Common.{sym, arith}
use Rattle.fc_base.proofs.AscendingLemmas.{ascends_short}
use Rattle.fc_base.proofs.report.+is_ascending.Goals as goal

pub returns-in-len1 : goal.returns-in-len1
returns-in-len1 t c = sym (ascends_short c.args.blocks.now (omega arith))

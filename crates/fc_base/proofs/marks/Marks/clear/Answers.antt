use Rattle.std.proofs.Common.{rules}
use Rattle.fc_base.specs.Marks.{is_marked}
use Rattle.fc_base.proofs.MarkLemmas.{marked-clear}
use Rattle.fc_base.proofs.marks.Marks.clear.Goals as goal

pub returns : goal.returns
unfolding is_marked
returns c i below = rw (← c.self.view_is) (marked-clear c.self.inside.words c.args.bit i (search rules) c.requires below)

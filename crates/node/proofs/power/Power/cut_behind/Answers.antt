use Rattle.std.proofs.Common.{◌∷◌}
use Rattle.node.specs.Steps.{answered}
use Rattle.node.proofs.CutLemmas.{cut_new}
use Rattle.node.proofs.power.Power.cut_behind.Goals as goal

pub returns : goal.returns
returns g c o past s up due =
    let k = g.C.NodeCore.kind o in
    let e = g.C.NodeCore.came c.args.input in
    cut_new k (c.keeps_laws.ensures o) past e c.args.self.now c.step.new.self c.cut.new.self c.in_ok-_unsent._unsent c.cut.result up due
    (c.in_ok-_unsent.ensures o past s) (c.cut.ensures o (answered k.core.words past e ∷ past))

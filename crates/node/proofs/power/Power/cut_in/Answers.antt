use Rattle.std.proofs.Common.{sym, ◌∙◌, subst, Bool}
use Rattle.node.specs.Kinds.{CutsIn}
use Rattle.node.proofs.CutLemmas.{cut_old}
use Rattle.node.proofs.power.Power.cut_in.Goals as goal

pub returns : goal.returns
returns g c o past s =
    let k = g.C.NodeCore.kind o in
    let e = g.C.NodeCore.came c.args.input in
    let core = c.in-Some.ensures o past s in
    let due = sym (c.in-Ok-true.ensures o past core.1) ∙ c.in-Ok-true.field-0-test in
    subst (λ (landed : Bool). CutsIn k past landed e c.args.self.now c.cut.new.self c.cut.result) (sym c.if-landed.false)
    (cut_old k (c.keeps_laws.ensures o) past e c.args.self.now c.cut.new.self c.cut.result core.2 due (c.cut.ensures o past s))

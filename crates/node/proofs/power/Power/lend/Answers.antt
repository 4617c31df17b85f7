use Rattle.std.proofs.Common.{◌≡◌, sym, subst}
use Rattle.std.specs.Prelude.{IfSome}
use Rattle.node.specs.Kinds.{note_of, Stands}
use Rattle.node.proofs.power.Power.lend.Goals as goal

pub returns-clause-same : goal.returns-clause-same
returns-clause-same g c o =
    let k = g.C.NodeCore.kind o in
    subst (λ power. IfSome c.into_notes.result (λ notes. k.note notes ≡ note_of k power)) c.replace.ensures.value (c.into_notes.ensures.same o)

pub returns-clause-says : goal.returns-clause-says
returns-clause-says g c o past s =
    c.into_notes.ensures.says o past (subst (Stands (g.C.NodeCore.kind o) past) (sym c.replace.ensures.value) s)

pub returns-clause-none : goal.returns-clause-none
returns-clause-none g c o past s =
    c.into_notes.ensures.none o past (subst (Stands (g.C.NodeCore.kind o) past) (sym c.replace.ensures.value) s)

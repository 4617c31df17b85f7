use Rattle.std.proofs.Common.{refl}
use Rattle.node.proofs.PowerLemmas.{hidden, there}
use Rattle.node.proofs.power.Power.cut.Goals as goal

pub returns-then-is_none : goal.returns-then-is_none
returns-then-is_none g c o past s =
    (refl, hidden (g.C.NodeCore.kind o) past c.args.self.now c.core.result (c.core.ensures o past s) c.if-is_none.ensures, refl)

pub returns-in-Some : goal.returns-in-Some
returns-in-Some g c o past s = record {
  on = there (g.C.NodeCore.kind o) past c.args.self.now c.core.result (c.core.ensures o past s) c.if-is_none.ensures;
  notes = c.in-Some.notes;
  left = record { says = c.in-Some.ensures.says o past s; same = c.in-Some.ensures.same o };
  off = refl;
}

pub returns-in-None : goal.returns-in-None
returns-in-None g c o past s = absurd (c.in-None.ensures.none o past s)

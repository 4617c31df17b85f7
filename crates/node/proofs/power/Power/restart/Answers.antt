use Rattle.std.proofs.Common.{refl, inl, inr}
use Rattle.node.proofs.PowerLemmas.{hidden, there}
use Rattle.node.proofs.power.Power.restart.Goals as goal

pub returns-then-not-is_none : goal.returns-then-not-is_none
returns-then-not-is_none g c o past s = inl (record {
  on = there (g.C.NodeCore.kind o) past c.args.self.now c.core.result (c.core.ensures o past s) c.if-not-is_none.ensures;
  same = refl;
  told = refl;
})

pub returns-in-Some : goal.returns-in-Some
returns-in-Some g c o past s = inr (record {
  off = hidden (g.C.NodeCore.kind o) past c.args.self.now c.core.result (c.core.ensures o past s) c.if-not-is_none.ensures;
  notes = c.in-Some.notes;
  left = record { says = c.in-Some.ensures.says o past s; same = c.in-Some.ensures.same o };
  made = c.start.result;
  opens = c.start.ensures;
  new_is = c.put.ensures.left;
  told = c.put.ensures.told;
})

pub returns-in-None : goal.returns-in-None
returns-in-None g c o past s = absurd (c.in-None.ensures.none o past s)

use Rattle.std.proofs.Common.{refl, sym, ◌∙◌, subst, false, true}
use Rattle.std.proofs.lemmas.Result.{err_from_is_err_and}
use Rattle.std.specs.Prelude.{reverse, slice_get, IfErr}
use Rattle.fc_base.specs.declared.fault.Fault.TheVariants.{NodeOff}
use Rattle.node.specs.Kinds.{note_of}
use Rattle.cells.specs.Calls.{RefusedAfter}
use Rattle.cells.specs.CoreRules.{rules_of}
use Rattle.cells.specs.Rules.{Meets}
use Rattle.cells.proofs.CallLemmas.{asks_frame, delivered, not_delivered, not_there, refused_off, uncounted, why_not_there, why_there, within}
use Rattle.cells.proofs.MoveLemmas.{off_where}
use Rattle.cells.proofs.node_cell.Cell.deliver.Goals as goal

-- ---- it isn't on

pub returns-then-not-is_on-clause-ends : goal.returns-then-not-is_on-clause-ends
returns-then-not-is_on-clause-ends g c =
    not_delivered c.args.me c.args.position (slice_get c.args.hub.now.net.frames c.args.position) c.args.hub.now.net
    (reverse c.args.self.now.history.items) NodeOff refl

pub returns-then-not-is_on-clause-leaves : goal.returns-then-not-is_on-clause-leaves
returns-then-not-is_on-clause-leaves g c o kept =
    let n = g.C.CellCore.kind o in
    let k = g.C.CellCore.core_rules o in
    record {
      kept = kept;
      counts = refl;
      why = refused_off (rules_of n.core.words k) (reverse c.args.self.now.history.items) kept.past
          (slice_get c.args.hub.now.net.frames c.args.position) kept.made
          (off_where n.core.words k kept.past false (sym (c.is_on.ensures o kept.past kept.stands) ∙ c.if-not-is_on.true));
    }

-- ---- no frame comes

pub returns-in_err-came-clause-ends : goal.returns-in_err-came-clause-ends
returns-in_err-came-clause-ends g c =
    let p = err_from_is_err_and c.from_residual.result c.from_residual.ensures.1 in
    rw (p.1, p.2) (not_there c.args.me c.args.hub.now.net c.args.position (reverse c.args.self.now.history.items) c.in_err-came.field-0.0
    c.in_err-came.ensures)

pub returns-in_err-came-clause-leaves : goal.returns-in_err-came-clause-leaves
returns-in_err-came-clause-leaves g c o kept =
    let n = g.C.CellCore.kind o in
    let k = g.C.CellCore.core_rules o in
    let p = err_from_is_err_and c.from_residual.result c.from_residual.ensures.1 in
    let fault = c.in_err-came.field-0.0 in
    rw (p.1, p.2) (record {
      kept = kept;
      counts = uncounted c.args.hub.now.net c.args.position (note_of n c.args.self.now.power).failures fault c.in_err-came.ensures;
      why = why_not_there (rules_of n.core.words k) (reverse c.args.self.now.history.items) kept.past c.args.hub.now.net c.args.position fault kept.made
          (off_where n.core.words k kept.past true (sym (c.is_on.ensures o kept.past kept.stands) ∙ c.if-not-is_on.false)) c.in_err-came.ensures;
    })

-- ---- it comes

pub hear-requires-clause-taken : goal.hear-requires-clause-taken
hear-requires-clause-taken g c = within c.args.hub.now.net c.args.position _ c.in_ok-came.ensures

pub hear-requires-clause-asks : goal.hear-requires-clause-asks
hear-requires-clause-asks g c o =
    asks_frame (g.C.CellCore.core_rules o).asked g.C.CellCore.delivers c.args.hub.now.net c.args.position (c.in_ok-came.came, c.in_ok-came.frame)
    g.C.CellCore.came_in g.C.CellCore.input_in c.delivered.result (c.keeps_rules.ensures o).asked c.in_ok-came.ensures c.delivered.ensures.came
    c.delivered.ensures.input

pub returns-clause-ends : goal.returns-clause-ends
returns-clause-ends g c =
    delivered c.args.me c.args.position c.args.hub.now.net _ (reverse c.args.self.now.history.items) _ c.hear.result
    (c.in_ok-came.came, c.in_ok-came.frame) g.C.CellCore.came_in c.delivered.result c.in_ok-came.ensures c.delivered.ensures.came c.hear.ensures.ends

pub returns-clause-leaves : goal.returns-clause-leaves
returns-clause-leaves g c o kept =
    let rules = rules_of (g.C.CellCore.kind o).core.words (g.C.CellCore.core_rules o) in
    let before = reverse c.args.self.now.history.items in
    let left = c.hear.ensures.leaves o kept in
    record {
      kept = left.kept;
      counts = left.counts;
      why = why_there rules before c.args.hub.now.net c.args.position (c.in_ok-came.came, c.in_ok-came.frame) c.hear.result
          (λ f. Meets (g.C.CellCore.delivers f)) (λ bytes is. (c.keeps_rules.ensures o).asked bytes c.in_ok-came.frame is) c.in_ok-came.ensures
          (subst (λ e. IfErr c.hear.result (RefusedAfter rules before (Meets e))) c.delivered.ensures.input left.why);
    }

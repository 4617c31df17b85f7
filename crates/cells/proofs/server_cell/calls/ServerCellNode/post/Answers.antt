use Rattle.std.proofs.Common.{sym, ◌∙◌, subst, inr, false, None}
use Rattle.std.specs.Prelude.{reverse, IfErr}
use Rattle.fc_base.specs.declared.fault.Fault.TheVariants.{NoMemory, NodeOff}
use Rattle.messages.specs.declared.node.Node.TheVariants.{Server as ServerNode}
use Rattle.server_core.specs.NodeKind.{server_kind}
use Rattle.node.proofs.PowerLemmas.{hidden, there}
use Rattle.cells.specs.Calls.{Commands, RefusedAfter, Replays}
use Rattle.cells.specs.Failures.{Counts}
use Rattle.cells.specs.ServerAsks.{asks_of}
use Rattle.cells.specs.ServerCells.{ServerLog}
use Rattle.cells.specs.ServerRules.{core, rules}
use Rattle.cells.specs.ServerStands.{failures_of}
use Rattle.cells.proofs.HubLemmas.{unready_why}
use Rattle.cells.proofs.ServerCellLemmas.{opening_with}
use Rattle.cells.proofs.ServerHearLemmas.{posts_grow, heard_cell}
use Rattle.cells.proofs.server_cell.calls.ServerCellNode.post.Goals as goal

-- ---- it isn't on, or memory runs out

pub returns-then-is_none-clause-why : goal.returns-then-is_none-clause-why
returns-then-is_none-clause-why g c =
    let o = opening_with c.self.inside.me c.self.inside.boot c.self.inside.last_run in
    let kept = c.self.invariant.kept in
    let n = server_kind g.N.Notes.note o in
    subst (λ (log : ServerLog). RefusedAfter (rules log.opening) log.history (asks_of c.args.command) NodeOff) c.self.view_is
    (unready_why n (core o) _ c.self.inside.cell.power kept (asks_of c.args.command) NodeOff
    (hidden n kept.past c.self.inside.cell.power c.core.result (c.core.ensures o kept.past kept.stands) c.if-is_none.ensures))

pub returns-in_default-clause-why : goal.returns-in_default-clause-why
returns-in_default-clause-why g c =
    let o = opening_with c.self.inside.me c.self.inside.boot c.self.inside.last_run in
    let kept = c.self.invariant.kept in
    let n = server_kind g.N.Notes.note o in
    subst (λ (log : ServerLog). RefusedAfter (rules log.opening) log.history (asks_of c.args.command) NoMemory) c.self.view_is
    (unready_why n (core o) _ c.self.inside.cell.power kept (asks_of c.args.command) NoMemory
    (there n kept.past c.self.inside.cell.power c.core.result (c.core.ensures o kept.past kept.stands) c.if-is_none.ensures))

pub returns-then-is_none-clause-replay : goal.returns-then-is_none-clause-replay
returns-then-is_none-clause-replay g c =
    subst (λ (log : ServerLog). Replays (rules log.opening) log.history) c.self.view_is (c.self.invariant.kept.past, c.self.invariant.kept.made)

pub returns-in_default-clause-replay : goal.returns-in_default-clause-replay
returns-in_default-clause-replay g c =
    subst (λ (log : ServerLog). Replays (rules log.opening) log.history) c.self.view_is (c.self.invariant.kept.past, c.self.invariant.kept.made)

-- ---- the report is heard

pub hear-requires-clause-asks : goal.hear-requires-clause-asks
hear-requires-clause-asks g c o = c.in-Ok.ensures.came ∙ sym c.in-Ok.ensures.input

pub hear-requires-clause-kept : goal.hear-requires-clause-kept
hear-requires-clause-kept g c = (opening_with c.self.inside.me c.self.inside.boot c.self.inside.last_run, c.self.invariant.kept)

pub invariant_of-self : goal.invariant_of-self
invariant_of-self g c =
    let o = opening_with c.self.inside.me c.self.inside.boot c.self.inside.last_run in
    heard_cell g.N.Notes.note o c.self.inside.cell.power _ _ _ c.self.inside.applied c.self.invariant
    ((c.hear.ensures.leaves o c.self.invariant.kept).kept)
    (posts_grow (ServerNode c.self.inside.me) _ None c.args.hub.now.net _ _ _ c.hear.result c.hear.ensures.ends)

pub returns-clause-failures : goal.returns-clause-failures
returns-clause-failures g c =
    let o = opening_with c.self.inside.me c.self.inside.boot c.self.inside.last_run in
    subst (λ (log : ServerLog). Counts false log.failures (failures_of g.N.Notes.note c.hear.new.self.power) c.hear.result) c.self.view_is
    ((c.hear.ensures.leaves o c.self.invariant.kept).counts)

pub returns-clause-ends : goal.returns-clause-ends
returns-clause-ends g c =
    subst (λ (log : ServerLog). Commands (rules log.opening) (asks_of c.args.command) (ServerNode log.opening.me) c.args.hub.now.net c.hear.new.hub.net
    log.history (reverse c.hear.new.self.history.items) c.hear.result) c.self.view_is
    (inr (c.in-Ok.incoming.0, c.in-Ok.ensures.came, c.hear.ensures.ends))

pub returns-clause-why : goal.returns-clause-why
returns-clause-why g c =
    let o = opening_with c.self.inside.me c.self.inside.boot c.self.inside.last_run in
    subst (λ (log : ServerLog). IfErr c.hear.result (RefusedAfter (rules log.opening) log.history (asks_of c.args.command))) c.self.view_is
    (subst (λ ask. IfErr c.hear.result (RefusedAfter (rules o) (reverse c.self.inside.cell.history.items) ask)) c.in-Ok.ensures.input
    (c.hear.ensures.leaves o c.self.invariant.kept).why)

pub returns-clause-replay : goal.returns-clause-replay
returns-clause-replay g c =
    let o = opening_with c.self.inside.me c.self.inside.boot c.self.inside.last_run in
    let kept = (c.hear.ensures.leaves o c.self.invariant.kept).kept in
    (kept.past, kept.made)

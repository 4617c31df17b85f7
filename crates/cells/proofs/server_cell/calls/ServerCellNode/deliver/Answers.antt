use Rattle.std.proofs.Common.{subst, false}
use Rattle.std.specs.Prelude.{reverse, slice_get, IfErr}
use Rattle.messages.specs.declared.node.Node.TheVariants.{Server as ServerNode}
use Rattle.cells.specs.Calls.{Delivers, RefusedAt}
use Rattle.cells.specs.Failures.{Counts}
use Rattle.cells.specs.ServerCells.{ServerLog}
use Rattle.cells.specs.ServerRules.{rules}
use Rattle.cells.specs.ServerStands.{failures_of}
use Rattle.cells.proofs.ServerCellLemmas.{opening_with}
use Rattle.cells.proofs.ServerHearLemmas.{delivers_grow, heard_cell}
use Rattle.cells.proofs.server_cell.calls.ServerCellNode.deliver.Goals as goal

pub deliver-requires : goal.deliver-requires
deliver-requires g c = record { kept = (opening_with c.self.inside.me c.self.inside.boot c.self.inside.last_run, c.self.invariant.kept) }

pub invariant_of-self : goal.invariant_of-self
invariant_of-self g c =
    let o = opening_with c.self.inside.me c.self.inside.boot c.self.inside.last_run in
    heard_cell g.N.Notes.note o c.self.inside.cell.power _ _ _ c.self.inside.applied c.self.invariant
    ((c.deliver.ensures.leaves o c.self.invariant.kept).kept)
    (delivers_grow (ServerNode c.self.inside.me) c.args.position _ c.args.hub.now.net _ _ _ c.deliver.result c.deliver.ensures.ends)

pub returns-clause-failures : goal.returns-clause-failures
returns-clause-failures g c =
    let o = opening_with c.self.inside.me c.self.inside.boot c.self.inside.last_run in
    subst (λ (log : ServerLog). Counts false log.failures (failures_of g.N.Notes.note c.deliver.new.self.power) c.deliver.result) c.self.view_is
    ((c.deliver.ensures.leaves o c.self.invariant.kept).counts)

pub returns-clause-ends : goal.returns-clause-ends
returns-clause-ends g c =
    subst (λ (log : ServerLog). Delivers (ServerNode log.opening.me) c.args.position (slice_get c.args.hub.now.net.frames c.args.position)
    c.args.hub.now.net c.deliver.new.hub.net log.history (reverse c.deliver.new.self.history.items) c.deliver.result) c.self.view_is
    c.deliver.ensures.ends

pub returns-clause-why : goal.returns-clause-why
returns-clause-why g c =
    let o = opening_with c.self.inside.me c.self.inside.boot c.self.inside.last_run in
    subst (λ (log : ServerLog). IfErr c.deliver.result
    (RefusedAt (rules log.opening) log.history (slice_get c.args.hub.now.net.frames c.args.position))) c.self.view_is
    ((c.deliver.ensures.leaves o c.self.invariant.kept).why)

pub returns-clause-replay : goal.returns-clause-replay
returns-clause-replay g c =
    let o = opening_with c.self.inside.me c.self.inside.boot c.self.inside.last_run in
    let kept = (c.deliver.ensures.leaves o c.self.invariant.kept).kept in
    (kept.past, kept.made)

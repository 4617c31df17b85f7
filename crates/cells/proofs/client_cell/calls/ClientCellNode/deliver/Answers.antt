use Rattle.std.proofs.Common.{subst, false}
use Rattle.std.specs.Prelude.{reverse, slice_get, IfErr}
use Rattle.messages.specs.declared.node.Node.TheVariants.{Client as ClientNode}
use Rattle.cells.specs.Calls.{Delivers, RefusedAt}
use Rattle.cells.specs.Failures.{Counts}
use Rattle.cells.specs.ClientCells.{ClientLog, opening_of}
use Rattle.cells.specs.ClientRules.{rules}
use Rattle.cells.specs.ClientStands.{failures_of}
use Rattle.cells.proofs.client_cell.calls.ClientCellNode.deliver.Goals as goal

pub deliver-requires : goal.deliver-requires
deliver-requires g c = record { kept = (opening_of c.self.inside.servers c.self.inside.opened.value, c.self.invariant.0.kept) }

pub invariant_of-self : goal.invariant_of-self
invariant_of-self g c =
    let o = opening_of c.self.inside.servers c.self.inside.opened.value in
    (record { kept = (c.deliver.ensures.leaves o c.self.invariant.0.kept).kept; some = c.self.invariant.0.some }, c.self.invariant.1)

pub returns-clause-failures : goal.returns-clause-failures
returns-clause-failures g c =
    let o = opening_of c.self.inside.servers c.self.inside.opened.value in
    subst (λ (log : ClientLog). Counts false log.failures (failures_of g.N.Notes.note c.deliver.new.self.power) c.deliver.result) c.self.view_is
    ((c.deliver.ensures.leaves o c.self.invariant.0.kept).counts)

pub returns-clause-ends : goal.returns-clause-ends
returns-clause-ends g c =
    subst (λ (log : ClientLog). Delivers ClientNode c.args.position (slice_get c.args.hub.now.net.frames c.args.position)
    c.args.hub.now.net c.deliver.new.hub.net log.history (reverse c.deliver.new.self.history.items) c.deliver.result) c.self.view_is
    c.deliver.ensures.ends

pub returns-clause-why : goal.returns-clause-why
returns-clause-why g c =
    let o = opening_of c.self.inside.servers c.self.inside.opened.value in
    subst (λ (log : ClientLog). IfErr c.deliver.result
    (RefusedAt (rules log.opening) log.history (slice_get c.args.hub.now.net.frames c.args.position))) c.self.view_is
    ((c.deliver.ensures.leaves o c.self.invariant.0.kept).why)

pub returns-clause-replay : goal.returns-clause-replay
returns-clause-replay g c =
    let o = opening_of c.self.inside.servers c.self.inside.opened.value in
    let kept = (c.deliver.ensures.leaves o c.self.invariant.0.kept).kept in
    (kept.past, kept.made)

use Rattle.std.proofs.Common.{refl, subst, inr, false}
use Rattle.std.specs.Prelude.{reverse, IfErr}
use Rattle.messages.specs.declared.node.Node.TheVariants.{Client as ClientNode}
use Rattle.cells.specs.Calls.{Commands, RefusedAfter}
use Rattle.cells.specs.Failures.{Counts}
use Rattle.cells.specs.ClientAsks.{asks_of}
use Rattle.cells.specs.ClientCells.{ClientLog, opening_of}
use Rattle.cells.specs.ClientRules.{rules}
use Rattle.cells.specs.ClientStands.{failures_of}
use Rattle.cells.proofs.client_cell.calls.ClientCellNode.post.Goals as goal

-- ---- a request

pub hear-requires-clause-asks : goal.hear-requires-clause-asks
hear-requires-clause-asks g c o = refl

pub hear-requires-clause-kept : goal.hear-requires-clause-kept
hear-requires-clause-kept g c = (opening_of c.self.inside.servers c.self.inside.opened.value, c.self.invariant.0.kept)

pub invariant_of-self : goal.invariant_of-self
invariant_of-self g c =
    let o = opening_of c.self.inside.servers c.self.inside.opened.value in
    (record { kept = (c.hear.ensures.leaves o c.self.invariant.0.kept).kept; some = c.self.invariant.0.some }, c.self.invariant.1)

pub returns-in-Request-clause-failures : goal.returns-in-Request-clause-failures
returns-in-Request-clause-failures g c =
    let o = opening_of c.self.inside.servers c.self.inside.opened.value in
    subst (λ (log : ClientLog). Counts false log.failures (failures_of g.N.Notes.note c.hear.new.self.power) c.hear.result) c.self.view_is
    ((c.hear.ensures.leaves o c.self.invariant.0.kept).counts)

pub returns-in-Request-clause-ends : goal.returns-in-Request-clause-ends
returns-in-Request-clause-ends g c =
    subst (λ (log : ClientLog). Commands (rules log.opening) (asks_of c.args.command) ClientNode c.args.hub.now.net c.hear.new.hub.net
    log.history (reverse c.hear.new.self.history.items) c.hear.result) c.self.view_is
    (rw c.in-Request.is (inr (_, refl, c.hear.ensures.ends)))

pub returns-in-Request-clause-why : goal.returns-in-Request-clause-why
returns-in-Request-clause-why g c =
    let o = opening_of c.self.inside.servers c.self.inside.opened.value in
    subst (λ (log : ClientLog). IfErr c.hear.result (RefusedAfter (rules log.opening) log.history (asks_of c.args.command))) c.self.view_is
    (rw c.in-Request.is ((c.hear.ensures.leaves o c.self.invariant.0.kept).why))

pub returns-in-Request-clause-replay : goal.returns-in-Request-clause-replay
returns-in-Request-clause-replay g c =
    let o = opening_of c.self.inside.servers c.self.inside.opened.value in
    let kept = (c.hear.ensures.leaves o c.self.invariant.0.kept).kept in
    (kept.past, kept.made)

-- ---- a tick

pub tick-requires : goal.tick-requires
tick-requires g c = record { kept = (opening_of c.self.inside.servers c.self.inside.opened.value, c.self.invariant.0.kept) }

pub invariant_of-self-in-Tick : goal.invariant_of-self-in-Tick
invariant_of-self-in-Tick g c =
    let o = opening_of c.self.inside.servers c.self.inside.opened.value in
    (record { kept = (c.tick.ensures.leaves o c.self.invariant.0.kept).kept; some = c.self.invariant.0.some }, c.self.invariant.1)

pub returns-in-Tick-clause-failures : goal.returns-in-Tick-clause-failures
returns-in-Tick-clause-failures g c =
    let o = opening_of c.self.inside.servers c.self.inside.opened.value in
    subst (λ (log : ClientLog). Counts false log.failures (failures_of g.N.Notes.note c.tick.new.cell.power) c.tick.result) c.self.view_is
    (c.tick.ensures.leaves o c.self.invariant.0.kept).counts

pub returns-in-Tick-clause-ends : goal.returns-in-Tick-clause-ends
returns-in-Tick-clause-ends g c =
    subst (λ (log : ClientLog). Commands (rules log.opening) (asks_of c.args.command) ClientNode c.args.hub.now.net c.tick.new.hub.net
    log.history (reverse c.tick.new.cell.history.items) c.tick.result) c.self.view_is
    (rw c.in-Tick.is (inr (_, refl, c.tick.ensures.ends)))

pub returns-in-Tick-clause-why : goal.returns-in-Tick-clause-why
returns-in-Tick-clause-why g c =
    let o = opening_of c.self.inside.servers c.self.inside.opened.value in
    subst (λ (log : ClientLog). IfErr c.tick.result (RefusedAfter (rules log.opening) log.history (asks_of c.args.command))) c.self.view_is
    (rw c.in-Tick.is ((c.tick.ensures.leaves o c.self.invariant.0.kept).why))

pub returns-in-Tick-clause-replay : goal.returns-in-Tick-clause-replay
returns-in-Tick-clause-replay g c =
    let o = opening_of c.self.inside.servers c.self.inside.opened.value in
    let kept = (c.tick.ensures.leaves o c.self.invariant.0.kept).kept in
    (kept.past, kept.made)

use Rattle.std.proofs.Common.{refl, sym, ◌∙◌, ap, subst, ◌∷◌}
use Rattle.client_core.specs.NodeKind.{client_kind}
use Rattle.cells.specs.ClientTasks.{came_by, loads_note}
use Rattle.cells.specs.ClientRules.{ask_of, core}
use Rattle.cells.proofs.HubLemmas.{pushed}
use Rattle.cells.proofs.MoveLemmas.{is_lack, lack_counts, stays, done}
use Rattle.cells.specs.ClientStands.{failures_of}
use Rattle.cells.specs.ClientCells.{ClientLog, opening_of}
use Rattle.cells.specs.ClientCalls.{logged_by}
use Rattle.cells.specs.Failures.{Counts}
use Rattle.cells.proofs.ClientCellLemmas.{lacks, applied, same_cell, entered, replayed}
use Rattle.cells.proofs.client_cell.ClientCell.apply.Goals as goal

pub returns-then-is_err-clause-ends : goal.returns-then-is_err-clause-ends
returns-then-is_err-clause-ends g c = lacks c.args.self.now _ c.args.task (rw c.reserve.ensures.same c.self.view_is)

pub perform-answer-requires-clause-few : goal.perform-answer-requires-clause-few
perform-answer-requires-clause-few g c = c.self.invariant.0.kept.ranges.0.servers

pub invariant_of-self-then-lacks_memory : goal.invariant_of-self-then-lacks_memory
invariant_of-self-then-lacks_memory g c =
    let note = g.N.Notes.note in
    let cell = c.self.invariant.0 in
    let o = opening_of c.self.inside.servers c.self.inside.opened.value in (
      rw c.reserve.ensures.same
          (same_cell note _ c.self.inside.cell.power c.perform-answer.new.power (failures_of note c.perform-answer.new.power) cell
          (stays (client_kind note o) (core o) cell.kept.past (ask_of (came_by c.args.task)) c.perform-answer.new.power c.perform-answer.result
          (sym c.lacks_memory.ensures ∙ c.if-lacks_memory.true) (c.perform-answer.ensures.ends o cell.kept.past refl cell.kept.stands))),
      c.self.invariant.1,
    )

pub returns-then-lacks_memory-clause-ends : goal.returns-then-lacks_memory-clause-ends
returns-then-lacks_memory-clause-ends g c =
    let note = g.N.Notes.note in
    let cell = c.self.invariant.0 in
    let o = opening_of c.self.inside.servers c.self.inside.opened.value in
    let ends = c.perform-answer.ensures.ends o cell.kept.past refl cell.kept.stands in
    let lack = is_lack (client_kind note o) (core o) cell.kept.past (ask_of (came_by c.args.task)) c.perform-answer.new.power c.perform-answer.result
    (sym c.lacks_memory.ensures ∙ c.if-lacks_memory.true) ends in
    let same = lack_counts (loads_note c.args.task) (failures_of note c.self.inside.cell.power)
    (failures_of note c.perform-answer.new.power) c.perform-answer.result lack (c.perform-answer.ensures.count o cell.kept.past refl cell.kept.stands) in
    lacks c.args.self.now _ c.args.task (rw (c.reserve.ensures.same, same) c.self.view_is)

pub invariant_of-self-2 : goal.invariant_of-self-2
invariant_of-self-2 g c =
    let note = g.N.Notes.note in
    let cell = c.self.invariant.0 in
    let o = opening_of c.self.inside.servers c.self.inside.opened.value in
    let m = done (client_kind note o) (core o) cell.kept.past (ask_of (came_by c.args.task)) c.perform-answer.new.power c.perform-answer.result
    (sym c.lacks_memory.ensures ∙ c.if-lacks_memory.false) (c.perform-answer.ensures.ends o cell.kept.past refl cell.kept.stands) in (
      rw (c.push.ensures.items, c.reserve.ensures.same, pushed c.self.inside.cell.history.items c.entry.result, c.entry.ensures, c.came-came.ensures)
          (entered note _ c.self.inside.cell.power c.perform-answer.new.power (failures_of note c.perform-answer.new.power)
          (came_by c.args.task) c.perform-answer.result cell m),
      c.self.invariant.1,
    )

pub returns-clause-replay : goal.returns-clause-replay
returns-clause-replay g c =
    let note = g.N.Notes.note in
    let cell = c.self.invariant.0 in
    let o = opening_of c.self.inside.servers c.self.inside.opened.value in
    let m = done (client_kind note o) (core o) cell.kept.past (ask_of (came_by c.args.task)) c.perform-answer.new.power c.perform-answer.result
    (sym c.lacks_memory.ensures ∙ c.if-lacks_memory.false) (c.perform-answer.ensures.ends o cell.kept.past refl cell.kept.stands) in
    rw (c.push.ensures.items, c.reserve.ensures.same, pushed c.self.inside.cell.history.items c.entry.result, c.entry.ensures, c.came-came.ensures)
    (replayed note _ c.self.inside.cell.power c.perform-answer.new.power (failures_of note c.perform-answer.new.power)
    (came_by c.args.task) c.perform-answer.result cell m)

pub returns-clause-ends : goal.returns-clause-ends
returns-clause-ends g c =
    let note = g.N.Notes.note in
    let cell = c.self.invariant.0 in
    let o = opening_of c.self.inside.servers c.self.inside.opened.value in
    let new = c.perform-answer.new.power in
    let answer = c.perform-answer.result in
    applied c.args.self.now c.args.task answer _ c.told_at.result (sym c.lacks_memory.ensures ∙ c.if-lacks_memory.false)
    (ap (λ (log : ClientLog). log.opening) c.self.view_is)
    (rw (c.push.ensures.items, c.reserve.ensures.same, pushed c.self.inside.cell.history.items c.entry.result, c.entry.ensures, c.came-came.ensures)
    (ap (λ (log : ClientLog). logged_by (came_by c.args.task) answer ∷ log.history) c.self.view_is))
    (subst (λ n. Counts (loads_note c.args.task) n (failures_of note new) answer) (ap (λ (log : ClientLog). log.failures) c.self.view_is)
    (c.perform-answer.ensures.count o cell.kept.past refl cell.kept.stands))
    c.told_at.ensures

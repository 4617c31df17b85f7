use Rattle.std.proofs.Common.{refl, sym, ◌∙◌, ap, subst, arith, ◌<◌, [], ◌∷◌, ◌++◌}
use Rattle.std.specs.Prelude.{reverse}
use Rattle.server_core.specs.NodeKind.{server_kind}
use Rattle.cells.specs.ServerCells.{ServerLog}
use Rattle.cells.specs.Failures.{Counts}
use Rattle.cells.specs.ServerCalls.{is_right, entry_of}
use Rattle.cells.specs.ServerRules.{ask_of, core}
use Rattle.cells.proofs.HubLemmas.{pushed}
use Rattle.cells.proofs.MoveLemmas.{is_lack, lack_counts, stays, done}
use Rattle.cells.specs.ServerTasks.{came_by, loads_note}
use Rattle.cells.specs.ServerStands.{failures_of}
use Rattle.cells.proofs.ServerCellLemmas.{opening_with, count_fits, few_before, seat_fits, lacks, applied, same_cell, entered, replayed}
use Rattle.cells.proofs.ServerHearLemmas.{shown_replay}
use Rattle.cells.proofs.server_cell.ServerCell.apply.Goals as goal

pub returns-then-not-is_right-clause-replay : goal.returns-then-not-is_right-clause-replay
returns-then-not-is_right-clause-replay g c =
    shown_replay g.N.Notes.note _ c.self.inside.cell.power c.self.inside.applied c.args.self.now c.self.invariant c.self.view_is

pub returns-then-is_err-clause-ends : goal.returns-then-is_err-clause-ends
returns-then-is_err-clause-ends g c =
    lacks c.args.self.now _ c.args.seat.now c.args.task (sym c.is_right.ensures ∙ c.if-not-is_right.false) (rw c.reserve.ensures.same c.self.view_is)

pub invariant_of-self-then-lacks_memory : goal.invariant_of-self-then-lacks_memory
invariant_of-self-then-lacks_memory g c =
    let note = g.N.Notes.note in
    let cell = c.self.invariant in
    let o = opening_with c.self.inside.me c.self.inside.boot c.self.inside.last_run in
    rw c.reserve.ensures.same
    (same_cell note o c.self.inside.cell.power c.perform-answer.new.power (reverse c.self.inside.cell.history.items) c.self.inside.applied cell
    (stays (server_kind note o) (core o) cell.kept.past (ask_of (came_by c.args.task)) c.perform-answer.new.power c.perform-answer.result
    (sym c.lacks_memory.ensures ∙ c.if-lacks_memory.true) (c.perform-answer.ensures.ends o cell.kept.past refl cell.kept.stands)))

pub returns-then-lacks_memory-clause-ends : goal.returns-then-lacks_memory-clause-ends
returns-then-lacks_memory-clause-ends g c =
    let note = g.N.Notes.note in
    let cell = c.self.invariant in
    let o = opening_with c.self.inside.me c.self.inside.boot c.self.inside.last_run in
    let ends = c.perform-answer.ensures.ends o cell.kept.past refl cell.kept.stands in
    let lack = is_lack (server_kind note o) (core o) cell.kept.past (ask_of (came_by c.args.task)) c.perform-answer.new.power c.perform-answer.result
    (sym c.lacks_memory.ensures ∙ c.if-lacks_memory.true) ends in
    let same = lack_counts (loads_note c.args.task) (failures_of note c.self.inside.cell.power)
    (failures_of note c.perform-answer.new.power) c.perform-answer.result lack (c.perform-answer.ensures.count o cell.kept.past refl cell.kept.stands) in
    lacks c.args.self.now _ c.args.seat.now c.args.task (sym c.is_right.ensures ∙ c.if-not-is_right.false) (rw (c.reserve.ensures.same, same) c.self.view_is)

pub perform-answer-requires : goal.perform-answer-requires
perform-answer-requires g c = c.self.invariant.kept.ranges.0.me

pub overflow_add-self : goal.overflow_add-self
overflow_add-self g c =
    omega (
      arith,
      count_fits c.self.inside.applied c.self.inside.cell.history.items c.number.result c.self.invariant.counted c.number.ensures.few (few_before
          c.self.inside.cell.history.items c.enter.new.history.items (entry_of c.args.seat.now c.args.task c.perform-answer.result)
          (c.enter.ensures.items ∙ ap (λ xs. xs ++ entry_of c.args.seat.now c.args.task c.perform-answer.result ∷ []) c.reserve.ensures.same)
          c.enter.ensures.few),
    )

pub advance-requires : goal.advance-requires
advance-requires g c =
    seat_fits c.self.inside.cell.history.items c.args.self.now c.args.seat.now (sym c.is_right.ensures ∙ c.if-not-is_right.false)
    (ap (λ (log : ServerLog). log.history) (sym c.self.view_is))
    (few_before c.self.inside.cell.history.items c.enter.new.history.items (entry_of c.args.seat.now c.args.task c.perform-answer.result)
    (c.enter.ensures.items ∙ ap (λ xs. xs ++ entry_of c.args.seat.now c.args.task c.perform-answer.result ∷ []) c.reserve.ensures.same)
    c.enter.ensures.few)

pub invariant_of-self-2 : goal.invariant_of-self-2
invariant_of-self-2 g c =
    let note = g.N.Notes.note in
    let cell = c.self.invariant in
    let o = opening_with c.self.inside.me c.self.inside.boot c.self.inside.last_run in
    let m = done (server_kind note o) (core o) cell.kept.past (ask_of (came_by c.args.task)) c.perform-answer.new.power c.perform-answer.result
    (sym c.lacks_memory.ensures ∙ c.if-lacks_memory.false) (c.perform-answer.ensures.ends o cell.kept.past refl cell.kept.stands) in
    let right = ap (λ (log : ServerLog). is_right log c.args.seat.now) c.self.view_is ∙ sym c.is_right.ensures ∙ c.if-not-is_right.false in
    rw (
      c.enter.ensures.items,
      c.reserve.ensures.same,
      pushed c.self.inside.cell.history.items (entry_of c.args.seat.now c.args.task c.perform-answer.result),
      c.number.ensures.value,
    )
    (entered note o c.self.inside.cell.power c.perform-answer.new.power (reverse c.self.inside.cell.history.items) c.self.inside.applied
    (failures_of note c.self.inside.cell.power) c.args.seat.now c.args.task c.perform-answer.result cell right
    (subst (λ n. n < 17) c.number.ensures.value c.number.ensures.few) m)

pub returns-clause-replay : goal.returns-clause-replay
returns-clause-replay g c =
    let note = g.N.Notes.note in
    let cell = c.self.invariant in
    let o = opening_with c.self.inside.me c.self.inside.boot c.self.inside.last_run in
    let m = done (server_kind note o) (core o) cell.kept.past (ask_of (came_by c.args.task)) c.perform-answer.new.power c.perform-answer.result
    (sym c.lacks_memory.ensures ∙ c.if-lacks_memory.false) (c.perform-answer.ensures.ends o cell.kept.past refl cell.kept.stands) in
    let right = ap (λ (log : ServerLog). is_right log c.args.seat.now) c.self.view_is ∙ sym c.is_right.ensures ∙ c.if-not-is_right.false in
    rw (c.enter.ensures.items, c.reserve.ensures.same, pushed c.self.inside.cell.history.items (entry_of c.args.seat.now c.args.task c.perform-answer.result))
    (replayed note o cell (failures_of note c.self.inside.cell.power) c.args.seat.now c.args.task c.perform-answer.result right m)

pub returns-clause-ends : goal.returns-clause-ends
returns-clause-ends g c =
    let note = g.N.Notes.note in
    let cell = c.self.invariant in
    let o = opening_with c.self.inside.me c.self.inside.boot c.self.inside.last_run in
    let new = c.perform-answer.new.power in
    let answer = c.perform-answer.result in
    applied c.args.self.now c.args.seat.now c.args.task answer _ c.advance.new.self c.told_at.result (sym c.is_right.ensures ∙ c.if-not-is_right.false)
    (sym c.lacks_memory.ensures ∙ c.if-lacks_memory.false)
    (ap (λ (log : ServerLog). log.opening) c.self.view_is)
    (rw (c.enter.ensures.items, c.reserve.ensures.same, pushed c.self.inside.cell.history.items (entry_of c.args.seat.now c.args.task c.perform-answer.result))
    (ap (λ (log : ServerLog). entry_of c.args.seat.now c.args.task answer ∷ log.history) c.self.view_is))
    (subst (λ n. Counts (loads_note c.args.task) n (failures_of note new) answer) (ap (λ (log : ServerLog). log.failures) c.self.view_is)
    (c.perform-answer.ensures.count o cell.kept.past refl cell.kept.stands))
    c.advance.ensures c.told_at.ensures

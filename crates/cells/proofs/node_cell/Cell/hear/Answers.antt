use Rattle.std.proofs.Common.{refl, sym, ap, subst, ℕ, List}
use Rattle.std.proofs.lemmas.Result.{err_from_is_err_and}
use Rattle.std.specs.Prelude.{All, IfOk, Result, reverse}
use Rattle.fc_base.specs.declared.fault.Fault.{Fault}
use Rattle.messages.specs.Network.{IsSpelled}
use Rattle.node.specs.Kinds.{note_of}
use Rattle.cells.specs.declared.answer.Reply.{Reply}
use Rattle.cells.specs.CoreLaws.{IsWithin}
use Rattle.cells.proofs.HubLemmas.{heard, has_room, hear_counts, sent_spelled, step_why, unready, unready_counts, unready_why}
use Rattle.cells.proofs.node_cell.Cell.hear.Goals as goal

pub returns-in_err-make_room-clause-leaves : goal.returns-in_err-make_room-clause-leaves
returns-in_err-make_room-clause-leaves g c o kept =
    let p = err_from_is_err_and c.from_residual.result c.from_residual.ensures.1 in
    let count = (note_of (g.C.CellCore.kind o) c.args.self.now.power).failures in
    let ready = c.in_err-make_room.ensures.ready o kept.past kept.stands in
    rw (p.1, p.2) (record {
      kept = rw c.make_room.ensures.items kept;
      counts = unready_counts _ count count c.in_err-make_room.field-0.0 ready refl;
      why = unready_why (g.C.CellCore.kind o) (g.C.CellCore.core_rules o) (reverse c.args.self.now.history.items) c.args.self.now.power kept _
          c.in_err-make_room.field-0.0 ready;
    })

pub returns-in_err-make_room-clause-ends : goal.returns-in_err-make_room-clause-ends
returns-in_err-make_room-clause-ends g c =
    let o = c.requires.kept.0 in
    let kept = c.requires.kept.1 in
    let p = err_from_is_err_and c.from_residual.result c.from_residual.ensures.1 in
    rw (p.1, p.2)
    (unready _ c.args.me (g.C.CellCore.came_in c.args.incoming) c.args.taken c.args.hub.now.net c.make_room.new.hub.net
    (reverse c.args.self.now.history.items) _ c.in_err-make_room.field-0.0 (c.in_err-make_room.ensures.ready o kept.past kept.stands)
    c.make_room.ensures.net (ap reverse c.make_room.ensures.items))

pub enter-requires-clause-room : goal.enter-requires-clause-room
enter-requires-clause-room g c =
    let o = c.requires.kept.0 in
    let kept = c.requires.kept.1 in
    let step = c.take-step.result.0 in
    rw c.outcome-done.ensures
    (has_room c.make_room.new.hub.room c.FRAMES.result c.BYTES.result step c.in_ok-make_room.ensures.room
    (subst (λ frames. IfOk step (λ outs. IsWithin frames c.BYTES.result outs.1)) (sym c.FRAMES.ensures)
    (subst (λ bytes. IfOk step (λ outs. IsWithin g.C.CellCore.FRAMES bytes outs.1)) (sym c.BYTES.ensures)
    (c.take-step.ensures.few o kept.past kept.stands kept.ranges))))

pub enter-requires-clause-spelled : goal.enter-requires-clause-spelled
enter-requires-clause-spelled g c =
    let o = c.requires.kept.0 in
    let kept = c.requires.kept.1 in
    subst (λ (r : Result Reply Fault × List (List ℕ)). All IsSpelled r.1) (sym c.outcome-done.ensures)
    (sent_spelled (g.C.CellCore.kind o) (g.C.CellCore.core_rules o) kept.past (g.C.CellCore.input_in c.args.incoming) c.take-step.new.power
    c.take-step.result.0 ((c.keeps_rules.ensures o).spelled kept.past) kept.ranges (c.take-step.ensures.ends o kept.past kept.stands))

pub returns-clause-leaves : goal.returns-clause-leaves
returns-clause-leaves g c o kept =
    let n = g.C.CellCore.kind o in
    let k = g.C.CellCore.core_rules o in
    let before = reverse c.args.self.now.history.items in
    let old = c.args.self.now.power in
    let new = c.take-step.new.power in
    let e = g.C.CellCore.input_in c.args.incoming in
    let step = c.take-step.result.0 in
    let ends = c.take-step.ensures.ends o kept.past kept.stands in
    let told = rw c.outcome-done.ensures at c.enter.ensures.told in
    record {
      kept = heard n k before _ old new kept e step c.args.me (g.C.CellCore.came_in c.args.incoming) c.args.taken c.make_room.new.hub.net
          c.enter.new.hub.net (c.requires.asks o) ends
          (rw (c.take-step.ensures.came, c.outcome-done.ensures, c.make_room.ensures.items) at c.enter.ensures.heard);
      counts = hear_counts (note_of n old).failures (note_of n old).failures (note_of n new).failures _ _ step c.enter.result refl told
          (c.take-step.ensures.count o kept.past kept.stands);
      why = step_why n k before old new kept e step _ _ c.enter.result (c.in_ok-make_room.ensures.ready o kept.past kept.stands) ends told;
    }

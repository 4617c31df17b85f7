use Rattle.std.proofs.Common.{refl, sym, ap, subst, ℕ, List, None}
use Rattle.std.proofs.lemmas.Result.{err_from_is_err_and}
use Rattle.std.specs.Prelude.{All, Result, reverse}
use Rattle.fc_base.specs.declared.fault.Fault.{Fault}
use Rattle.fc_base.specs.declared.fault.Fault.TheVariants.{NoMemory, NodeOff}
use Rattle.messages.specs.Network.{IsSpelled}
use Rattle.messages.specs.declared.node.Node.TheVariants.{Client as ClientNode}
use Rattle.client_core.specs.Inputs as inputs
use Rattle.client_core.specs.NodeKind.{client_kind}
use Rattle.node.proofs.PowerLemmas.{hidden, there}
use Rattle.cells.specs.declared.answer.Reply.{Reply}
use Rattle.cells.specs.declared.input.NodeInput.TheVariants as came
use Rattle.cells.specs.ClientRules.{core}
use Rattle.cells.specs.ClientStands.{failures_of, reply_and_frames}
use Rattle.cells.specs.Rules.{Meets}
use Rattle.cells.proofs.CallLemmas.{left_out_posts}
use Rattle.cells.proofs.ClientHearLemmas.{spelled}
use Rattle.cells.proofs.HubLemmas.{heard, hear_counts, sent_spelled, step_why, unready, unready_counts, unready_why}
use Rattle.cells.proofs.client_cell.tick.tick.Goals as goal

-- ---- it isn't on, or can't count its bytes

pub returns-then-is_none-clause-ends : goal.returns-then-is_none-clause-ends
returns-then-is_none-clause-ends g c =
    let before = reverse c.args.cell.now.history.items in
    left_out_posts ClientNode came.Tick None c.args.hub.now.net c.args.hub.now.net before before NodeOff refl refl refl

pub returns-then-is_none-clause-leaves : goal.returns-then-is_none-clause-leaves
returns-then-is_none-clause-leaves g c o kept =
    let n = client_kind g.N.Notes.note o in
    record {
      kept = kept;
      counts = refl;
      why = unready_why n (core o) (reverse c.args.cell.now.history.items) c.args.cell.now.power kept (Meets inputs.Tick) NodeOff
          (hidden n kept.past c.args.cell.now.power c.core.result (c.core.ensures o kept.past kept.stands) c.if-is_none.ensures);
    }

pub returns-in_default-clause-ends : goal.returns-in_default-clause-ends
returns-in_default-clause-ends g c =
    let before = reverse c.args.cell.now.history.items in
    left_out_posts ClientNode came.Tick None c.args.hub.now.net c.args.hub.now.net before before NoMemory refl refl refl

pub returns-in_default-clause-leaves : goal.returns-in_default-clause-leaves
returns-in_default-clause-leaves g c o kept =
    let n = client_kind g.N.Notes.note o in
    record {
      kept = kept;
      counts = refl;
      why = unready_why n (core o) (reverse c.args.cell.now.history.items) c.args.cell.now.power kept (Meets inputs.Tick) NoMemory
          (there n kept.past c.args.cell.now.power c.core.result (c.core.ensures o kept.past kept.stands) c.if-is_none.ensures);
    }

-- ---- there is no room

pub returns-in_err-make_room-clause-leaves : goal.returns-in_err-make_room-clause-leaves
returns-in_err-make_room-clause-leaves g c o kept =
    let p = err_from_is_err_and c.from_residual.result c.from_residual.ensures.1 in
    let count = failures_of g.N.Notes.note c.args.cell.now.power in
    let ready = c.in_err-make_room.ensures.ready o kept.past kept.stands in
    rw (p.1, p.2) (record {
      kept = rw c.make_room.ensures.items kept;
      counts = unready_counts _ count count c.in_err-make_room.field-0.0 ready refl;
      why = unready_why (client_kind g.N.Notes.note o) (core o) (reverse c.args.cell.now.history.items) c.args.cell.now.power kept (Meets inputs.Tick)
          c.in_err-make_room.field-0.0 ready;
    })

pub returns-in_err-make_room-clause-ends : goal.returns-in_err-make_room-clause-ends
returns-in_err-make_room-clause-ends g c =
    let o = c.requires.kept.0 in
    let kept = c.requires.kept.1 in
    let p = err_from_is_err_and c.from_residual.result c.from_residual.ensures.1 in
    rw (p.1, p.2)
    (unready _ ClientNode came.Tick None c.args.hub.now.net c.make_room.new.hub.net (reverse c.args.cell.now.history.items) _
    c.in_err-make_room.field-0.0 (c.in_err-make_room.ensures.ready o kept.past kept.stands) c.make_room.ensures.net
    (ap reverse c.make_room.ensures.items))

-- ---- what it asks again is entered

pub enter-requires-clause-spelled : goal.enter-requires-clause-spelled
enter-requires-clause-spelled g c =
    let o = c.requires.kept.0 in
    let kept = c.requires.kept.1 in
    subst (λ (r : Result Reply Fault × List (List ℕ)). All IsSpelled r.1) (sym c.outcome-done.ensures)
    (rw c.told.ensures (sent_spelled (client_kind g.N.Notes.note o) (core o) kept.past inputs.Tick c.args.cell.now.power
    (reply_and_frames c.ask_again.result) (spelled c.frames_are_spelled.ensures c.packets_are_in_range.ensures o kept.past) kept.ranges
    (c.ask_again.ensures.ends o kept.past kept.stands)))

pub returns-clause-leaves : goal.returns-clause-leaves
returns-clause-leaves g c o kept =
    let n = client_kind g.N.Notes.note o in
    let before = reverse c.args.cell.now.history.items in
    let power = c.args.cell.now.power in
    let count = failures_of g.N.Notes.note power in
    let step = reply_and_frames c.ask_again.result in
    let ends = c.ask_again.ensures.ends o kept.past kept.stands in
    let told = rw (c.outcome-done.ensures, c.told.ensures) at c.enter.ensures.told in
    record {
      kept = heard n (core o) before _ power power kept inputs.Tick step ClientNode came.Tick None c.make_room.new.hub.net c.enter.new.hub.net refl ends
          (rw (c.outcome-done.ensures, c.told.ensures, c.make_room.ensures.items) at c.enter.ensures.heard);
      counts = hear_counts count count count _ _ step c.enter.result refl told (c.ask_again.ensures.count o kept.past kept.stands);
      why = step_why n (core o) before power power kept inputs.Tick step _ _ c.enter.result (c.in_ok-make_room.ensures.ready o kept.past kept.stands)
          ends told;
    }

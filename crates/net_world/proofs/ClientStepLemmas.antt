-- What comes to the client of a world is a step of its core.
use Rattle.std.proofs.Common.{◌≡◌, refl, sym, subst, inl, inr, List, Result, Ok, Err}
use Rattle.fc_base.specs.declared.fault.Fault.{Fault}
use Rattle.fc_base.specs.declared.fault.Fault.TheVariants.{NodeOff}
use Rattle.fc_base.specs.declared.fault.FaultSort.{FaultSort}
use Rattle.fc_base.specs.declared.fault.FaultSort.TheVariants as sorts
use Rattle.fc_base.specs.Fault.{sort_of}
use Rattle.disk_model.specs.MemNotes.{Saved as Kept, note_of}
use Rattle.node.specs.Steps as steps
use Rattle.node.specs.Kinds.{Takes}
use Rattle.client_core.specs.Inputs.{FrameInput}
use Rattle.client_core.specs.declared.client.Client.{Client}
use Rattle.client_core.specs.declared.outs.Outs.{Outs}
use Rattle.client_core.specs.History.{Opening}
use Rattle.client_core.specs.Hearing.{FrameEntry}
use Rattle.client_core.specs.FrameEnds as core
use Rattle.client_core.specs.Answers.{node_steps}
use Rattle.client_core.specs.NodeKind.{client_kind}
use Rattle.net_world.specs.ClientNodes.{ClientNode, client_nodes, Stands, Asks}
use Rattle.net_world.proofs.NodeLemmas.{off_ends}
use Rattle.net_world.proofs.ClientNodeLemmas.{answers, fails}

-- It is answered.
asked : (o : Opening) (past : List FrameEntry) (e : FrameInput) (outs : Outs) (old new : ClientNode) → Stands o past old
    → Takes (client_kind note_of o) past e old new (Ok outs) → Asks o past e new (Ok outs)
asked o past e outs old new s (inl step) =
    subst (λ node. Asks o past e node (Ok outs)) (sym step.now)
    (answers o past e step.before step.after outs step.on step.ends.sends.answer_is
    (record { free = step.ends.free; sends = step.ends.sends.sends; leaves = step.ends.leaves; stands = step.ends.stands }))
asked o past e outs old new s (inr off) = let wrong = off.told in absurd cc

by_sort : (o : Opening) (past : List FrameEntry) (e : FrameInput) (sort : FaultSort) (fault : Fault) (old new : Client Kept)
    → steps.Faults (node_steps note_of o) past e sort fault old new → steps.Faults (core.steps note_of o) past e sort fault old new
by_sort o past e sorts.Memory fault old new h = record { why = h.why; same_note = h.same_note; unchanged = h.unchanged }
by_sort o past e sorts.Save fault old new h =
    record { cause = h.cause; free = h.free; addition = h.addition; makes_one = h.makes_one; left = h.left; lost = h.lost; bytes_are = h.bytes_are; stands = h.stands }
by_sort o past e sorts.Refusal fault old new h = record { why = h.why; same_note = h.same_note; unchanged = h.unchanged; stands = h.stands }

told_off : (result : Result Outs Fault) (fault : Fault) → result ≡ Err fault → result ≡ Err NodeOff → fault ≡ NodeOff
told_off result fault h k = cc

-- It isn't.
unasked : (o : Opening) (past : List FrameEntry) (e : FrameInput) (fault : Fault) (old new : ClientNode) → Stands o past old
    → Takes (client_kind note_of o) past e old new (Err fault) → Asks o past e new (Err fault)
unasked o past e fault old new s (inl step) =
    subst (λ node. Asks o past e node (Err fault)) (sym step.now)
    (fails o past e fault step.before step.after step.on (by_sort o past e (sort_of fault) fault step.before step.after step.ends))
unasked o past e fault old new s (inr off) = rw off.same (off_ends (client_nodes o) past e fault old (told_off (Err fault) fault refl off.told, off.off) s)

-- So it ends.
pub took : (o : Opening) (past : List FrameEntry) (e : FrameInput) (result : Result Outs Fault) (old new : ClientNode) → Stands o past old
    → Takes (client_kind note_of o) past e old new result → Asks o past e new result
took o past e (Ok outs) old new s t = asked o past e outs old new s t
took o past e (Err fault) old new s t = unasked o past e fault old new s t

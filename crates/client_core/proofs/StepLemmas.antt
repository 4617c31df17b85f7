-- The step of a client ends as the call does that it makes.
use Rattle.std.proofs.Common.{◌≡◌, List, Ok, Err, Result}
use Rattle.fc_base.specs.declared.fault.Fault.{Fault}
use Rattle.fc_base.specs.declared.fault.FaultSort.{FaultSort}
use Rattle.fc_base.specs.declared.fault.FaultSort.TheVariants as sorts
use Rattle.fc_base.specs.Fault.{sort_of}
use Rattle.disk_model.specs.Notes.{Note}
use Rattle.node.specs.Steps as nodes
use Rattle.client_core.specs.Inputs.{FrameInput}
use Rattle.client_core.specs.declared.client.Client.{Client}
use Rattle.client_core.specs.declared.outs.Outs.{Outs}
use Rattle.client_core.specs.History.{Opening}
use Rattle.client_core.specs.Hearing.{FrameEntry}
use Rattle.client_core.specs.FrameEnds.{steps}
use Rattle.client_core.specs.Answers.{answer_to, node_steps}

-- A call that is answered, and told so.
pub answers : {T : Type 0} (note : T → Note) (o : Opening) (past : List FrameEntry) (e : FrameInput) (old new : Client T) (outs : Outs)
    → outs.answer ≡ answer_to o past e
    → nodes.Answers (steps note o) past e old new outs.frames → nodes.Ends (node_steps note o) past e old new (Ok outs)
answers note o past e old new outs is h =
    record { free = h.free; sends = record { answer_is = is; sends = h.sends }; leaves = h.leaves; stands = h.stands }

by_sort : {T : Type 0} (note : T → Note) (o : Opening) (past : List FrameEntry) (e : FrameInput) (sort : FaultSort) (fault : Fault) (old new : Client T)
    → nodes.Faults (steps note o) past e sort fault old new → nodes.Faults (node_steps note o) past e sort fault old new
by_sort note o past e sorts.Memory fault old new h = record { why = h.why; same_note = h.same_note; unchanged = h.unchanged }
by_sort note o past e sorts.Save fault old new h =
    record { cause = h.cause; free = h.free; addition = h.addition; makes_one = h.makes_one; left = h.left; lost = h.lost; bytes_are = h.bytes_are; stands = h.stands }
by_sort note o past e sorts.Refusal fault old new h = record { why = h.why; same_note = h.same_note; unchanged = h.unchanged; stands = h.stands }

-- A call that isn't answered.
pub fails : {T : Type 0} (note : T → Note) (o : Opening) (past : List FrameEntry) (e : FrameInput) (fault : Fault) (old new : Client T)
    → nodes.Faults (steps note o) past e (sort_of fault) fault old new → nodes.Ends (node_steps note o) past e old new (Err fault)
fails note o past e fault old new h = by_sort note o past e (sort_of fault) fault old new h

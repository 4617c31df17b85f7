-- A client that may have no power takes what comes as the rules have it.
use Rattle.std.proofs.Common.{◌≡◌, refl, ℕ, true, false, List, ◌∷◌, Some, Result, Ok, Err}
use Rattle.std.specs.Prelude.{IfOk}
use Rattle.fc_base.specs.declared.fault.Fault.{Fault}
use Rattle.fc_base.specs.declared.fault.Fault.TheVariants.{FrameBadField}
use Rattle.fc_base.specs.declared.fault.FaultSort.{FaultSort}
use Rattle.fc_base.specs.declared.fault.FaultSort.TheVariants as sorts
use Rattle.fc_base.specs.Fault.{sort_of}
use Rattle.disk_model.specs.declared.save_outcome.SaveOutcome.{SaveOutcome}
use Rattle.disk_model.specs.Notes.{Note}
use Rattle.node.specs.Steps as steps
use Rattle.messages.specs.Hearing.{Meaning, Says as Speaks, Waits, Spoils, Strays, meaning, heard_by, with_entry}
use Rattle.messages.specs.Senses.{Sense, Hears, Keeps, Drops, Misses, sense_of, is_drop, refusal_of_sense, SenseInRange, UnlessMemory, HearsInRange}
use Rattle.client_core.specs.declared.client.Client.{Client}
use Rattle.client_core.specs.Inputs.{PacketInput, FrameInput}
use Rattle.client_core.specs.Inputs as inputs
use Rattle.client_core.specs.History as packets
use Rattle.client_core.specs.History.{Opening}
use Rattle.client_core.specs.Ranges.{IsInRange, CameInRange}
use Rattle.client_core.specs.Hearing.{FrameEntry, Met, packets_heard, heard_at, rules as hearing, is_up}
use Rattle.client_core.specs.FrameAnswers.{sense}
use Rattle.client_core.specs.FrameEnds as ends
use Rattle.client_core.specs.FrameEnds.{note_in, most_packets}
use Rattle.node.specs.declared.power.Power.TheVariants.{On}
use Rattle.client_core.specs.NodeKind.{client_kind}
use Rattle.client_core.specs.Bounds.{AreShort}
use Rattle.cells.specs.ClientRules.{core}
use Rattle.cells.specs.Failures.{Counts}
use Rattle.cells.specs.Moves.{StepEnds}
use Rattle.cells.proofs.StepLemmas.{Fits, answered_ends, unanswered_ends, faults_count}
use Rattle.client_core.specs.declared.outs.Outs.{Outs}
use Rattle.client_core.specs.Answers.{node_steps, sent_alone}
use Rattle.cells.specs.ClientStands.{reply_and_frames}

-- ---- what came stays within its ranges

by_meaning : (o : Opening) (past : List packets.Entry) (left : SaveOutcome) (m : Meaning) → SenseInRange IsInRange (sense_of inputs.Deliver m) → CameInRange past
    → CameInRange (with_entry (heard_by (hearing o) left m) past)
by_meaning o past left (Speaks p) h came = (h, came)
by_meaning o past left Waits h came = came
by_meaning o past left Spoils h came = came
by_meaning o past left Strays h came = came

came_after : (o : Opening) (past : List FrameEntry) (e : FrameInput) (left : SaveOutcome) → SenseInRange IsInRange (sense o past e) → CameInRange (packets_heard o past)
    → CameInRange (packets_heard o (Met e left ∷ past))
came_after o past (inputs.Deliver f) left h came = by_meaning o (packets_heard o past) left (meaning (hearing o) (heard_at o past) f) h came
came_after o past (inputs.Begin text) left h came = came
came_after o past (inputs.Trigger run act) left h came = came
came_after o past (inputs.Stop run) left h came = came
came_after o past (inputs.Verify run text) left h came = came
came_after o past inputs.Tick left h came = came

-- ---- a step

no_drop : (o : Opening) (past : List FrameEntry) (s : Sense PacketInput) (fault : Fault) → refusal_of_sense (hearing o) (packets_heard o past) s ≡ Some fault
    → (fault ≡ FrameBadField → ⊥) → is_drop s ≡ false
no_drop o past (Hears c) fault h k = refl
no_drop o past Keeps fault h k = refl
no_drop o past Drops fault h k = absurd (k (same FrameBadField fault h))
  where
    same : (x y : Fault) → Some x ≡ Some y → y ≡ x
    same x y h = cc
no_drop o past Misses fault h k = refl

fits : {T : Type 0} (note : T → Note) (o : Opening) (past : List FrameEntry) (e : FrameInput)
    → Fits (client_kind note o) (core o) past e (λ sort. UnlessMemory IsInRange sort (sense o past e))
fits note o past e = record {
  stays = λ fault client why other h. h (no_drop o past (sense o past e) fault why other);
  alike = λ h. h;
  ranges = λ h left r. (r.0, came_after o past e left h r.1);
}

-- A client that is on ends a step as its list says.
pub stepped : {T : Type 0} (note : T → Note) (o : Opening) (past : List FrameEntry) (e : FrameInput) (old client : Client T) (result : Result Outs Fault)
    → is_up o past ≡ true → HearsInRange IsInRange (sense o past e) result → steps.Ends (node_steps note o) past e old client result
    → StepEnds (client_kind note o) (core o) past e (On client) (reply_and_frames result)
stepped note o past e old client (Ok outs) on h a =
    answered_ends (client_kind note o) (core o) past e (fits note o past e) on old client outs _ outs.frames a h
    (rw a.sends.answer_is refl) a.sends.sends.frames_are
stepped note o past e old client (Err fault) on h f =
    unanswered_ends (client_kind note o) (core o) past e (fits note o past e) on old client fault (sort_of fault) f h refl

-- Its frames are few and short.
pub step_short : {T : Type 0} (note : T → Note) (o : Opening) (past : List FrameEntry) (e : FrameInput) (old client : Client T) (result : Result Outs Fault)
    → steps.Ends (node_steps note o) past e old client result → (core o).InRange past → IfOk result (λ outs. AreShort (most_packets o past e) outs.frames)
step_short note o past e old client (Ok outs) a r = a.sends.sends.short r.0 r.1
step_short note o past e old client (Err fault) f r = tt

-- It counts a failed save.
pub step_counts : {T : Type 0} (note : T → Note) (o : Opening) (past : List FrameEntry) (e : FrameInput) (old client : Client T) (result : Result Outs Fault)
    → steps.Ends (node_steps note o) past e old client result
    → Counts false (note_in note old).failures (note_in note client).failures (reply_and_frames result)
step_counts note o past e old client (Ok outs) a = tt
step_counts note o past e old client (Err fault) f = faults_count (node_steps note o) past e old client fault (sort_of fault) f

-- ---- a tick

-- A tick is answered by what it sends alone.
pub ticked : {T : Type 0} (note : T → Note) (o : Opening) (past : List FrameEntry) (client : Client T) (frames : List (List ℕ))
    → steps.Answers (ends.steps note o) past inputs.Tick client client frames
    → steps.Ends (node_steps note o) past inputs.Tick client client (Ok (sent_alone frames))
ticked note o past client frames a = record { free = a.free; sends = record { answer_is = refl; sends = a.sends }; leaves = a.leaves; stands = a.stands }

unasked : (o : Opening) (past : List FrameEntry) (sort : FaultSort) → UnlessMemory IsInRange sort (sense o past inputs.Tick)
unasked o past sorts.Memory = tt
unasked o past sorts.Save = tt
unasked o past sorts.Refusal = tt

-- What its caller asks is within its ranges.
pub heard : {X : Type 0} (o : Opening) (past : List FrameEntry) (result : Result X Fault) → HearsInRange IsInRange (sense o past inputs.Tick) result
heard o past (Ok x) = tt
heard o past (Err fault) = unasked o past (sort_of fault)

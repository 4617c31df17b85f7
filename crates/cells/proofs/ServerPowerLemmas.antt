-- A server that may have no power takes what comes as the rules have it.
use Rattle.std.proofs.Common.{◌≡◌, refl, true, false, List, ◌∷◌, Some, Result, Ok, Err}
use Rattle.std.specs.Prelude.{IfOk}
use Rattle.fc_base.specs.declared.fault.Fault.{Fault}
use Rattle.fc_base.specs.declared.fault.Fault.TheVariants.{FrameBadField}
use Rattle.fc_base.specs.Fault.{sort_of}
use Rattle.disk_model.specs.declared.save_outcome.SaveOutcome.{SaveOutcome}
use Rattle.disk_model.specs.Notes.{Note}
use Rattle.node.specs.Steps as steps
use Rattle.messages.specs.Hearing.{Meaning, Says as Speaks, Waits, Spoils, Strays, meaning, heard_by, with_entry}
use Rattle.messages.specs.Senses.{Sense, Hears, Keeps, Drops, Misses, sense_of, is_drop, refusal_of_sense, SenseInRange, UnlessMemory, HearsInRange}
use Rattle.server_core.specs.Inputs.{PacketInput, FrameInput}
use Rattle.server_core.specs.declared.input.Input.TheVariants as inputs
use Rattle.server_core.specs.declared.outs.Outs.{Outs}
use Rattle.server_core.specs.declared.server.Server.{Server}
use Rattle.server_core.specs.History as packets
use Rattle.server_core.specs.History.{Opening}
use Rattle.server_core.specs.Ranges.{IsInRange, CameInRange}
use Rattle.server_core.specs.Hearing.{FrameEntry, Met, packets_heard, heard_at, rules as hearing, is_up}
use Rattle.server_core.specs.FrameAnswers.{sense}
use Rattle.server_core.specs.FrameEnds as ends
use Rattle.server_core.specs.FrameEnds.{note_in}
use Rattle.node.specs.declared.power.Power.TheVariants.{On}
use Rattle.cells.specs.Failures.{Counts}
use Rattle.cells.specs.Moves.{StepEnds}
use Rattle.server_core.specs.NodeKind.{server_kind}
use Rattle.server_core.specs.Bounds.{AreShort}
use Rattle.cells.specs.ServerRules.{core}
use Rattle.cells.proofs.StepLemmas.{Fits, answered_ends, unanswered_ends, faults_count}
use Rattle.cells.specs.ServerStands.{reply_and_frames}

-- ---- what came stays within its ranges

by_meaning : (o : Opening) (past : List packets.Entry) (left : SaveOutcome) (m : Meaning) → SenseInRange IsInRange (sense_of inputs.Deliver m) → CameInRange past
    → CameInRange (with_entry (heard_by (hearing o) left m) past)
by_meaning o past left (Speaks p) h came = (h, came)
by_meaning o past left Waits h came = came
by_meaning o past left Spoils h came = came
by_meaning o past left Strays h came = came

came_after : (o : Opening) (past : List FrameEntry) (e : FrameInput) (left : SaveOutcome) → SenseInRange IsInRange (sense o past e) → CameInRange (packets_heard o past)
    → CameInRange (packets_heard o (Met e left ∷ past))
came_after o past (inputs.Deliver f) left h came = by_meaning o (packets_heard o past) left (meaning (hearing o) (heard_at o past) f) h came
came_after o past (inputs.Issue j) left h came = (h, came)
came_after o past (inputs.WriteDone ticket end) left h came = (h, came)
came_after o past (inputs.CheckDone now a j report) left h came = (h, came)

-- ---- a step

no_drop : (o : Opening) (past : List FrameEntry) (s : Sense PacketInput) (fault : Fault) → refusal_of_sense (hearing o) (packets_heard o past) s ≡ Some fault
    → (fault ≡ FrameBadField → ⊥) → is_drop s ≡ false
no_drop o past (Hears e) fault h k = refl
no_drop o past Keeps fault h k = refl
no_drop o past Drops fault h k = absurd (k (same FrameBadField fault h))
  where
    same : (x y : Fault) → Some x ≡ Some y → y ≡ x
    same x y h = cc
no_drop o past Misses fault h k = refl

fits : {T : Type 0} (note : T → Note) (o : Opening) (past : List FrameEntry) (e : FrameInput)
    → Fits (server_kind note o) (core o) past e (λ sort. UnlessMemory IsInRange sort (sense o past e))
fits note o past e = record {
  stays = λ fault server why other h. h (no_drop o past (sense o past e) fault why other);
  alike = λ h. h;
  ranges = λ h left r. (r.0, came_after o past e left h r.1);
}

-- A server that is on takes what comes.
pub step_ends : {T : Type 0} (note : T → Note) (o : Opening) (past : List FrameEntry) (e : FrameInput) (old server : Server T) (result : Result Outs Fault)
    → is_up o past ≡ true
    → steps.Ends (ends.steps note o) past e old server result → HearsInRange IsInRange (sense o past e) result
    → StepEnds (server_kind note o) (core o) past e (On server) (reply_and_frames result)
step_ends note o past e old server (Ok outs) on a h =
    answered_ends (server_kind note o) (core o) past e (fits note o past e) on old server outs _ outs.frames a h
    (rw (a.sends.issue_is, a.sends.act_is) refl) a.sends.frames_are
step_ends note o past e old server (Err fault) on f h =
    unanswered_ends (server_kind note o) (core o) past e (fits note o past e) on old server fault (sort_of fault) f h refl

-- Its frames are few and short.
pub step_short : {T : Type 0} (note : T → Note) (o : Opening) (past : List FrameEntry) (e : FrameInput) (old server : Server T) (result : Result Outs Fault)
    → steps.Ends (ends.steps note o) past e old server result → (core o).InRange past → IfOk result (λ outs. AreShort outs.frames)
step_short note o past e old server (Ok outs) a r = a.sends.short r.0 r.1
step_short note o past e old server (Err fault) f r = tt

-- ---- the device's failures

-- A step counts a failed save.
pub step_counts : {T : Type 0} (note : T → Note) (o : Opening) (past : List FrameEntry) (e : FrameInput) (old server : Server T) (result : Result Outs Fault)
    → steps.Ends (ends.steps note o) past e old server result
    → Counts false (note_in note old).failures (note_in note server).failures (reply_and_frames result)
step_counts note o past e old server (Ok outs) a = tt
step_counts note o past e old server (Err fault) f = faults_count (ends.steps note o) past e old server fault (sort_of fault) f

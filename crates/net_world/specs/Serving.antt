-- How a step of a server ends in a world.
use Rattle.std.specs.Prelude.{◌≡◌, ◌⊎◌, ℕ, false, List, ◌∷◌, length, Some, None, Result, Ok, Err}
use Rattle.fc_base.specs.declared.fault.Fault.{Fault}
use Rattle.fc_base.specs.declared.fault.Fault.TheVariants.{NoMemory}
use Rattle.fc_base.specs.declared.fault.FaultSort.{FaultSort}
use Rattle.fc_base.specs.declared.fault.FaultSort.TheVariants as sorts
use Rattle.fc_base.specs.Fault.{sort_of}
use Rattle.messages.specs.Senses.{is_drop}
use Rattle.disk_model.specs.declared.save_outcome.SaveOutcome.TheVariants.{NoSave}
use Rattle.messages.specs.declared.node.Node.TheVariants as nodes
use Rattle.server_core.specs.Inputs.{FrameInput}
use Rattle.server_core.specs.Hearing.{FrameEntry, Met, coming_of}
use Rattle.server_core.specs.FrameAnswers.{sense, refusal, issue, act, answered_entry}
use Rattle.net_world.specs.declared.told.Told.{Told}
use Rattle.net_world.specs.declared.world.World.{World}
use Rattle.net_world.specs.Setup.{Setup}
use Rattle.net_world.specs.Trace.{opening_of}
use Rattle.net_world.specs.Frames.{FrameStep, OfServer, frames_sent, frames_of_step, server_entries}
use Rattle.net_world.specs.Changes as changes
use Rattle.net_world.specs.Changes.{Change, steps, trace}
use Rattle.net_world.specs.Barred.{unless_on}
use Rattle.net_world.specs.World.{answer_of_issue}
use Rattle.net_world.specs.Stands.{StandsFor}

-- The list of frames of server s.
abbrev pub entries : List Change → ℕ → List FrameEntry
entries past s = server_entries s (steps past)

-- An entry of its list, as a step of the world.
abbrev pub step_of : ℕ → FrameEntry → FrameStep
step_of s e = OfServer s (coming_of e)

-- The step of what comes to it and is answered.
abbrev pub step_by : List Change → ℕ → FrameInput → FrameStep
step_by past s e = step_of s (answered_entry (opening_of s) (entries past s) e)

-- The server is there and on, doesn't refuse what comes, and its step is added. It is told with what
-- a worker is answered that asks for a write.
pub record Serves (w : Setup) (past : List Change) (s : ℕ) (e : FrameInput) (new : World)
    (told : Told) : Type 0 where
  pub on : unless_on w (trace w past) (nodes.Server s) ≡ None
  pub free : refusal (opening_of s) (entries past s) e ≡ None
  pub told_is :
      told ≡ record {
        answer = answer_of_issue (issue (opening_of s) (entries past s) e);
        first = length (frames_sent w (steps past));
        sent = length (frames_of_step w (steps past) (step_by past s e));
        act = act (opening_of s) (entries past s) e;
      }
  pub stands : StandsFor w (changes.Met (step_by past s e) ∷ past) new

-- There is no such server, or it is off.
pub record IsBarred (w : Setup) (past : List Change) (s : ℕ) (fault : Fault)
    (new : World) : Type 0 where
  pub why : unless_on w (trace w past) (nodes.Server s) ≡ Some fault
  pub unchanged : StandsFor w past new

-- The server refuses what comes. That may stand in the list, or be left out, but where it drops a
-- tag.
pub record Refuses (w : Setup) (past : List Change) (s : ℕ) (e : FrameInput) (fault : Fault)
    (new : World) : Type 0 where
  pub on : unless_on w (trace w past) (nodes.Server s) ≡ None
  pub why : refusal (opening_of s) (entries past s) e ≡ Some fault
  pub stands : StandsFor w (changes.Met (step_of s (Met e NoSave)) ∷ past) new
  pub unchanged : is_drop (sense (opening_of s) (entries past s) e) ≡ false → StandsFor w past new

-- How what comes to a server ends that isn't answered.
abbrev pub Faults : Setup → List Change → ℕ → FrameInput → FaultSort → Fault → World → Type 0
Faults w past s e sorts.Memory fault new = (fault ≡ NoMemory) × StandsFor w past new
Faults w past s e sorts.Save fault new = ⊥
Faults w past s e sorts.Refusal fault new =
    IsBarred w past s fault new ⊎ Refuses w past s e fault new

-- How what comes to a server ends.
abbrev pub ServerEnds : Setup → List Change → ℕ → FrameInput → World → Result Told Fault → Type 0
ServerEnds w past s e new (Ok told) = Serves w past s e new told
ServerEnds w past s e new (Err fault) = Faults w past s e (sort_of fault) fault new

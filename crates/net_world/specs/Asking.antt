-- How a call of the client ends in a world.
use Rattle.std.specs.Prelude.{◌≡◌, ◌⊎◌, ℕ, false, List, ◌∷◌, length, Some, None, Result, Ok, Err}
use Rattle.fc_base.specs.declared.fault.Fault.{Fault}
use Rattle.fc_base.specs.declared.fault.Fault.TheVariants.{NoMemory}
use Rattle.fc_base.specs.declared.fault.FaultSort.{FaultSort}
use Rattle.fc_base.specs.declared.fault.FaultSort.TheVariants as sorts
use Rattle.fc_base.specs.Fault.{sort_of}
use Rattle.messages.specs.Senses.{is_drop}
use Rattle.disk_model.specs.declared.save_outcome.SaveOutcome.TheVariants.{NoSave}
use Rattle.messages.specs.declared.node.Node.TheVariants.{Client}
use Rattle.messages.specs.declared.refusal.Act.TheVariants as acts
use Rattle.client_core.specs.Inputs.{FrameInput}
use Rattle.client_core.specs.Hearing.{FrameEntry, Met, coming_of}
use Rattle.client_core.specs.FrameAnswers.{sense, refusal, answered_entry}
use Rattle.client_core.specs.declared.outs.Outs.{Outs}
use Rattle.net_world.specs.ClientAnswers.{world_answer}
use Rattle.net_world.specs.declared.told.Told.{Told}
use Rattle.net_world.specs.declared.world.World.{World}
use Rattle.net_world.specs.Setup.{Setup}
use Rattle.net_world.specs.Trace.{client_opening}
use Rattle.net_world.specs.Frames.{FrameStep, OfClient, frames_sent, frames_of_step, client_entries}
use Rattle.net_world.specs.Changes as changes
use Rattle.net_world.specs.Changes.{Change, steps, trace}
use Rattle.net_world.specs.Barred.{unless_on}
use Rattle.net_world.specs.ClientNodes.{answer_to}
use Rattle.net_world.specs.Stands.{StandsFor}

-- The client's list of frames.
abbrev pub entries : Setup → List Change → List FrameEntry
entries w past = client_entries w (steps past)

-- An entry of its list, as a step of the world.
abbrev pub step_of : FrameEntry → FrameStep
step_of e = OfClient (coming_of e)

-- The step of a call that is answered.
abbrev pub step_by : Setup → List Change → FrameInput → FrameStep
step_by w past e = step_of (answered_entry (client_opening w) (entries w past) e)

-- What is told of what the client has answered, behind so many frames.
abbrev pub told_of : ℕ → Outs → Told
told_of first asked =
    record { answer = world_answer asked.answer; first = first; sent = length asked.frames; act = acts.None }

-- The client is on, doesn't refuse what comes, and its step is added.
pub record IsAnswered (w : Setup) (past : List Change) (e : FrameInput) (new : World)
    (told : Told) : Type 0 where
  pub on : unless_on w (trace w past) Client ≡ None
  pub free : refusal (client_opening w) (entries w past) e ≡ None
  pub told_is :
      told ≡ record {
        answer = answer_to (client_opening w) (entries w past) e;
        first = length (frames_sent w (steps past));
        sent = length (frames_of_step w (steps past) (step_by w past e));
        act = acts.None;
      }
  pub stands : StandsFor w (changes.Met (step_by w past e) ∷ past) new

-- The client is off.
pub record IsBarred (w : Setup) (past : List Change) (fault : Fault) (new : World) : Type 0 where
  pub why : unless_on w (trace w past) Client ≡ Some fault
  pub unchanged : StandsFor w past new

-- The client refuses what comes. That may stand in the list, or be left out, but where it drops a
-- tag.
pub record Refuses (w : Setup) (past : List Change) (e : FrameInput) (fault : Fault)
    (new : World) : Type 0 where
  pub on : unless_on w (trace w past) Client ≡ None
  pub why : refusal (client_opening w) (entries w past) e ≡ Some fault
  pub stands : StandsFor w (changes.Met (step_of (Met e NoSave)) ∷ past) new
  pub unchanged : is_drop (sense (client_opening w) (entries w past) e) ≡ false
      → StandsFor w past new

-- How a call ends that isn't answered.
abbrev pub Faults : Setup → List Change → FrameInput → FaultSort → Fault → World → Type 0
Faults w past e sorts.Memory fault new = (fault ≡ NoMemory) × StandsFor w past new
Faults w past e sorts.Save fault new = ⊥
Faults w past e sorts.Refusal fault new = IsBarred w past fault new ⊎ Refuses w past e fault new

-- How a call of the client ends.
abbrev pub ClientEnds : Setup → List Change → FrameInput → World → Result Told Fault → Type 0
ClientEnds w past e new (Ok told) = IsAnswered w past e new told
ClientEnds w past e new (Err fault) = Faults w past e (sort_of fault) fault new

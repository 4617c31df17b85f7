-- What a client answers to what comes to it, and how its steps end as those of a node.
use Rattle.std.specs.Prelude.{◌≡◌, ℕ, ◌+◌, List}
use Rattle.disk_model.specs.Notes.{Note}
use Rattle.node.specs.Steps.{Steps}
use Rattle.client_core.specs.Inputs.{FrameInput}
use Rattle.client_core.specs.Inputs as inputs
use Rattle.client_core.specs.declared.client.Client.{Client}
use Rattle.client_core.specs.declared.input.Input.{Input}
use Rattle.client_core.specs.declared.input.Input.TheVariants as came
use Rattle.client_core.specs.declared.outs.Outs.{Outs}
use Rattle.client_core.specs.declared.outs.Answer.{Answer}
use Rattle.client_core.specs.declared.outs.Answer.TheVariants.{Plain, Run, Attempt}
use Rattle.client_core.specs.History.{Opening}
use Rattle.client_core.specs.Words.{words_noted}
use Rattle.client_core.specs.Saves.{Addition}
use Rattle.client_core.specs.Hearing.{FrameEntry, packets_heard}
use Rattle.client_core.specs.FrameEnds.{Sends, steps}

-- What comes to a client, as its list says it: a text by its bytes.
abbrev pub input_of : Input → FrameInput
input_of (came.Begin text) = inputs.Begin text.now
input_of (came.Trigger run act) = inputs.Trigger run act
input_of (came.Stop run) = inputs.Stop run
input_of (came.Verify run text) = inputs.Verify run text.now
input_of came.Tick = inputs.Tick
input_of (came.Deliver frame) = inputs.Deliver frame

-- A begin is answered by the number of its run, and a verify by that of its attempt, each the one
-- above those that were used. Anything else is answered by what is sent alone.
abbrev pub answer_to : Opening → List FrameEntry → FrameInput → Answer
answer_to opening past (inputs.Begin text) =
    Run ((words_noted opening (packets_heard opening past)).runs + 1)
answer_to opening past (inputs.Verify run text) =
    Attempt ((words_noted opening (packets_heard opening past)).attempts + 1)
answer_to opening past _ = Plain

-- These frames are sent, and nothing more is answered.
abbrev pub sent_alone : List (List ℕ) → Outs
sent_alone frames = record { answer = Plain; frames = frames }

-- The answer and the frames are those of the list.
pub record Says (opening : Opening) (past : List FrameEntry) (e : FrameInput) (outs : Outs)
    : Type 0 where
  pub answer_is : outs.answer ≡ answer_to opening past e
  pub sends : Sends opening past e outs.frames

-- The steps of a client as those of a node, which answers and sends.
abbrev pub node_steps : {T : Type 0} → (T → Note) → Opening →
    Steps (Client T) FrameInput FrameEntry Addition Outs
node_steps note opening = record {
  words = (steps note opening).words;
  note = (steps note opening).note;
  StandsFor = (steps note opening).StandsFor;
  Sends = Says opening;
  Stays = (steps note opening).Stays;
}

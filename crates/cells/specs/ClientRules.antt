-- The rules of the client under its lock.
use Rattle.std.specs.Prelude.{false, List, Option, Some, None}
use Rattle.messages.specs.declared.frame.Frame.{Frame}
use Rattle.messages.specs.declared.refusal.Act.TheVariants as acts
use Rattle.messages.specs.FrameBytes.{frame_at}
use Rattle.client_core.specs.Inputs.{FrameInput}
use Rattle.client_core.specs.Inputs as inputs
use Rattle.client_core.specs.History.{Opening}
use Rattle.client_core.specs.Ranges.{OpensInRange, CameInRange}
use Rattle.client_core.specs.declared.outs.Answer as client
use Rattle.client_core.specs.declared.outs.Answer.TheVariants as answers
use Rattle.client_core.specs.Answers as core_answers
use Rattle.client_core.specs.Hearing.{FrameEntry, Cut, Restart, packets_heard}
use Rattle.client_core.specs.FrameAnswers as frame_answers
use Rattle.client_core.specs.FrameEnds.{words_of}
use Rattle.cells.specs.declared.input.NodeInput.{NodeInput}
use Rattle.cells.specs.declared.input.NodeInput.TheVariants as came
use Rattle.cells.specs.declared.answer.Answer.{Answer}
use Rattle.cells.specs.declared.answer.Answer.TheVariants.{Plain, Run, Attempt}
use Rattle.cells.specs.ClientTasks.{input_of}
use Rattle.cells.specs.CoreRules.{CoreRules, rules_of}
use Rattle.cells.specs.Rules.{Ask, Meets, Cuts, Restarts, Nothing, Rules}

-- The frame that the bytes say is delivered.
abbrev pub ask_of_frame : Option Frame → Ask FrameInput
ask_of_frame None = Nothing
ask_of_frame (Some f) = Meets (inputs.Deliver f)

-- What is asked of the client.
abbrev pub ask_of : NodeInput → Ask FrameInput
ask_of (came.Frame bytes) = ask_of_frame (frame_at bytes)
ask_of (came.Request request) = Meets (input_of request)
ask_of came.Tick = Meets inputs.Tick
ask_of came.Cut = Cuts
ask_of came.Restart = Restarts
ask_of _ = Nothing

-- What a client answers, as what a node does.
abbrev pub answer_of : client.Answer → Answer
answer_of answers.Plain = Plain
answer_of (answers.Run run) = Run run
answer_of (answers.Attempt attempt) = Attempt attempt

-- A begin is answered by its run, a verify by its attempt.
abbrev pub answer_to : Opening → List FrameEntry → FrameInput → Answer
answer_to opening past e = answer_of (core_answers.answer_to opening past e)

-- What is known of the core of a client, which asks nothing of its caller. A restart is one without
-- a mirror, and saves nothing; a renewal and the loss of a note are never added.
abbrev pub core : Opening → CoreRules FrameInput FrameEntry
core opening = record {
  asked = ask_of;
  spent = λ past. None;
  said = λ past e. record { answer = answer_to opening past e; act = acts.None };
  cut = Cut;
  started = Restart false;
  unstarted = λ left. None;
  frames = frame_answers.frames opening;
  InRange = λ past. OpensInRange opening × CameInRange (packets_heard opening past);
}

-- The rules of a client that opens by a restart without a mirror.
abbrev pub rules : Opening → Rules FrameInput FrameEntry
rules opening = rules_of (words_of opening) (core opening)

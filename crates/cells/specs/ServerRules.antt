-- The rules of a server under its lock.
use Rattle.std.specs.Prelude.{Bool, true, false, if◌then◌else◌, Option, Some, None}
use Rattle.fc_base.specs.declared.fault.Fault.TheVariants.{NumbersSpent}
use Rattle.fc_base.specs.Report.{is_report}
use Rattle.engine.specs.declared.issue.Issue.{Issue}
use Rattle.disk_model.specs.declared.save_outcome.SaveOutcome.TheVariants.{Saved}
use Rattle.messages.specs.declared.frame.Frame.{Frame}
use Rattle.messages.specs.FrameBytes.{frame_at}
use Rattle.server_core.specs.Inputs.{FrameInput}
use Rattle.server_core.specs.declared.input.Input.TheVariants as inputs
use Rattle.server_core.specs.History.{Opening}
use Rattle.server_core.specs.Ranges.{OpensInRange, CameInRange}
use Rattle.server_core.specs.Words.{has_boot}
use Rattle.server_core.specs.Hearing.{FrameEntry, Cut, Restart, packets_heard}
use Rattle.server_core.specs.FrameAnswers as answers
use Rattle.server_core.specs.FrameEnds.{words_of}
use Rattle.cells.specs.declared.input.NodeInput.{NodeInput}
use Rattle.cells.specs.declared.input.NodeInput.TheVariants as came
use Rattle.cells.specs.declared.answer.Answer.{Answer}
use Rattle.cells.specs.declared.answer.Answer.TheVariants.{Plain, Issued}
use Rattle.cells.specs.CoreRules.{CoreRules, rules_of}
use Rattle.cells.specs.Rules.{Ask, Meets, Cuts, Restarts, Nothing, Rules}

-- The frame that the bytes say is delivered.
abbrev pub ask_of_frame : Option Frame → Ask FrameInput
ask_of_frame None = Nothing
ask_of_frame (Some f) = Meets (inputs.Deliver f)

-- The report of a check comes, as all that are handed in are within their ranges.
abbrev pub ask_of_report : Bool → FrameInput → Ask FrameInput
ask_of_report true e = Meets e
ask_of_report false e = Nothing

-- What is asked of a server.
abbrev pub ask_of : NodeInput → Ask FrameInput
ask_of (came.Frame bytes) = ask_of_frame (frame_at bytes)
ask_of (came.Issue j) = Meets (inputs.Issue j)
ask_of (came.WriteDone ticket end) = Meets (inputs.WriteDone ticket end)
ask_of (came.CheckDone now attempt job report) =
    ask_of_report (is_report report.value) (inputs.CheckDone now attempt job report.value)
ask_of came.Cut = Cuts
ask_of came.Restart = Restarts
ask_of _ = Nothing

-- What is answered of writes, if anything is.
abbrev pub answer_of : Option Issue → Answer
answer_of None = Plain
answer_of (Some issue) = Issued issue

-- What is known of the core of a server.
abbrev pub core : Opening → CoreRules FrameInput FrameEntry
core opening = record {
  asked = ask_of;
  spent = λ past. if has_boot opening (packets_heard opening past) then None else Some NumbersSpent;
  said = λ past e.
      record {
        answer = answer_of (answers.issue opening past e);
        act =
            answers.act opening past e;
      };
  cut = Cut;
  started = Restart Saved;
  unstarted = λ left. Some (Restart left);
  frames = answers.frames opening;
  InRange = λ past. OpensInRange opening × CameInRange (packets_heard opening past);
}

-- The rules of a server that opens by a restart.
abbrev pub rules : Opening → Rules FrameInput FrameEntry
rules opening = rules_of (words_of opening) (core opening)

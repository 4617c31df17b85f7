-- What the bodies of records ask of the client, and how what it tells is spelled.
use Rattle.std.specs.Prelude.{ℕ, ◌==◌, nat_lt, List, ◌++◌, length, drop, Option, Some, None, if◌then◌else◌, Result, Ok, Err}
use Rattle.std.specs.Option.{option_map}
use Rattle.std.specs.Int.{w8, w32, w64}
use Rattle.fc_base.specs.Layouts.{bytes_of, number_in}
use Rattle.fc_base.specs.declared.fault.Fault.{Fault}
use Rattle.fc_base.specs.declared.fault.Fault.TheVariants.{BadNotice}
use Rattle.fc_base.specs.declared.report.ReportEnd.{ReportEnd}
use Rattle.fc_base.specs.declared.report.ReportEnd.TheVariants.{Whole, AtFault, ReadFault}
use Rattle.fc_base.specs.declared.report.ReportParts.{ReportParts}
use Rattle.messages.specs.Choices.{act_numbered, reason_number}
use Rattle.messages.specs.FrameBytes.{frame_at, frame_faults}
use Rattle.client_core.specs.Inputs.{FrameInput}
use Rattle.client_core.specs.Inputs as inputs
use Rattle.client_core.specs.declared.outcome.Outcome.{Outcome}
use Rattle.client_core.specs.declared.outcome.Outcome.TheVariants as outcomes
use Rattle.client_core.specs.declared.outcome.RequestKind.{RequestKind}
use Rattle.client_core.specs.declared.outcome.RequestKind.TheVariants as requests
use Rattle.client_core.specs.declared.received.Received.{Received}
use Rattle.filters.specs.declared.asking.TriggerAsked.{TriggerAsked}
use Rattle.filters.specs.declared.asking.LookAsked.{LookAsked}
use Rattle.filters.specs.declared.asking.EndsAsked.{EndsAsked}
use Rattle.filters.specs.declared.kinds.InRecordKind.{InRecordKind}
use Rattle.filters.specs.declared.kinds.InRecordKind.TheVariants as told
use Rattle.filters.specs.NodeSteps.{with_frame}

-- The number that eight bytes are.
abbrev pub number_alone : List ℕ → Option ℕ
number_alone body = if length body == 8 then Some (number_in w64 body) else None

-- The trigger that nine bytes are: a run in eight, and an act in one.
abbrev pub trigger_in : List ℕ → Option TriggerAsked
trigger_in body =
    if length body == 9
    then option_map (λ act. record { run = number_in w64 body; act = act })
    (act_numbered (number_in w8 (drop 8 body)))
    else None

-- The kind of requests with this number.
abbrev pub kind_numbered : ℕ → Option RequestKind
kind_numbered n =
    if n == 1 then Some requests.Begin
    else (if n == 2 then Some requests.Trigger
    else (if n == 3 then Some requests.Stop
    else (if n == 4 then Some requests.Verify else None)))

-- The request that thirteen bytes name: its number in eight, a server in four, its kind in one.
abbrev pub look_in : List ℕ → Option LookAsked
look_in body =
    if length body == 13
    then option_map (λ kind. record {
      number = number_in w64 body;
      server = number_in w32 (drop 8 body);
      kind = kind;
    })
    (kind_numbered (number_in w8 (drop 4 (drop 8 body))))
    else None

-- The attempt that sixteen bytes name: its run in eight, and its number in eight.
abbrev pub ends_in : List ℕ → Option EndsAsked
ends_in body =
    if length body == 16
    then Some (record { run = number_in w64 body; attempt = number_in w64 (drop 8 body) })
    else None

-- What a body asks of the client, or the fault of one that can't be read.
abbrev pub or_bad : Option FrameInput → Result FrameInput Fault
or_bad (Some e) = Ok e
or_bad None = Err BadNotice

-- A run in eight bytes, and behind it a job file.
abbrev pub verify_in : List ℕ → Result FrameInput Fault
verify_in body =
    if nat_lt (length body) 8 then Err BadNotice
    else Ok (inputs.Verify (number_in w64 body) (drop 8 body))

-- Nothing is asked with a tick.
abbrev pub tick_in : List ℕ → Result FrameInput Fault
tick_in body = if length body == 0 then Ok inputs.Tick else Err BadNotice

-- What comes to the client by a record of this kind: by those of other kinds nothing does.
abbrev pub input_in : InRecordKind → List ℕ → Result FrameInput Fault
input_in told.Frame body = with_frame inputs.Deliver (frame_faults body) (frame_at body)
input_in told.Begin body = Ok (inputs.Begin body)
input_in told.Trigger body = or_bad (option_map (λ t. inputs.Trigger t.run t.act) (trigger_in body))
input_in told.Stop body = or_bad (option_map inputs.Stop (number_alone body))
input_in told.Verify body = verify_in body
input_in told.Tick body = tick_in body
input_in _ body = Err BadNotice

-- The number of how a request stands: 0, 1, 2, or that of the reason for which it is refused.
abbrev pub outcome_number : Outcome → ℕ
outcome_number outcomes.None = 0
outcome_number outcomes.Open = 1
outcome_number outcomes.Good = 2
outcome_number (outcomes.Refused reason) = reason_number reason

-- The numbers of how a check ended.
abbrev pub end_numbers : ReportEnd → ℕ × ℕ
end_numbers Whole = (0, 0)
end_numbers AtFault = (1, 0)
end_numbers (ReadFault block) = (2, block)

-- Whose a report is.
abbrev pub report_names : Received → List ℕ
report_names r =
    bytes_of w64 r.run ++ (bytes_of w64 r.attempt ++ (bytes_of w32 r.server ++ bytes_of w32 r.job))

-- The counts of a report, and how its check ended.
abbrev pub report_counts : ReportParts → List ℕ
report_counts r =
    bytes_of w32 r.checked ++ (bytes_of w32 r.faults
    ++ (bytes_of w32 (end_numbers r.end).0 ++ bytes_of w32 (end_numbers r.end).1))

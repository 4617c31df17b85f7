-- Which steps are within the ranges of what servers and reports may be.
use Rattle.std.specs.Prelude.{◌<◌, ◌≤◌, List, IsTrue}
use Rattle.std.specs.List.{AllByRecursion}
use Rattle.fc_base.specs.declared.limits.TheConstants.{MAX_SERVERS}
use Rattle.fc_base.specs.Report.{is_report}
use Rattle.messages.specs.PieceLaws.{ArePackets}
use Rattle.messages.specs.Hearing.{Comes, Happens}
use Rattle.server_core.specs.Inputs.{PacketInput}
use Rattle.server_core.specs.declared.input.Input.TheVariants.{Deliver, Issue, WriteDone, CheckDone}
use Rattle.server_core.specs.History.{Entry, Met, Cut, Restart}
use Rattle.net_world.specs.Setup.{Setup}
use Rattle.net_world.specs.Trace.{Step, AtServer, AtClient, AtMirror, IsTrace, sent_packets}
use Rattle.net_world.specs.Frames.{FrameStep, OfServer, OfClient, OfMirror}

-- The report of a check is within its ranges.
abbrev pub ReportFits : PacketInput → Type 0
ReportFits (Deliver p) = Unit {0}
ReportFits (Issue j) = Unit {0}
ReportFits (WriteDone ticket end) = Unit {0}
ReportFits (CheckDone boot a j report) = IsTrue (is_report report)

-- The report of a check that comes by an entry is within its ranges.
abbrev pub EntryFits : Entry → Type 0
EntryFits (Met e left) = ReportFits e
EntryFits Cut = Unit {0}
EntryFits (Restart left) = Unit {0}

-- A step is at the client, at the mirror, or at a server with a number below 8, and its report is
-- within its ranges.
abbrev pub StepFits : Step → Type 0
StepFits (AtServer s e) = (s < MAX_SERVERS) × EntryFits e
StepFits (AtClient e) = Unit {0}
StepFits (AtMirror e) = Unit {0}

-- A step of frames is at the client, at the mirror, or at a server with a number below 8, and its
-- report is within its ranges.
abbrev pub FrameStepFits : FrameStep → Type 0
FrameStepFits (OfServer s (Comes f left)) = s < MAX_SERVERS
FrameStepFits (OfServer s (Happens e)) = (s < MAX_SERVERS) × EntryFits e
FrameStepFits (OfClient c) = Unit {0}
FrameStepFits (OfMirror e) = Unit {0}

-- There are at most 8 servers, and each step is within its ranges.
pub record Fits (w : Setup) (t : List Step) : Type 0 where
  pub few : w.servers ≤ MAX_SERVERS
  pub steps : AllByRecursion StepFits t

-- The servers of a trace of frames are few, and its steps are in their ranges.
pub record FitsFrames (w : Setup) (t : List FrameStep) : Type 0 where
  pub few : w.servers ≤ MAX_SERVERS
  pub steps : AllByRecursion FrameStepFits t

-- All that is sent in a trace is within the ranges of packets.
abbrev pub SentAreInRange : Type 0
SentAreInRange =
    (w : Setup) (t : List Step) → IsTrace w t → Fits w t → ArePackets (sent_packets w t)

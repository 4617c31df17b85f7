-- What comes to a server within the ranges of packets.
use Rattle.std.specs.Prelude.{◌<◌, ◌^◌, List, [], ◌∷◌, IsTrue}
use Rattle.fc_base.specs.declared.limits.TheConstants.{MAX_SERVERS}
use Rattle.fc_base.specs.Report.{is_report}
use Rattle.messages.specs.Laws.{IsPacket}
use Rattle.server_core.specs.Inputs.{PacketInput}
use Rattle.server_core.specs.declared.input.Input.TheVariants.{Deliver, Issue, WriteDone, CheckDone}
use Rattle.server_core.specs.History.{Opening, Entry, Met, Cut, Restart}

-- A packet that comes is within its ranges, and so is the report of a check.
abbrev pub IsInRange : PacketInput → Type 0
IsInRange (Deliver p) = IsPacket p
IsInRange (Issue j) = Unit {0}
IsInRange (WriteDone ticket end) = Unit {0}
IsInRange (CheckDone boot a j report) = IsTrue (is_report report)

-- All that came is within its ranges.
abbrev pub CameInRange : List Entry → Type 0
CameInRange [] = Unit {0}
CameInRange (Met e left ∷ past) = IsInRange e × CameInRange past
CameInRange (Cut ∷ past) = CameInRange past
CameInRange (Restart left ∷ past) = CameInRange past

-- A server's number is below 8, and its last run is a number of eight bytes.
pub record OpensInRange (opening : Opening) : Type 0 where
  pub me : opening.me < MAX_SERVERS
  pub last : opening.last < 2 ^ 64

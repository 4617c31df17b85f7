-- What comes to a client within the ranges of packets.
use Rattle.std.specs.Prelude.{◌≤◌, List, [], ◌∷◌, ◌++◌}
use Rattle.std.specs.List.{AllByRecursion}
use Rattle.fc_base.specs.declared.limits.TheConstants.{MAX_SERVERS}
use Rattle.messages.specs.declared.packet.PacketParts.{PacketParts}
use Rattle.messages.specs.Laws.{IsPacket}
use Rattle.client_core.specs.Inputs.{PacketInput, Deliver}
use Rattle.client_core.specs.Note.{IsNoted}
use Rattle.client_core.specs.History.{Opening, Entry, Met}

-- A packet that comes is within its ranges.
abbrev pub IsInRange : PacketInput → Type 0
IsInRange (Deliver p) = IsPacket p
IsInRange _ = Unit {0}

-- The packet that an event brings.
abbrev pub packet_in : Entry → List PacketParts
packet_in (Met (Deliver p) left) = p ∷ []
packet_in _ = []

-- The packets that came, the newest first.
abbrev pub packets_come : List Entry → List PacketParts
packets_come [] = []
packets_come (entry ∷ past) = packet_in entry ++ packets_come past

-- All that came is within its ranges.
abbrev pub CameInRange : List Entry → Type 0
CameInRange past = AllByRecursion IsPacket (packets_come past)

-- A client drives at most 8 servers, and its note keeps its ranges.
pub record OpensInRange (opening : Opening) : Type 0 where
  pub servers : opening.servers ≤ MAX_SERVERS
  pub note : IsNoted opening.noted

-- The kinds of packets: the number that a frame has for each, the name that is printed, and who
-- sends it.
use Rattle.std.specs.Prelude.{ℕ, Bool, true, false, ◌==◌, List, [], ◌∷◌, Option, find, codes}
use Rattle.messages.specs.declared.kind.PacketKind.{PacketKind}
use Rattle.messages.specs.declared.kind.PacketKind.TheVariants.{Jobs, JobsOk, Start, Started, Trigger, State, NoState, StateAck, Stop, Stopped}
use Rattle.messages.specs.declared.kind.PacketKind.TheVariants.{Verify, WantState, Saved, NoSaved, Report, Refused, Copy, CopyOk, Fetch, Granted}

-- The number of a kind: 17 is that of a piece.
abbrev pub number_of : PacketKind → ℕ
number_of Jobs = 1
number_of JobsOk = 2
number_of Start = 3
number_of Started = 4
number_of Trigger = 5
number_of State = 6
number_of NoState = 7
number_of StateAck = 8
number_of Stop = 9
number_of Stopped = 10
number_of Verify = 11
number_of WantState = 12
number_of Saved = 13
number_of NoSaved = 14
number_of Report = 15
number_of Refused = 16
number_of Copy = 18
number_of CopyOk = 19
number_of Fetch = 20
number_of Granted = 21

-- The name of a kind.
abbrev pub name_of : PacketKind → List ℕ
name_of Jobs = codes "Jobs"
name_of JobsOk = codes "JobsOk"
name_of Start = codes "Start"
name_of Started = codes "Started"
name_of Trigger = codes "Trigger"
name_of State = codes "State"
name_of NoState = codes "NoState"
name_of StateAck = codes "StateAck"
name_of Stop = codes "Stop"
name_of Stopped = codes "Stopped"
name_of Verify = codes "Verify"
name_of WantState = codes "WantState"
name_of Saved = codes "Saved"
name_of NoSaved = codes "NoSaved"
name_of Report = codes "Report"
name_of Refused = codes "Refused"
name_of Copy = codes "Copy"
name_of CopyOk = codes "CopyOk"
name_of Fetch = codes "Fetch"
name_of Granted = codes "Granted"

-- Every kind of packet, each once.
abbrev pub kinds : List PacketKind
kinds = Jobs ∷ JobsOk ∷ Start ∷ Started ∷ Trigger ∷ State ∷ NoState ∷ StateAck ∷ Stop ∷ Stopped
    ∷ Verify ∷ WantState ∷ Saved ∷ NoSaved ∷ Report ∷ Refused ∷ Copy ∷ CopyOk ∷ Fetch ∷ Granted ∷ []

-- The kind with this number.
unfoldable pub kind_numbered : ℕ → Option PacketKind
kind_numbered n = find (λ kind. number_of kind == n) kinds

-- The kinds that the client sends.
abbrev pub is_of_client : PacketKind → Bool
is_of_client Jobs = true
is_of_client Start = true
is_of_client Trigger = true
is_of_client StateAck = true
is_of_client Stop = true
is_of_client Verify = true
is_of_client Saved = true
is_of_client NoSaved = true
is_of_client Copy = true
is_of_client Fetch = true
is_of_client _ = false

-- The kinds that servers send.
abbrev pub is_of_server : PacketKind → Bool
is_of_server JobsOk = true
is_of_server Started = true
is_of_server State = true
is_of_server NoState = true
is_of_server Stopped = true
is_of_server WantState = true
is_of_server Report = true
is_of_server Refused = true
is_of_server _ = false

-- The kinds that the mirror sends.
abbrev pub is_of_mirror : PacketKind → Bool
is_of_mirror Copy = true
is_of_mirror CopyOk = true
is_of_mirror Granted = true
is_of_mirror _ = false

-- A Jobs, a Start and a State, which can be followed by hand: instances of the laws of packets.
use Rattle.std.specs.Prelude.{◌≡◌, ◌≤◌, ℕ, ◌+◌, List, [], ◌∷◌, ◌++◌, codes, replicate, Some, IsTrue}
use Rattle.messages.specs.declared.body.Body.{Body}
use Rattle.messages.specs.declared.body.Body.TheVariants.{Jobs, Start, State}
use Rattle.messages.specs.declared.kind.PacketKind.TheVariants as kinds
use Rattle.messages.specs.declared.node.Node.TheVariants.{Server, Client}
use Rattle.messages.specs.declared.packet.PacketParts.{PacketParts}
use Rattle.messages.specs.Bodies.{length_of, length_limit}
use Rattle.messages.specs.Laws.{IsPacket, IsBytes, Says}
use Rattle.messages.specs.Packets.{spelling, packet_at, faults_of}
use Rattle.messages.specs.Ranges.{is_body, KeepsState}
use Rattle.uses.specs.OneJob.{text, state}

-- The client says this to server 0.
abbrev pub to_server : Body → PacketParts
to_server body = record { from = Client; to = Server 0; body = body }

-- The job file with a comment that says this letter over and over, 1,024 bytes in all.
abbrev pub long_text : ℕ → List ℕ
long_text letter = text ++ (codes "#" ++ (replicate 983 letter ++ codes "\n"))

-- The long job file for a run, with a letter of its own. Its body has 1,032 bytes, eight more than
-- go out whole.
abbrev pub long_packet : ℕ → PacketParts
long_packet run = to_server (Jobs run (long_text (96 + run)))

-- Run 1 is to start.
abbrev pub start_packet : PacketParts
start_packet = to_server (Start 1)

-- Server 0 tells the client the state of its one job.
abbrev pub state_packet : PacketParts
state_packet = record { from = Server 0; to = Client; body = State 1 state }

-- The bytes of that Start: the letters FC, version 1, kind 3, from 8, to 0, eight bytes more, and
-- the run.
abbrev pub start_bytes : List ℕ
start_bytes = 70 ∷ 67 ∷ 1 ∷ 3 ∷ 0 ∷ 0 ∷ 0 ∷ 8 ∷ 0 ∷ 0 ∷ 0 ∷ 0 ∷ 0 ∷ 0 ∷ 0 ∷ 8 ∷ 0 ∷ 0 ∷ 0 ∷ 0
    ∷ 0 ∷ 0 ∷ 0 ∷ 1 ∷ []

-- The State is read back from its bytes.
pub record IsReadBack : Type 0 where
  pub packet : IsPacket state_packet
  pub faultless : faults_of (spelling state_packet) ≡ []
  pub read : packet_at (spelling state_packet) ≡ Some state_packet

-- The bytes of the Start say a packet, which is that Start.
pub record SaysAPacket : Type 0 where
  pub are_bytes : IsBytes start_bytes
  pub faultless : faults_of start_bytes ≡ []
  pub says : (p : PacketParts) × (packet_at start_bytes ≡ Some p) × Says start_bytes p
  pub says_this : packet_at start_bytes ≡ Some start_packet

-- The bytes of the Start begin those of no other packet, and of itself with nothing behind them.
pub record BeginsNoOther : Type 0 where
  pub packet : IsPacket start_packet
  pub itself : spelling start_packet ++ [] ≡ spelling start_packet
  pub no_other : (q : PacketParts) (more : List ℕ) → IsPacket q
      → spelling start_packet ++ more ≡ spelling q → (more ≡ []) × (start_packet ≡ q)

-- The body of the State has as many bytes as its kind allows, and no more.
pub record IsWithinItsLength (n : ℕ) : Type 0 where
  pub in_range : IsTrue (is_body (State 1 state))
  pub keeps : KeepsState (State 1 state)
  pub bounded : length_of (State 1 state) ≤ length_limit kinds.State
  pub length_is : length_of (State 1 state) ≡ n
  pub limit_is : length_limit kinds.State ≡ n

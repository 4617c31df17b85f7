-- What every packet keeps, and what its spelling promises.
use Rattle.std.specs.Prelude.{◌≡◌, ◌<◌, ◌≤◌, ℕ, Bool, false, ◌==◌, ◌&&◌, ◌||◌, List, [], ◌++◌, drop, Some, IsTrue, slice_index}
use Rattle.messages.specs.declared.packet.PacketParts.{PacketParts}
use Rattle.verify_state.specs.Reading.{is_layout_1}
use Rattle.messages.specs.declared.body.Body.{Body}
use Rattle.messages.specs.Ranges.{is_body, KeepsState}
use Rattle.messages.specs.Bodies.{kind_of, length_of, length_limit}
use Rattle.messages.specs.Packets.{is_packet, header_at, spelling, packet_at, faults_of}

-- Every packet is in its ranges, and so is the verify state that it has.
pub record IsPacket (p : PacketParts) : Type 0 where
  pub in_range : IsTrue (is_packet p)
  pub state : KeepsState p.body

-- Each number of a list is a byte.
abbrev pub IsBytes : List ℕ → Type 0
IsBytes bytes = (i : ℕ) → slice_index bytes i < 256

-- The bytes hold a verify state in layout 1, which stands behind four numbers in a State, eight in
-- a Saved, and none in a Copy.
abbrev pub holds_layout_1 : List ℕ → Bool
holds_layout_1 bytes =
    ((header_at 3 bytes == 6) && is_layout_1 (drop 20 bytes))
    || (((header_at 3 bytes == 13) && is_layout_1 (drop 24 bytes))
    || ((header_at 3 bytes == 18) && is_layout_1 (drop 16 bytes)))

-- The bytes say this packet, and are its spelling but where they hold a state in layout 1.
pub record Says (bytes : List ℕ) (p : PacketParts) : Type 0 where
  pub packet : IsPacket p
  pub spelled : holds_layout_1 bytes ≡ false → spelling p ≡ bytes

-- A packet's spelling has no fault and says that packet.
abbrev pub SpellingsAreRead : Type 0
SpellingsAreRead = (p : PacketParts) → IsPacket p
    → (faults_of (spelling p) ≡ []) × (packet_at (spelling p) ≡ Some p)

-- Bytes without a fault say a packet, and are its spelling but where they hold a state in layout 1.
abbrev pub OnlyPacketsAreRead : Type 0
OnlyPacketsAreRead =
    (bytes : List ℕ) → IsBytes bytes → faults_of bytes ≡ []
    → (p : PacketParts) × (packet_at bytes ≡ Some p) × Says bytes p

-- No spelling begins another.
abbrev pub NoneBeginsAnother : Type 0
NoneBeginsAnother =
    (p q : PacketParts) (more : List ℕ) → IsPacket p → IsPacket q → spelling p ++ more ≡ spelling q
    → (more ≡ []) × (p ≡ q)

-- No body has more bytes than its kind allows.
abbrev pub LengthsAreBounded : Type 0
LengthsAreBounded =
    (b : Body) → IsTrue (is_body b) → KeepsState b → length_of b ≤ length_limit (kind_of b)

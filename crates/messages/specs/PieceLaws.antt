-- What is promised of pieces.
use Rattle.std.specs.Prelude.{◌≡◌, ◌⊎◌, ℕ, Bool, true, false, ◌==◌, ◌&&◌, if◌then◌else◌, List, [], ◌∷◌, length, Some, Contains}
use Rattle.messages.specs.declared.packet.PacketParts.{PacketParts}
use Rattle.messages.specs.declared.piece.Tag.{Tag}
use Rattle.messages.specs.declared.piece.PieceParts.{PieceParts}
use Rattle.messages.specs.declared.frame.Frame.{Frame}
use Rattle.messages.specs.declared.frame.Frame.TheVariants.{Whole, Piece}
use Rattle.messages.specs.declared.places.PlaceSet.{PlaceSet}
use Rattle.messages.specs.Assemblies.{Row}
use Rattle.messages.specs.Bodies.{spelled_body, length_of, body_at}
use Rattle.messages.specs.Laws.{IsPacket}
use Rattle.messages.specs.Pieces.{is_cut, tag_in, tag_of, places, bytes_at, pieces_of, frames_of}
use Rattle.messages.specs.Assemblies.{Waits, Gives, completed_body, packet_of, look_by_body, look_at_piece, rows_after_piece, has_tag, look_at_frame}

-- A piece of a body of these bytes, whoever sends it.
pub record IsPartOf (tag : Tag) (bytes : List ℕ) (q : PieceParts) : Type 0 where
  pub tag_is : q.tag ≡ tag
  pub bytes_are : q.bytes ≡ bytes_at bytes q.at

-- Some piece is of this place, and so of each of these places.
abbrev pub has_place : List PieceParts → ℕ → Bool
has_place [] at = false
has_place (q ∷ qs) at = if q.at == at then true else has_place qs at

-- Each of these places has a piece.
abbrev pub has_places : List PieceParts → List ℕ → Bool
has_places qs [] = true
has_places qs (at ∷ ats) = has_place qs at && has_places qs ats

-- What taking these leaves, the newest first.
abbrev pub all_taken : List Row → List PieceParts → List Row
all_taken rows [] = rows
all_taken rows (q ∷ qs) = rows_after_piece (all_taken rows qs) q

-- The pieces of any bytes, in any order and with repeats, give what the bytes say at the last place
-- that lacked one, and nothing before.
abbrev pub PiecesGiveTheBytes : Type 0
PiecesGiveTheBytes =
    (tag : Tag) (bytes : List ℕ) → length bytes ≡ tag.length → (rows : List Row)
    → has_tag tag rows ≡ false
    → (qs : List PieceParts) → ((x : PieceParts) → Contains qs x → IsPartOf tag bytes x)
    → has_places qs (places tag.length) ≡ false
    → (q : PieceParts) → IsPartOf tag bytes q
    → look_at_piece (all_taken rows qs) q
    ≡ (if has_places (q ∷ qs) (places tag.length) then look_by_body q (Some bytes) else Waits)

-- The pieces of a packet, in any order and with repeats, give it at the last place that lacked one.
abbrev pub PiecesGiveThePacket : Type 0
PiecesGiveThePacket =
    (p : PacketParts) → IsPacket p → is_cut p.body ≡ true → (rows : List Row)
    → has_tag (tag_of p.body) rows ≡ false
    → (qs : List PieceParts) → ((x : PieceParts) → Contains qs x → Contains (pieces_of p) x)
    → has_places qs (places (length_of p.body)) ≡ false
    → (q : PieceParts) → Contains (pieces_of p) q
    → look_at_piece (all_taken rows qs) q
    ≡ (if has_places (q ∷ qs) (places (length_of p.body)) then Gives p else Waits)

-- A piece gives this packet: it fills the last place of its tag, and the bytes in order are a body
-- with that tag, which the packet has, with the ends of the piece.
pub record GivesThis (rows : List Row) (q : PieceParts) (p : PacketParts) : Type 0 where
  pub bytes : List ℕ
  pub whole : completed_body rows q ≡ Some bytes
  pub body : body_at q.tag.whole bytes ≡ Some p.body
  pub tag_is : tag_in p.body q.tag.length ≡ q.tag
  pub packet : p ≡ packet_of q p.body

-- That is so exactly where looking gives the packet.
abbrev pub OnlyWholeBodiesAreGiven : Type 0
OnlyWholeBodiesAreGiven =
    (rows : List Row) (q : PieceParts) (p : PacketParts)
    → (look_at_piece rows q ≡ Gives p → GivesThis rows q p)
    × (GivesThis rows q p → look_at_piece rows q ≡ Gives p)

-- Among these packets, a tag names one body.
abbrev pub OneBodyOfEachTag : List PacketParts → Type 0
OneBodyOfEachTag sent =
    (p q : PacketParts) → Contains sent p → Contains sent q → is_cut p.body ≡ true
    → is_cut q.body ≡ true → tag_of p.body ≡ tag_of q.body → p.body ≡ q.body

-- All that were sent are packets within their ranges.
abbrev pub ArePackets : List PacketParts → Type 0
ArePackets sent = (p : PacketParts) → Contains sent p → IsPacket p

-- A place is filled with bytes of one of these packets, which was cut.
pub record WasCut (sent : List PacketParts) (tag : Tag) (at : ℕ) (bytes : List ℕ) : Type 0 where
  pub packet : PacketParts
  pub was_sent : Contains sent packet
  pub cut : is_cut packet.body ≡ true
  pub tag_is : tag_of packet.body ≡ tag
  pub bytes_are : bytes_at (spelled_body packet.body) at ≡ bytes

-- Each filled place of a tag has bytes of a packet that was sent and cut.
abbrev pub AreCut : List PacketParts → Tag → List PlaceSet → Type 0
AreCut sent tag [] = Unit {0}
AreCut sent tag (f ∷ fs) = WasCut sent tag f.at f.bytes × AreCut sent tag fs

-- What has come together is of these packets alone, as it is of a node to which nothing came.
abbrev pub WasSent : List PacketParts → List Row → Type 0
WasSent sent [] = Unit {0}
WasSent sent (row ∷ rows) = AreCut sent row.tag row.filled × WasSent sent rows

-- A piece of a packet that was cut.
abbrev pub IsPieceOf : PacketParts → PieceParts → Type 0
IsPieceOf p q = (is_cut p.body ≡ true) × Contains (pieces_of p) q

-- A piece of one of these packets gives nothing yet or that packet, and what it leaves is of these
-- packets again.
abbrev pub OnlySentComesTogether : Type 0
OnlySentComesTogether =
    (sent : List PacketParts) → ArePackets sent → OneBodyOfEachTag sent → (rows : List Row)
    → WasSent sent rows
    → (p : PacketParts) → Contains sent p → (q : PieceParts) → IsPieceOf p q
    → ((look_at_piece rows q ≡ Waits) ⊎ (look_at_piece rows q ≡ Gives p))
    × WasSent sent (rows_after_piece rows q)

-- What a frame leaves: a piece is taken, and a whole packet leaves what has come together as it
-- was.
abbrev pub left_by : List Row → Frame → List Row
left_by rows (Whole p) = rows
left_by rows (Piece q) = rows_after_piece rows q

-- What has come together of these frames, the newest first, where nothing had.
abbrev pub rows_of_frames : List Frame → List Row
rows_of_frames [] = []
rows_of_frames (f ∷ fs) = left_by (rows_of_frames fs) f

-- Each is a frame of one of these packets.
abbrev pub AreFramesOf : List PacketParts → List Frame → Type 0
AreFramesOf sent fs =
    (f : Frame) → Contains fs f → (p : PacketParts) × Contains sent p × Contains (frames_of p) f

-- A frame gives one of these packets, of which it is a frame: the ends are its own.
pub record GivesOneOf (sent : List PacketParts) (rows : List Row) (f : Frame) : Type 0 where
  pub packet : PacketParts
  pub was_sent : Contains sent packet
  pub is_frame : Contains (frames_of packet) f
  pub gives : look_at_frame rows f ≡ Gives packet

-- Whatever frames of some packets came before, in any order and with any repeats and losses, a
-- frame of one of them gives nothing yet, or one of them.
abbrev pub OnlySentIsGiven : Type 0
OnlySentIsGiven =
    (sent : List PacketParts) → ArePackets sent → OneBodyOfEachTag sent
    → (f : Frame) (fs : List Frame) → AreFramesOf sent (f ∷ fs)
    → (look_at_frame (rows_of_frames fs) f ≡ Waits) ⊎ GivesOneOf sent (rows_of_frames fs) f

-- What comes together of the pieces that a node takes.
use Rattle.std.specs.Prelude.{◌≡◌, ◌⊎◌, ℕ, ◌-◌, Bool, true, false, ◌==◌, if◌then◌else◌, List, [], ◌∷◌, ◌++◌, length, drop, Option, Some, None, Result, Ok, Err}
use Rattle.fc_base.specs.declared.fault.Fault.{Fault}
use Rattle.fc_base.specs.declared.fault.Fault.TheVariants.{FrameBadField, NoMemory}
use Rattle.messages.specs.declared.limits.TheConstants.{MAX_TAGS}
use Rattle.messages.specs.declared.body.Body.{Body}
use Rattle.messages.specs.declared.packet.PacketParts.{PacketParts}
use Rattle.messages.specs.declared.piece.Tag.{Tag}
use Rattle.messages.specs.declared.piece.PieceParts.{PieceParts}
use Rattle.messages.specs.declared.places.PlaceSet.{PlaceSet}
use Rattle.messages.specs.declared.frame.Frame.{Frame}
use Rattle.messages.specs.declared.frame.Frame.TheVariants.{Whole, Piece}
use Rattle.messages.specs.Bodies.{body_at}
use Rattle.messages.specs.Tags.{is_tag}
use Rattle.messages.specs.Pieces.{tag_in, places}

-- A tag, and its filled places in order of arrival.
pub record Row : Type 0 where
  pub tag : Tag
  pub filled : List PlaceSet

-- The bytes at a place, where it is filled.
abbrev pub filled_at : List PlaceSet → ℕ → Option (List ℕ)
filled_at [] at = None
filled_at (f ∷ fs) at = if f.at == at then Some f.bytes else filled_at fs at

-- A piece fills its place, and a filled place stays as it is.
abbrev pub unless_filled : Option (List ℕ) → PieceParts → List PlaceSet → List PlaceSet
unless_filled None q fs = fs ++ record { at = q.at; bytes = q.bytes } ∷ []
unless_filled (Some bytes) q fs = fs

-- The filled places of a tag, with a piece of it.
abbrev pub fill : PieceParts → List PlaceSet → List PlaceSet
fill q fs = unless_filled (filled_at fs q.at) q fs

-- The bytes at these places one after another, where all are filled.
abbrev pub after_these : Option (List ℕ) → Option (List ℕ) → Option (List ℕ)
after_these None rest = None
after_these (Some bytes) None = None
after_these (Some bytes) (Some rest) = Some (bytes ++ rest)

-- The bytes at these places in order, where all are filled.
abbrev pub joined_bytes : List PlaceSet → List ℕ → Option (List ℕ)
joined_bytes fs [] = Some []
joined_bytes fs (at ∷ ats) = after_these (filled_at fs at) (joined_bytes fs ats)

-- The filled places of a tag.
abbrev pub filled_of : Tag → List Row → List PlaceSet
filled_of tag [] = []
filled_of tag (row ∷ rows) = if is_tag row.tag tag then row.filled else filled_of tag rows

-- The filled places of a piece's tag, once it is there too.
abbrev pub with_piece : List Row → PieceParts → List PlaceSet
with_piece rows q = fill q (filled_of q.tag rows)

-- The whole body that a piece completes.
abbrev pub completed_body : List Row → PieceParts → Option (List ℕ)
completed_body rows q = joined_bytes (with_piece rows q) (places q.tag.length)

-- What a piece gives: nothing yet, a packet, or bytes that aren't a packet with the tag.
pub data Look : Type 0 where
  Waits : Look
  Gives : PacketParts → Look
  NoPacket : Look

-- The ends of a packet are those of the piece that completes it.
abbrev pub packet_of : PieceParts → Body → PacketParts
packet_of q b = record { from = q.from; to = q.to; body = b }

-- A packet with a body whose tag is that of the piece; another body isn't a packet with it.
abbrev pub of_tag : PieceParts → Option Body → Look
of_tag q None = NoPacket
of_tag q (Some b) = if is_tag (tag_in b q.tag.length) q.tag then Gives (packet_of q b) else NoPacket

-- What a piece gives by the bytes that it completes, if it completes any.
abbrev pub look_by_body : PieceParts → Option (List ℕ) → Look
look_by_body q None = Waits
look_by_body q (Some bytes) = of_tag q (body_at q.tag.whole bytes)

-- What a piece gives behind those that have come.
abbrev pub look_at_piece : List Row → PieceParts → Look
look_at_piece rows q = look_by_body q (completed_body rows q)

-- What has come together of pieces, without the row of a tag.
abbrev pub without_tag : Tag → List Row → List Row
without_tag tag [] = []
without_tag tag (row ∷ rows) = if is_tag row.tag tag then rows else row ∷ without_tag tag rows

-- A tag's row is there.
abbrev pub has_tag : Tag → List Row → Bool
has_tag tag [] = false
has_tag tag (row ∷ rows) = if is_tag row.tag tag then true else has_tag tag rows

-- A tag has these places filled.
abbrev pub with_row_replaced : Tag → List PlaceSet → List Row → List Row
with_row_replaced tag fs [] = []
with_row_replaced tag fs (row ∷ rows) =
    if is_tag row.tag tag then record { tag = row.tag; filled = fs } ∷ rows
    else row ∷ with_row_replaced tag fs rows

-- The newest 128 rows, and no older ones.
abbrev pub newest : List Row → List Row
newest rows = drop (length rows - MAX_TAGS) rows

-- The rows where a tag has these places filled; a new tag is the newest row.
abbrev pub with_row : Bool → Tag → List PlaceSet → List Row → List Row
with_row true tag fs rows = with_row_replaced tag fs rows
with_row false tag fs rows = newest (rows ++ record { tag = tag; filled = fs } ∷ [])

-- What taking a piece leaves: a completed tag goes, else the piece has filled its place.
abbrev pub rows_after_body : Option (List ℕ) → PieceParts → List PlaceSet → List Row → List Row
rows_after_body None q fs rows = with_row (has_tag q.tag rows) q.tag fs rows
rows_after_body (Some bytes) q fs rows = without_tag q.tag rows

-- The rows behind a piece.
abbrev pub rows_after_piece : List Row → PieceParts → List Row
rows_after_piece rows q = rows_after_body (completed_body rows q) q (with_piece rows q) rows

-- A piece is kept: it fills a place that was empty, and not the last one.
pub record IsPieceKept (rows : List Row) (q : PieceParts) : Type 0 where
  pub empty : filled_at (filled_of q.tag rows) q.at ≡ None
  pub waits : completed_body rows q ≡ None

-- What a frame gives to a node at which this has come together.
abbrev pub look_at_frame : List Row → Frame → Look
look_at_frame rows (Whole p) = Gives p
look_at_frame rows (Piece q) = look_at_piece rows q

-- What looking answers: the packet or that there is none yet, unless memory ran out, or that the
-- bytes are no packet with the tag.
abbrev pub LookAnswers : Result (Option PacketParts) Fault → Look → Type 0
LookAnswers (Ok o) Waits = o ≡ None
LookAnswers (Ok o) (Gives p) = o ≡ Some p
LookAnswers (Ok o) NoPacket = ⊥
LookAnswers (Err f) Waits = ⊥
LookAnswers (Err f) (Gives p) = f ≡ NoMemory
LookAnswers (Err f) NoPacket = (f ≡ FrameBadField) ⊎ (f ≡ NoMemory)

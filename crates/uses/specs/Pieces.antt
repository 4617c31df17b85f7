-- Two job files that are cut into two pieces each, which come in another order, twice, or mixed:
-- instances of the laws of pieces.
use Rattle.std.specs.Prelude.{◌≡◌, ◌⊎◌, ℕ, true, false, List, [], ◌∷◌, ◌++◌, length, Some, All, Contains}
use Rattle.messages.specs.declared.frame.Frame.{Frame}
use Rattle.messages.specs.declared.frame.Frame.TheVariants.{Piece}
use Rattle.messages.specs.declared.packet.PacketParts.{PacketParts}
use Rattle.messages.specs.declared.piece.PieceParts.{PieceParts}
use Rattle.messages.specs.declared.piece.Tag.{Tag}
use Rattle.messages.specs.Assemblies.{Row, Waits, Gives, look_by_body, look_at_piece, look_at_frame, rows_after_piece, has_tag}
use Rattle.messages.specs.Bodies.{spelled_body, length_of}
use Rattle.messages.specs.FrameBytes.{frame_spelling, frame_at, frame_faults, IsShort}
use Rattle.messages.specs.FrameLaws.{IsFrame, IsReadable, SaysFrame}
use Rattle.messages.specs.FramesOf.{spelled_frames, AreFew}
use Rattle.messages.specs.Laws.{IsPacket, IsBytes}
use Rattle.messages.specs.PieceLaws.{IsPartOf, has_places, all_taken, GivesThis, ArePackets, OneBodyOfEachTag, WasSent, IsPieceOf, AreFramesOf, GivesOneOf, rows_of_frames}
use Rattle.messages.specs.Pieces.{is_cut, tag_of, places, piece_at, pieces_of, frames_of}
use Rattle.uses.specs.Packets.{long_packet}

-- The first piece of the job file of a run has 1,024 bytes of the body, and the last one has
-- eight.
abbrev pub first_piece : ℕ → PieceParts
first_piece run = piece_at (long_packet run) 0

abbrev pub last_piece : ℕ → PieceParts
last_piece run = piece_at (long_packet run) 1024

-- The tag of the pieces of a run's job file, and the bytes of the body.
abbrev pub tag : ℕ → Tag
tag run = tag_of (long_packet run).body

abbrev pub bytes : ℕ → List ℕ
bytes run = spelled_body (long_packet run).body

-- What has come together where the first piece of run 2 came.
abbrev pub rows : List Row
rows = record { tag = tag 2; filled = record { at = 0; bytes = (first_piece 2).bytes } ∷ [] } ∷ []

-- The last piece of run 1 came twice, and then the first one comes: that gives all bytes.
pub record GivesTheBytes : Type 0 where
  pub length_is : length (bytes 1) ≡ (tag 1).length
  pub new : has_tag (tag 1) rows ≡ false
  pub parts : (q : PieceParts) → Contains (last_piece 1 ∷ last_piece 1 ∷ []) q
      → IsPartOf (tag 1) (bytes 1) q
  pub lacks : has_places (last_piece 1 ∷ last_piece 1 ∷ []) (places (tag 1).length) ≡ false
  pub part : IsPartOf (tag 1) (bytes 1) (first_piece 1)
  pub gives : look_at_piece (all_taken rows (last_piece 1 ∷ last_piece 1 ∷ [])) (first_piece 1)
      ≡ look_by_body (first_piece 1) (Some (bytes 1))

-- The first piece of run 1, behind the last one that came twice, gives the packet. The last piece
-- gives nothing as long as the first one lacks.
pub record GivesThePacket : Type 0 where
  pub packet : IsPacket (long_packet 1)
  pub cut : is_cut (long_packet 1).body ≡ true
  pub new : has_tag (tag 1) rows ≡ false
  pub pieces : (q : PieceParts) → Contains (last_piece 1 ∷ last_piece 1 ∷ []) q
      → Contains (pieces_of (long_packet 1)) q
  pub lacks : has_places (last_piece 1 ∷ last_piece 1 ∷ [])
      (places (length_of (long_packet 1).body)) ≡ false
  pub piece : Contains (pieces_of (long_packet 1)) (first_piece 1)
  pub gives : look_at_piece (all_taken rows (last_piece 1 ∷ last_piece 1 ∷ [])) (first_piece 1)
      ≡ Gives (long_packet 1)
  pub waits : look_at_piece (all_taken rows (last_piece 1 ∷ [])) (last_piece 1) ≡ Waits

-- Where the first piece of run 1 fills the last place that lacked one, it gives the packet; and
-- that is the one whose body the bytes in order are.
pub record IsGivenWhole : Type 0 where
  pub gives : look_at_piece (rows_after_piece rows (last_piece 1)) (first_piece 1)
      ≡ Gives (long_packet 1)
  pub whole : GivesThis (rows_after_piece rows (last_piece 1)) (first_piece 1) (long_packet 1)

-- The packets of both runs are sent.
abbrev pub sent : List PacketParts
sent = long_packet 1 ∷ long_packet 2 ∷ []

-- The first piece of run 2 and the last one of run 1 have come: the first one of run 1 gives
-- nothing or its packet, and leaves what was sent.
pub record IsOfThoseSent : Type 0 where
  pub packets : ArePackets sent
  pub one_body : OneBodyOfEachTag sent
  pub came : WasSent sent (rows_after_piece rows (last_piece 1))
  pub was_sent : Contains sent (long_packet 1)
  pub piece : IsPieceOf (long_packet 1) (first_piece 1)
  pub gives :
      ((look_at_piece (rows_after_piece rows (last_piece 1)) (first_piece 1) ≡ Waits)
      ⊎ (look_at_piece (rows_after_piece rows (last_piece 1)) (first_piece 1)
      ≡ Gives (long_packet 1)))
      × WasSent sent (rows_after_piece (rows_after_piece rows (last_piece 1)) (first_piece 1))

-- The frames that came, the newest first: the last piece of run 1, and before it the first one of
-- run 2.
abbrev pub came : List Frame
came = Piece (last_piece 1) ∷ Piece (first_piece 2) ∷ []

-- The first piece of run 1, behind these, gives nothing or a packet that was sent.
pub record GivesOneThatWasSent : Type 0 where
  pub packets : ArePackets sent
  pub one_body : OneBodyOfEachTag sent
  pub frames : AreFramesOf sent (Piece (first_piece 1) ∷ came)
  pub gives : (look_at_frame (rows_of_frames came) (Piece (first_piece 1)) ≡ Waits)
      ⊎ GivesOneOf sent (rows_of_frames came) (Piece (first_piece 1))

-- The two pieces of a packet can be read, and are few and short.
pub record AreReadableAndFew : Type 0 where
  pub packet : IsPacket (long_packet 1)
  pub pieces : frames_of (long_packet 1) ≡ Piece (first_piece 1) ∷ Piece (last_piece 1) ∷ []
  pub readable : All IsReadable (frames_of (long_packet 1))
  pub few : AreFew (long_packet 1) (spelled_frames (long_packet 1))

-- The last piece is read back from its bytes.
pub record PieceIsReadBack : Type 0 where
  pub frame : IsFrame (Piece (last_piece 1))
  pub short : IsShort (Piece (last_piece 1))
  pub faultless : frame_faults (frame_spelling (Piece (last_piece 1))) ≡ []
  pub read : frame_at (frame_spelling (Piece (last_piece 1))) ≡ Some (Piece (last_piece 1))

-- The bytes of the last piece begin those of no other frame, and of itself with nothing behind
-- them.
pub record PieceBeginsNoOther : Type 0 where
  pub frame : IsFrame (Piece (last_piece 1))
  pub itself : frame_spelling (Piece (last_piece 1)) ++ []
      ≡ frame_spelling (Piece (last_piece 1))
  pub no_other : (g : Frame) (more : List ℕ) → IsFrame g
      → frame_spelling (Piece (last_piece 1)) ++ more ≡ frame_spelling g
      → (more ≡ []) × (Piece (last_piece 1) ≡ g)

-- The bytes of the last piece: the letters FC, version 1, kind 17, from 8, to 0, 41 bytes more; a
-- piece of a Jobs, of run 1, of no attempt, server or job, of 1,032 bytes, at 1,024; and its eight
-- bytes.
abbrev pub piece_bytes : List ℕ
piece_bytes = 70 ∷ 67 ∷ 1 ∷ 17 ∷ 0 ∷ 0 ∷ 0 ∷ 8 ∷ 0 ∷ 0 ∷ 0 ∷ 0 ∷ 0 ∷ 0 ∷ 0 ∷ 41
    ∷ 1 ∷ 0 ∷ 0 ∷ 0 ∷ 0 ∷ 0 ∷ 0 ∷ 0 ∷ 1 ∷ 0 ∷ 0 ∷ 0 ∷ 0 ∷ 0 ∷ 0 ∷ 0 ∷ 0 ∷ 0 ∷ 0 ∷ 0 ∷ 0
    ∷ 0 ∷ 0 ∷ 0 ∷ 0 ∷ 0 ∷ 0 ∷ 4 ∷ 8 ∷ 0 ∷ 0 ∷ 4 ∷ 0
    ∷ 97 ∷ 97 ∷ 97 ∷ 97 ∷ 97 ∷ 97 ∷ 97 ∷ 10 ∷ []

-- The bytes of the last piece say a frame, which is that piece.
pub record SaysAFrame : Type 0 where
  pub are_bytes : IsBytes piece_bytes
  pub faultless : frame_faults piece_bytes ≡ []
  pub says : (f : Frame) × (frame_at piece_bytes ≡ Some f) × SaysFrame piece_bytes f
  pub says_this : frame_at piece_bytes ≡ Some (Piece (last_piece 1))

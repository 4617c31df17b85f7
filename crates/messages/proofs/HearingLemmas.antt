-- What a piece leaves of what has come together, for those who hear frames, and the frames that they send.
use Rattle.std.proofs.Common.{◌≡◌, refl, sym, ◌∙◌, ap, ℕ, List, [], ◌∷◌, ◌++◌, Option, Some, None}
use Rattle.std.specs.Prelude.{if◌then◌else◌, is_some, map}
use Rattle.std.specs.List.{flat_map}
use Rattle.std.proofs.lemmas.List.{map-append}
use Rattle.fc_base.specs.declared.fault.Fault.{Fault}
use Rattle.messages.specs.declared.packet.PacketParts.{PacketParts}
use Rattle.messages.specs.declared.piece.PieceParts.{PieceParts}
use Rattle.messages.specs.declared.places.PlaceSet.{PlaceSet}
use Rattle.messages.specs.Assemblies as looks
use Rattle.messages.specs.Assemblies.{Row, Gives, look_at_piece, look_by_body, completed_body, with_piece, rows_after_piece, rows_after_body, without_tag}
use Rattle.messages.specs.FrameBytes.{frame_spelling}
use Rattle.messages.specs.FramesOf.{spelled_frames}
use Rattle.messages.specs.Pieces.{frames_of}

-- a piece that fills the last place takes the tag out
whole_gone : (q : PieceParts) (fs : List PlaceSet) (rows : List Row) (body : Option (List ℕ)) → (look_by_body q body ≡ looks.Waits → ⊥)
    → rows_after_body body q fs rows ≡ without_tag q.tag rows
whole_gone q fs rows None ne = absurd (ne refl)
whole_gone q fs rows (Some bytes) ne = refl

gone : (rows : List Row) (q : PieceParts) → (look_at_piece rows q ≡ looks.Waits → ⊥) → rows_after_piece rows q ≡ without_tag q.tag rows
gone rows q ne = whole_gone q (with_piece rows q) rows (completed_body rows q) ne

pub given_gone : (rows : List Row) (q : PieceParts) (p : PacketParts) → look_at_piece rows q ≡ Gives p → rows_after_piece rows q ≡ without_tag q.tag rows
given_gone rows q p is = gone rows q (λ e. waits_no (sym is ∙ e))
  where
    waits_no : Gives p ≡ looks.Waits → ⊥
    waits_no e = cc

pub spoiled_gone : (rows : List Row) (q : PieceParts) → look_at_piece rows q ≡ looks.NoPacket → rows_after_piece rows q ≡ without_tag q.tag rows
spoiled_gone rows q is = gone rows q (λ e. waits_no (sym is ∙ e))
  where
    waits_no : looks.NoPacket ≡ looks.Waits → ⊥
    waits_no e = cc

-- a packet that is refused leaves what has come together
pub refused_piece : (rows : List Row) (q : PieceParts) (x : Option Fault) (fault : Fault) → x ≡ Some fault
    → (if is_some x then rows else rows_after_piece rows q) ≡ rows
refused_piece rows q None fault h = absurd cc
refused_piece rows q (Some f) fault h = refl

-- the frames of packets, spelled
pub frames_spelled : (ps : List PacketParts) → flat_map spelled_frames ps ≡ map frame_spelling (flat_map frames_of ps)
frames_spelled [] = refl
frames_spelled (p ∷ ps) = ap (λ fs. spelled_frames p ++ fs) (frames_spelled ps) ∙ sym (map-append frame_spelling (frames_of p) (flat_map frames_of ps))

-- What a server sends is short: each packet in one frame.
use Rattle.std.proofs.Common.{◌≡◌, refl, ℕ, ◌≤◌, arith, Bool, true, false, List, [], ◌∷◌, length}
use Rattle.std.specs.Prelude.{All, Contains, map, nat_lt, if◌then◌else◌}
use Rattle.std.specs.List.{AllByRecursion, flat_map}
use Rattle.std.proofs.lemmas.Bool.Decides.{nat_tests}
use Rattle.std.proofs.lemmas.List.{length-append}
use Rattle.std.proofs.lemmas.List.Elements.{Contains-append_right, All-append, All-nil}
use Rattle.messages.specs.declared.limits.TheConstants.{CHUNK_LIMIT, MAX_FRAME}
use Rattle.messages.specs.declared.kind.PacketKind.{PacketKind}
use Rattle.messages.specs.declared.kind.PacketKind.TheVariants as kinds
use Rattle.messages.specs.declared.packet.PacketParts.{PacketParts}
use Rattle.messages.specs.declared.frame.Frame.TheVariants.{Whole, Piece}
use Rattle.messages.specs.Kinds.{is_of_server}
use Rattle.messages.specs.Bodies.{kind_of, length_of, length_limit}
use Rattle.messages.specs.FrameBytes.{frame_spelling}
use Rattle.messages.specs.FrameLaws.{FramesAreFew}
use Rattle.messages.specs.FramesOf.{spelled_frames}
use Rattle.messages.specs.Laws.{IsPacket, LengthsAreBounded}
use Rattle.messages.specs.Pieces.{pieces_of}
use Rattle.server_core.specs.Answers.{packets}
use Rattle.server_core.specs.Bounds.{FramesAreShort}
use Rattle.server_core.specs.Laws.{PacketsAreFew, PacketsAreInRange}
use Rattle.server_core.specs.Sent.{PacketsGoToClient}
use Rattle.fc_base.proofs.ListLemmas.{first_of}
use Rattle.server_core.proofs.BodyParts.{body_in_range}

short_kind : (kind : PacketKind) → is_of_server kind ≡ true → length_limit kind ≤ CHUNK_LIMIT
short_kind kinds.JobsOk h = omega arith
short_kind kinds.Started h = omega arith
short_kind kinds.State h = omega arith
short_kind kinds.NoState h = omega arith
short_kind kinds.Stopped h = omega arith
short_kind kinds.WantState h = omega arith
short_kind kinds.Report h = omega arith
short_kind kinds.Refused h = omega arith
short_kind _ h = cc

one_if : (p : PacketParts) (cut : Bool) → cut ≡ false → length (map frame_spelling (if cut then map Piece (pieces_of p) else Whole p ∷ [])) ≡ 1
one_if p true e = cc
one_if p false e = refl

uncut : (n : ℕ) → n ≤ CHUNK_LIMIT → nat_lt CHUNK_LIMIT n ≡ false
uncut n h = grind (arith, nat_tests, h)

one_frame : LengthsAreBounded → (p : PacketParts) → IsPacket p → is_of_server (kind_of p.body) ≡ true → length (spelled_frames p) ≡ 1
one_frame bounded p h k = one_if p (nat_lt CHUNK_LIMIT (length_of p.body))
    (uncut (length_of p.body) (omega (arith, bounded p.body (body_in_range p h) h.state, short_kind (kind_of p.body) k)))

as_many : LengthsAreBounded → (ps : List PacketParts) → AllByRecursion IsPacket ps → ((p : PacketParts) → Contains ps p → is_of_server (kind_of p.body) ≡ true)
    → length (flat_map spelled_frames ps) ≡ length ps
as_many bounded [] h k = refl
as_many bounded (p ∷ ps) h k = omega (
  arith,
  length-append (spelled_frames p) (flat_map spelled_frames ps),
  one_frame bounded p h.0 (k p (first_of p ps)),
  as_many bounded ps h.1 (λ q c. k q (Contains-append_right (p ∷ []) ps q c)),
)

all_short : FramesAreFew → (ps : List PacketParts) → AllByRecursion IsPacket ps → All (λ frame. length frame ≤ MAX_FRAME) (flat_map spelled_frames ps)
all_short few [] h = All-nil (λ (frame : List ℕ). length frame ≤ MAX_FRAME)
all_short few (p ∷ ps) h =
    All-append (λ (frame : List ℕ). length frame ≤ MAX_FRAME) (spelled_frames p) (flat_map spelled_frames ps) (few p h.0).short (all_short few ps h.1)

pub frames_are_short : PacketsAreFew → PacketsAreInRange → PacketsGoToClient → FramesAreFew → LengthsAreBounded → FramesAreShort
frames_are_short few ranges kinds frames bounded o past e i h =
    let ps = packets o past e in
    record {
      few = omega (arith, few o past e, as_many bounded ps (ranges o past e i h) (λ p c. (kinds o past e p c).kind));
      short = all_short frames ps (ranges o past e i h);
    }

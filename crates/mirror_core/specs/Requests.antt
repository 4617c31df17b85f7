-- What the client asks of a mirror.
use Rattle.std.specs.Prelude.{Bool, ◌&&◌, if◌then◌else◌, Option, Some, None, IsTrue}
use Rattle.verify_state.specs.State.{IsState}
use Rattle.messages.specs.declared.packet.PacketParts.{PacketParts}
use Rattle.messages.specs.declared.body.Body.{Body}
use Rattle.messages.specs.declared.body.Body.TheVariants as bodies
use Rattle.messages.specs.declared.frame.Frame.{Frame}
use Rattle.messages.specs.declared.frame.Frame.TheVariants.{Whole, Piece}
use Rattle.messages.specs.Nodes.{is_client, is_mirror}
use Rattle.messages.specs.Ranges.{is_generation}
use Rattle.mirror_core.specs.declared.request.Request.{Request}
use Rattle.mirror_core.specs.declared.request.Request.TheVariants.{Copy, Fetch}

-- What a packet asks for: a Copy, that its state is kept; a Fetch, that its generation is granted.
-- No other kind is for a mirror.
abbrev pub asked_by : Body → Option Request
asked_by (bodies.Copy state) = Some (Copy state)
asked_by (bodies.Fetch generation) = Some (Fetch generation)
asked_by _ = None

-- The packet goes from the client to the mirror.
abbrev pub is_for_mirror : PacketParts → Bool
is_for_mirror p = is_mirror p.to && is_client p.from

-- What a frame asks of a mirror: nothing where it is a piece, or where its packet isn't for the
-- mirror, not from the client, or of another kind.
abbrev pub request_in : Frame → Option Request
request_in (Whole p) = if is_for_mirror p then asked_by p.body else None
request_in (Piece q) = None

-- What is asked for is within its ranges.
abbrev pub IsRequest : Request → Type 0
IsRequest (Copy state) = IsState state
IsRequest (Fetch generation) = IsTrue (is_generation generation)

-- The pieces of a packet's body, and the frames of a packet.
use Rattle.std.specs.Prelude.{ℕ, zero, suc, ◌+◌, Bool, nat_lt, if◌then◌else◌, List, [], ◌∷◌, take, drop, map}
use Rattle.messages.specs.declared.limits.TheConstants.{CHUNK_LIMIT}
use Rattle.messages.specs.declared.body.Body.{Body}
use Rattle.messages.specs.declared.body.Body.TheVariants.{Jobs, State, Verify, Saved}
use Rattle.messages.specs.declared.node.Node.{Node}
use Rattle.messages.specs.declared.packet.PacketParts.{PacketParts}
use Rattle.messages.specs.declared.piece.Tag.{Tag}
use Rattle.messages.specs.declared.piece.PieceParts.{PieceParts}
use Rattle.messages.specs.declared.frame.Frame.{Frame}
use Rattle.messages.specs.declared.frame.Frame.TheVariants.{Whole, Piece}
use Rattle.messages.specs.Bodies.{kind_of, length_of, spelled_body}

-- A body of more than 1,024 bytes is cut.
abbrev pub is_cut : Body → Bool
is_cut b = nat_lt CHUNK_LIMIT (length_of b)

-- The run, the attempt, the server and the job that the pieces of a body name: a body that is never
-- long enough to be cut names none.
abbrev pub run_in : Body → ℕ
run_in (Jobs run text) = run
run_in (State jobs state) = state.key.run
run_in (Verify run attempt text) = run
run_in (Saved attempt state) = state.key.run
run_in _ = 0

-- The attempt of what is cut, or 0 where it has none.
abbrev pub attempt_in : Body → ℕ
attempt_in (Verify run attempt text) = attempt
attempt_in (Saved attempt state) = attempt
attempt_in _ = 0

-- The server of what is cut, or 0 where it has none.
abbrev pub server_in : Body → ℕ
server_in (State jobs state) = state.key.server
server_in (Saved attempt state) = state.key.server
server_in _ = 0

-- The job of what is cut, or 0 where it has none.
abbrev pub job_in : Body → ℕ
job_in (State jobs state) = state.key.job
job_in (Saved attempt state) = state.key.job
job_in _ = 0

-- The tag of the pieces of a body that came in so many bytes.
abbrev pub tag_in : Body → ℕ → Tag
tag_in b len = record {
  whole = kind_of b;
  run = run_in b;
  number = attempt_in b;
  server = server_in b;
  job = job_in b;
  length = len;
}

-- The tag of the pieces of a body.
abbrev pub tag_of : Body → Tag
tag_of b = tag_in b (length_of b)

-- The places of a body of this length: the multiples of 1,024 below it.
abbrev pub places_from : ℕ → ℕ → ℕ → List ℕ
places_from zero at len = []
places_from (suc n) at len = if nat_lt at len then at ∷ places_from n (at + CHUNK_LIMIT) len else []

-- Where the pieces of so many bytes begin: at 0, and 1,024 bytes behind one another.
abbrev pub places : ℕ → List ℕ
places len = places_from len 0 len

-- The bytes of a body at a place.
abbrev pub bytes_at : List ℕ → ℕ → List ℕ
bytes_at bytes at = take CHUNK_LIMIT (drop at bytes)

-- The piece at a place of these bytes.
abbrev pub cut_at : Node → Node → Tag → List ℕ → ℕ → PieceParts
cut_at from to tag bytes at =
    record { from = from; to = to; tag = tag; at = at; bytes = bytes_at bytes at }

-- The piece of a packet at a place.
abbrev pub piece_at : PacketParts → ℕ → PieceParts
piece_at p at = cut_at p.from p.to (tag_of p.body) (spelled_body p.body) at

-- The pieces of a packet, by rising place.
abbrev pub pieces_of : PacketParts → List PieceParts
pieces_of p = map (piece_at p) (places (length_of p.body))

-- A packet goes out in one frame, or in pieces where its body is cut.
abbrev pub frames_of : PacketParts → List Frame
frames_of p = if is_cut p.body then map Piece (pieces_of p) else Whole p ∷ []

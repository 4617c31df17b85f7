-- The frames of what a server says.
use Rattle.std.specs.Prelude.{ℕ, List, [], ◌∷◌, Option, Some, None}
use Rattle.std.specs.List.{flat_map}
use Rattle.messages.specs.declared.body.Body.{Body}
use Rattle.messages.specs.FramesOf.{spelled_frames}
use Rattle.server_core.specs.Answers.{to_client}

-- The bytes of the frames that carry these bodies to the client, in their order.
abbrev pub frames_to_client : ℕ → List Body → List (List ℕ)
frames_to_client me bodies = flat_map spelled_frames (to_client me bodies)

-- The list of one body, or of none.
abbrev pub one_or_none : Option Body → List Body
one_or_none None = []
one_or_none (Some body) = body ∷ []

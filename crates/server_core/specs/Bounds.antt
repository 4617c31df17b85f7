-- How much a server sends in answer to one input.
use Rattle.std.specs.Prelude.{ℕ, ◌≤◌, List, ◌∷◌, length, All}
use Rattle.std.specs.List.{flat_map}
use Rattle.fc_base.specs.declared.limits.TheConstants.{MAX_JOBS}
use Rattle.messages.specs.declared.limits.TheConstants.{MAX_FRAME}
use Rattle.messages.specs.FramesOf.{spelled_frames}
use Rattle.server_core.specs.History.{Opening, Entry}
use Rattle.server_core.specs.Ranges.{OpensInRange, CameInRange}
use Rattle.server_core.specs.Answers.{packets}

-- At most 16 frames, of at most 1,073 bytes each.
pub record AreShort (frames : List (List ℕ)) : Type 0 where
  pub few : length frames ≤ MAX_JOBS
  pub short : All (λ frame. length frame ≤ MAX_FRAME) frames

-- A server sends at most 16 frames of at most 1,073 bytes in answer to one input, where what came
-- is within its ranges.
abbrev pub FramesAreShort : Type 0
FramesAreShort =
    (opening : Opening) (past : List Entry) (e : Entry) →
    OpensInRange opening → CameInRange (e ∷ past) →
    AreShort (flat_map spelled_frames (packets opening past e))

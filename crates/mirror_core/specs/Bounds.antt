-- How much a mirror sends in answer to one frame.
use Rattle.std.specs.Prelude.{◌≤◌, ℕ, ◌+◌, List, ◌∷◌, length, sum_by}
use Rattle.verify_state.specs.declared.table.TheConstants.{KEPT_LIMIT}
use Rattle.mirror_core.specs.declared.note.MirrorNote.{MirrorNote}
use Rattle.mirror_core.specs.History.{Entry}
use Rattle.mirror_core.specs.Laws.{CameInRange}
use Rattle.mirror_core.specs.Note.{IsNoted}
use Rattle.mirror_core.specs.Packets.{packets, frame_bytes}

-- At most 1,025 frames, of together 160,000 bytes: a grant, and a copy of each kept state.
pub record AreShort (frames : List (List ℕ)) : Type 0 where
  pub few : length frames ≤ KEPT_LIMIT + 1
  pub short : sum_by (λ frame. length frame) frames ≤ 160000

-- What an event sends is short, where what came is within its ranges.
abbrev pub FramesAreShort : Type 0
FramesAreShort =
    (opening : MirrorNote) (past : List Entry) (entry : Entry) → IsNoted opening →
    CameInRange (entry ∷ past) →
    AreShort (frame_bytes (packets opening past entry))

use Rattle.std.proofs.Common.{◌-◌, length}
use Rattle.messages.specs.Pieces.{tag_in}
use Rattle.messages.specs.FramesOf.{spelled_piece}
use Rattle.messages.proofs.FramesOfLemmas.{IsCutting}
use Rattle.messages.proofs.frames.cut.Given as goal

abbrev pub invariant-loop-at : goal.invariant-loop-at
invariant-loop-at l =
    IsCutting (spelled_piece l.packet.from l.packet.to (tag_in l.packet.body (length l.body)) l.body) (length l.body) l.at l.ends.items l.bytes.items

abbrev pub decreases-loop-at : goal.decreases-loop-at
decreases-loop-at l = length l.body - l.at

use Rattle.std.proofs.Common.{◌≡◌, ◌-◌, length, take}
use Rattle.server_core.specs.Replies.{state_frames}
use Rattle.server_core.specs.Framed.{frames_to_client}
use Rattle.server_core.specs.Kept.{EachRun, asked_before}
use Rattle.server_core.proofs.run.Run.state_frames.Given as goal

abbrev pub invariant-loop-index : goal.invariant-loop-index
invariant-loop-index l = EachRun l.self (λ w. l.frames ≡ frames_to_client l.me (state_frames w (asked_before w) 0 (take l.index w.jobs)))

abbrev pub decreases-loop-index : goal.decreases-loop-index
decreases-loop-index l = length l.self.kept - l.index

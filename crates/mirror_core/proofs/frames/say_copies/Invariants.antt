use Rattle.std.proofs.Common.{◌≡◌, [], ◌∷◌, ◌++◌, take}
use Rattle.std.specs.List.{flat_map}
use Rattle.mirror_core.specs.Packets.{copy_of, frame_bytes}
use Rattle.mirror_core.proofs.frames.say_copies.Given as goal

abbrev pub invariant-loop-state : goal.invariant-loop-state
invariant-loop-state l = l.frames ≡ l.fn.frames ++ flat_map (λ s. frame_bytes (copy_of s ∷ [])) (take l.state-index l.states)

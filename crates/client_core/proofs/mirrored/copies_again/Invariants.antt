use Rattle.std.proofs.Common.{◌≡◌, ◌++◌, take}
use Rattle.std.specs.List.{flat_map}
use Rattle.client_core.specs.Framed.{frame_bytes}
use Rattle.client_core.specs.Lives.{EachLife}
use Rattle.client_core.specs.Packets.{copy_again}
use Rattle.client_core.proofs.mirrored.copies_again.Given as goal

abbrev pub invariant-loop-state : goal.invariant-loop-state
invariant-loop-state l = EachLife l.life (λ deeds. l.frames ≡ l.fn.frames ++ frame_bytes (flat_map (copy_again deeds) (take l.state-index l.states)))

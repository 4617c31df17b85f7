use Rattle.std.proofs.Common.{◌≡◌}
use Rattle.client_core.specs.Framed.{frame_bytes}
use Rattle.client_core.specs.Packets.{to_all}
use Rattle.client_core.proofs.frames.to_all.Given as goal

abbrev pub invariant-loop-server : goal.invariant-loop-server
invariant-loop-server l = (l.body ≡ l.fn.body) × (l.frames ≡ frame_bytes (to_all l.server l.fn.body))

use Rattle.std.proofs.Common.{◌≡◌, ℕ, ◌++◌}
use Rattle.std.specs.List.{flat_map}
use Rattle.fc_base.specs.Counted.{numbers_below}
use Rattle.client_core.specs.declared.beginning.Beginning.{Beginning}
use Rattle.client_core.specs.Framed.{frame_bytes}
use Rattle.client_core.specs.Lives.{Each}
use Rattle.client_core.specs.Packets.{begin_again}
use Rattle.client_core.proofs.frames.begin_again.Given as goal

abbrev pub invariant-loop-server : goal.invariant-loop-server
invariant-loop-server l =
    (at : ℕ → Beginning) → Each l.begins (λ s b. b ≡ at s)
    → l.frames ≡ l.fn.frames ++ frame_bytes (flat_map (λ s. begin_again l.run l.text s (at s)) (numbers_below l.server))

use Rattle.std.proofs.Common.{◌≡◌, ℕ, ◌++◌}
use Rattle.std.specs.List.{flat_map}
use Rattle.fc_base.specs.Counted.{numbers_below}
use Rattle.client_core.specs.Framed.{frame_bytes}
use Rattle.client_core.specs.Lives.{Each}
use Rattle.client_core.specs.Packets.{packets_again}
use Rattle.client_core.specs.Requests.{Request}
use Rattle.client_core.specs.RequestStatus.{IsRequestKept}
use Rattle.client_core.proofs.frames.say_again.Given as goal

abbrev pub invariant-loop-server : goal.invariant-loop-server
invariant-loop-server l =
    (l.body ≡ l.fn.body)
    × ((at : ℕ → Request) → Each l.standings (λ s x. IsRequestKept x (at s))
    → l.frames ≡ l.fn.frames ++ frame_bytes (flat_map (λ s. packets_again l.fn.body s (at s)) (numbers_below l.server)))

use Rattle.std.proofs.Common.{◌≡◌, ◌++◌, Some}
use Rattle.std.specs.List.{flat_map, AllByRecursion}
use Rattle.client_core.specs.Framed.{frame_bytes}
use Rattle.client_core.specs.Lives.{EachLife, AttemptFor}
use Rattle.client_core.specs.Packets.{attempt_again}
use Rattle.client_core.proofs.life.Life.attempts_again.Given as goal

abbrev pub invariant-loop-attempt : goal.invariant-loop-attempt
invariant-loop-attempt l = EachLife l.self (λ deeds.
    AllByRecursion (λ e. AttemptFor e.0 deeds (Some e.1)) l.attempt-iterator
    × (l.frames ++ frame_bytes (flat_map (λ e. attempt_again l.servers deeds e.0) l.attempt-iterator)
    ≡ l.fn.frames ++ frame_bytes (flat_map (λ e. attempt_again l.servers deeds e.0) l.self.attempts.entries)))

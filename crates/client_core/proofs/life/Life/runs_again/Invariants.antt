use Rattle.std.proofs.Common.{◌≡◌, ◌++◌, Some}
use Rattle.std.specs.List.{flat_map, AllByRecursion}
use Rattle.client_core.specs.Framed.{frame_bytes}
use Rattle.client_core.specs.Lives.{EachLife, RunFor}
use Rattle.client_core.specs.Packets.{run_again}
use Rattle.client_core.proofs.life.Life.runs_again.Given as goal

abbrev pub invariant-loop-run : goal.invariant-loop-run
invariant-loop-run l = EachLife l.self (λ deeds.
    AllByRecursion (λ e. RunFor e.0 deeds (Some e.1)) l.run-iterator
    × (l.frames ++ frame_bytes (flat_map (λ e. run_again l.servers deeds e.0) l.run-iterator)
    ≡ l.fn.frames ++ frame_bytes (flat_map (λ e. run_again l.servers deeds e.0) l.self.runs.entries)))

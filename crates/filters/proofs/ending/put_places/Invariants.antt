use Rattle.std.proofs.Common.{take}
use Rattle.std.specs.List.{flat_map}
use Rattle.filters.specs.Written.{Puts}
use Rattle.filters.specs.EndTells.{place_bytes}
use Rattle.filters.proofs.ending.put_places.Given as goal

abbrev pub invariant-loop-end : goal.invariant-loop-end
invariant-loop-end g l =
    Puts (g.W.Output.written l.initial.writer) (g.W.Output.written l.writer) (flat_map (place_bytes l.asked) (take l.end-index l.ends))

use Rattle.std.specs.Prelude.{map}
use Rattle.std.specs.List.{range_with_len}
use Rattle.std.specs.Io.KnownBytes.{Appends}
use Rattle.ledger.specs.Places.{is_checked}
use Rattle.targets.specs.Wanted.{byte_of}
use Rattle.targets.proofs.wanted.write_wanted.Given as goal

abbrev pub invariant-loop-number : goal.invariant-loop-number
invariant-loop-number g l =
    Appends (g.W.Write.contents l.initial.writer) (g.W.Write.contents l.writer)
    (map (byte_of (is_checked l.ledger)) (range_with_len 0 l.number))

use Rattle.std.proofs.Common.{take}
use Rattle.std.specs.List.{flat_map}
use Rattle.filters.specs.Written.{Puts}
use Rattle.filters.specs.Records.{record_bytes}
use Rattle.filters.specs.Kinds.{said_number}
use Rattle.filters.specs.declared.kinds.OutRecordKind.TheVariants.{Send}
use Rattle.filters.proofs.writing.put_frames.Given as goal

abbrev pub invariant-loop-index : goal.invariant-loop-index
invariant-loop-index g l =
    Puts (g.W.Output.written l.initial.writer) (g.W.Output.written l.writer) (flat_map (record_bytes (said_number Send)) (take l.index l.fn.frames))

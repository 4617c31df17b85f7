use Rattle.std.proofs.Common.{ap, ◌∙◌, replicate, sym}
use Rattle.diagnosis.proofs.BlockLemmas.{filled_holds, mixed_holds}
use Rattle.diagnosis.proofs.diagnosing.other.Goals as goal

pub returns-in-Byte : goal.returns-in-Byte
returns-in-Byte c =
    let len = c.requires.bytes in
    filled_holds c.args.expected.now c.args.block c.args.bytes.now c.in-Byte.byte _ len
    (c.in-Byte.ensures ∙ ap (λ n. replicate n c.in-Byte.byte) (sym len)) c.filled.ensures

pub returns-in-Mixed : goal.returns-in-Mixed
returns-in-Mixed c =
    mixed_holds c.args.expected.now c.args.block c.args.bytes.now c.in-Mixed.unknown _ c.in-Mixed.ensures.0
    (sym c.in-Mixed.ensures.1) c.mixed.ensures

use Rattle.std.proofs.Common.{ap, ◌∙◌, arith}
use Rattle.diagnosis.specs.Steps.{held_write}
use Rattle.diagnosis.proofs.BlockLemmas.{unsaid, found, says_write}
use Rattle.diagnosis.proofs.whole.stamped_write.Goals as goal

pub returns-in-None : goal.returns-in-None
returns-in-None c w h =
    unsaid c.args.expected.now _ c.in-None.ensures.value (says_write c.args.expected.now c.args.bytes.now w (omega arith) h).0

pub returns-in-Some : goal.returns-in-Some
returns-in-Some c =
    found c.args.expected.now c.args.bytes.now c.in-Some.stamp _ c.requires.stamps (omega arith) c.in-Some.ensures.room c.in-Some.ensures.value
    (c.held.ensures ∙ ap (λ job. held_write job c.args.bytes.now c.in-Some.stamp.write) c.rec-rec.ensures)

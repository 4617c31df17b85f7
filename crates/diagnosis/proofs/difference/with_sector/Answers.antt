use Rattle.std.proofs.Common.{◌*◌, arith}
use Rattle.diagnosis.proofs.DifferenceLemmas.{byte_step}
use Rattle.diagnosis.proofs.difference.with_sector.Goals as goal

pub loop-i-preserved : goal.loop-i-preserved
loop-i-preserved c = record {
  value = λ others there before. byte_step c.args.bytes.now others c.args.sector.now (c.args.number * 512) c.loop-i.i c.loop-i.sum c.with_byte-sum.result (omega arith) there
      (c.loop-i.invariant.value others there before) c.with_byte-sum.ensures.value;
  few = omega arith;
  bits = omega arith;
}

use Rattle.std.proofs.Common.{arith}
use Rattle.diagnosis.proofs.KindLemmas.{fault_is_held}
use Rattle.diagnosis.proofs.diagnosing.diagnose.Goals as goal

pub returns-then-eq-clause-holds : goal.returns-then-eq-clause-holds
returns-then-eq-clause-holds c =
    fault_is_held c.args.expected.now c.args.block c.args.bytes.now c.fault.result (grind arith) c.fault.ensures

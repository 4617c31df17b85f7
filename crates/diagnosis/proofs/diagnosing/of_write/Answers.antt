use Rattle.std.proofs.Common.{subst}
use Rattle.diagnosis.specs.Held.{HoldsWrite}
use Rattle.diagnosis.proofs.KindLemmas.{own_holds}
use Rattle.diagnosis.proofs.diagnosing.of_write.Goals as goal

pub returns-then-is_own : goal.returns-then-is_own
returns-then-is_own c =
    let e = c.args.expected.now in
    let bytes = c.args.bytes.now in
    own_holds e c.args.block bytes c.args.write.seq _ (subst (HoldsWrite e bytes) (c.is_own.ensures.0 c.if-is_own.true) c.requires.held)
    c.requires.checked c.requires.faulty c.own_write.ensures

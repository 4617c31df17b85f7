use Rattle.std.proofs.Common.{ap}
use Rattle.ledger.specs.Checks.{with_block_fed}
use Rattle.ledger.proofs.CheckLemmas.{feeds}
use Rattle.ledger.proofs.check.LedgerCheck.feed.Goals as goal

pub returns-clause-seen : goal.returns-clause-seen
returns-clause-seen c place held same seen =
    feeds c.args.self.now _ place held c.args.block c.args.bytes.now c.requires.block
    (rw (c.check-verdict.ensures.left, c.note.ensures, c.check-verdict.ensures.verdict) (ap (λ k. with_block_fed k c.args.block c.args.bytes.now) c.self.view_is)) same seen

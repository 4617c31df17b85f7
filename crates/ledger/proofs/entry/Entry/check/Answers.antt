use Rattle.std.proofs.Common.{ap, ◌∙◌}
use Rattle.ledger.specs.Entries.{asks}
use Rattle.ledger.proofs.PlaceLemmas.{verdict_by}
use Rattle.ledger.proofs.entry.Entry.check.Goals as goal

pub returns-then-asks-clause-verdict : goal.returns-then-asks-clause-verdict
returns-then-asks-clause-verdict c =
    let by = verdict_by c.args.block c.args.bytes.now c.args.self.now c.asks-2.result c.if-not-asks.ensures (c.asks-2.ensures ∙ ap asks c.keep_held.ensures) in
    rw c.if-asks.true at by

pub returns-else-asks-clause-verdict : goal.returns-else-asks-clause-verdict
returns-else-asks-clause-verdict c =
    let by = verdict_by c.args.block c.args.bytes.now c.args.self.now c.asks-2.result c.if-not-asks.ensures (c.asks-2.ensures ∙ ap asks c.keep_held.ensures) in
    rw c.if-asks.false at by

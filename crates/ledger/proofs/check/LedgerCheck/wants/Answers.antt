use Rattle.std.proofs.Common.{sym, ap, ◌∙◌}
use Rattle.ledger.specs.Places.{is_checked}
use Rattle.ledger.proofs.CheckLemmas.{passes}
use Rattle.ledger.proofs.check.LedgerCheck.wants.Goals as goal

pub returns-clause-seen : goal.returns-clause-seen
returns-clause-seen c unwanted place held seen =
    passes c.args.self.now place held c.args.block (ap (λ k. is_checked k.place c.args.block) (sym c.self.view_is) ∙ sym c.wants.ensures ∙ unwanted) seen

use Rattle.std.proofs.Common.{inr, subst}
use Rattle.targets.specs.LedgerInput.{TellsNone}
use Rattle.targets.proofs.ledger_input.read_ledger.Goals as goal

pub returns-clause-none : goal.returns-clause-none
returns-clause-none g c =
    inr (
      c.in_ok-bytes.bytes.items,
      g.R.Read.remaining c.read_text.new.reader,
      c.in-Err.fault,
      c.in_ok-bytes.ensures.text,
      subst (λ l. TellsNone c.args.rec.now l c.in-Err.fault) c.deref.ensures.value c.in-Err.ensures.none,
      c.from.ensures,
    )

use Rattle.std.proofs.Common.{codes, decimal}
use Rattle.std.proofs.lemmas.Result.{on_ok_weaker}
use Rattle.targets.proofs.LedgerLineLemmas.{rest_written}
use Rattle.targets.proofs.ledger_lines.write_rest.Goals as goal

pub returns : goal.returns
returns g c =
    on_ok_weaker c.writeln.result
    (λ wrote. rest_written _ _ _ _ _ (decimal c.args.block) (codes " at-rest: wants ") _ _
    c.in_ok-write.ensures.bytes c.in_ok-write_entry.ensures c.in_ok-write_content.ensures wrote) c.writeln.ensures.bytes

use Rattle.std.proofs.Common.{refl, ◌∙◌}
use Rattle.ledger.specs.Examples.{two_runs, eights_and_zeros}
use Rattle.uses.specs.Ledgers.{cells}
use Rattle.uses.proofs.laws.ledgers.example_of_ledgers.Goals as goal

pub returns : goal.returns
returns c first second =
    let whole = c.ledger_law.ensures two_runs eights_and_zeros (cells first second) refl (refl, (refl, tt)) in
    record {
      blocks = refl;
      read = (refl, (refl, tt));
      report = whole.report ∙ c.examples.ensures.at_rest;
      behind = whole.behind;
    }

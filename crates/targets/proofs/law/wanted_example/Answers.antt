use Rattle.std.proofs.Common.{Some, refl, replicate}
use Rattle.ledger.specs.Examples.{second_run}
use Rattle.targets.specs.declared.command.Since.TheVariants.{Run}
use Rattle.targets.specs.Ledgers.{HasCome}
use Rattle.targets.specs.WantedExample.{first_asked, two_cells}
use Rattle.targets.proofs.law.wanted_example.Goals as goal

pub returns : goal.returns
returns c =
    let come : HasCome Run second_run first_asked 2 (two_cells (Some (replicate 512 0))) = record {
      blocks = refl;
      found = (((replicate 512 8, refl, refl, tt), refl), ((refl, refl), tt));
    } in
    record {
      told = refl;
      come = come;
      as_asked_is = refl;
      suffice = c.wanted_law.ensures.asked Run second_run first_asked 2 (two_cells (Some (replicate 512 0))) come;
    }

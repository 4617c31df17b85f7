use Rattle.std.proofs.Common.{subst}
use Rattle.messages.specs.Bodies.{Reads}
use Rattle.messages.proofs.reading.body_of.Goals as goal

pub returns-in-Report : goal.returns-in-Report
returns-in-Report c = rw c.in-Report.is (subst (Reads c.in_place-in-Report.result) c.report.ensures c.in_place-in-Report.ensures)

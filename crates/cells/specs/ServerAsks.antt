-- What a report asks of a server.
use Rattle.server_core.specs.Inputs.{FrameInput}
use Rattle.server_core.specs.declared.input.Input.TheVariants.{CheckDone}
use Rattle.cells.specs.Rules.{Ask, Meets}
use Rattle.cells.specs.declared.server_cell.report.Report.{Report}

-- A report has the server take the end of a check.
abbrev pub asks_of : Report → Ask FrameInput
asks_of r = Meets (CheckDone r.boot r.attempt r.job r.report)

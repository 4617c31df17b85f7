use Rattle.std.proofs.Common.{sym, ◌∙◌, ap}
use Rattle.cells.specs.declared.server_cell.task.ServerTask.TheVariants.{Issue}
use Rattle.fleet_threads.proofs.SeatLemmas.{said_so, applied, ends_by}
use Rattle.fleet_threads.proofs.asking.issue.Goals as goal

pub returns-in-Ok-clause-seat : goal.returns-in-Ok-clause-seat
returns-in-Ok-clause-seat g c =
    said_so c.said.result c.in-Ok.told.answer c.args.seat.now c.apply.new.seat c.said.ensures.issued
    (rw (c.said.ensures.last ∙ sym (ap ends_by c.in-Ok.is))
    (applied c.args.server.now c.args.seat.now (Issue c.args.job) c.apply.new.self c.apply.new.seat
    c.apply.result c.apply.ensures.ends))

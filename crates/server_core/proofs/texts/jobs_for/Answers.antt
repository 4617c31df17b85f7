use Rattle.std.proofs.Common.{inr, sym, ◌∙◌}
use Rattle.server_core.proofs.TextLemmas.{given, other, refused}
use Rattle.server_core.proofs.texts.jobs_for.Goals as goal

pub returns-in-Ok-clause-jobs : goal.returns-in-Ok-clause-jobs
returns-in-Ok-clause-jobs c =
    let jobs = given c.args.phase c.args.text.now c.in-Ok.set c.in-Ok.ensures (sym c.is_phase.ensures ∙ c.if-is_phase.true) in
    (jobs, c.legal_histories.ensures.texts c.args.phase c.args.text.now c.in-Ok.set.jobs jobs)

pub returns-in-Ok-2-clause-fault : goal.returns-in-Ok-2-clause-fault
returns-in-Ok-2-clause-fault c = inr (other c.args.phase c.args.text.now c.in-Ok.set c.in-Ok.ensures (sym c.is_phase.ensures ∙ c.if-is_phase.false))

pub returns-in-Err-clause-fault : goal.returns-in-Err-clause-fault
returns-in-Err-clause-fault c = rw c.told.ensures (refused c.args.phase c.args.text.now c.in-Err.fault c.in-Err.ensures)

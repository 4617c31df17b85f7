use Rattle.std.proofs.Common.{subst}
use Rattle.std.specs.Prelude.{IfSome, Err, Ok}
use Rattle.std.proofs.lemmas.Result.{err_from_is_err_and}
use Rattle.targets.specs.Checks.{Checks}
use Rattle.targets.proofs.JobLemmas.{checked, no_state, not_checked, nothing_said}
use Rattle.targets.proofs.drive_check.report_of.Goals as goal

pub returns-in_err-state-clause-none : goal.returns-in_err-state-clause-none
returns-in_err-state-clause-none g c =
    let p = err_from_is_err_and c.from_residual-in_err-state.result c.from_residual-in_err-state.ensures.1 in
    rw (p.1) (no_state c.args.key (g.R.Read.remaining c.args.reader.now)
    (g.R.Read.remaining c.read_job.new.reader) c.in_ok-asked.asked c.in_err-state.field-0.0 p.0 c.in_ok-asked.ensures.job c.in_err-state.ensures.none p.2)

pub returns-in_err-report-clause-report : goal.returns-in_err-report-clause-report
returns-in_err-report-clause-report g c =
    let p = err_from_is_err_and c.from_residual-in_err-report.result c.from_residual-in_err-report.ensures.1 in
    rw (p.1) (nothing_said (g.R.Read.remaining c.args.reader.now))

pub returns-in_err-report-clause-none : goal.returns-in_err-report-clause-none
returns-in_err-report-clause-none g c =
    let p = err_from_is_err_and c.from_residual-in_err-report.result c.from_residual-in_err-report.ensures.1 in
    rw (p.1) (not_checked c.args.key (g.R.Read.remaining c.args.reader.now) c.in_err-report.field-0.0 p.0
    (checked c.args.key (g.R.Read.remaining c.args.reader.now) (g.R.Read.remaining c.read_job.new.reader)
    (g.R.Read.remaining c.read_state.new.reader) c.in_ok-asked.asked c.in_ok-state.state
    (Err c.in_err-report.field-0.0) c.in_ok-asked.ensures.job c.in_ok-state.ensures.state
    (subst (λ s. IfSome (g.R.Read.remaining c.read_state.new.reader)
    (λ bytes. Checks c.args.key c.in_ok-asked.asked.rec s c.in_ok-asked.asked.fatal bytes (Err c.in_err-report.field-0.0))) c.as_ref.ensures.value
    c.in_err-report.ensures)) p.2)

pub returns-clause-report : goal.returns-clause-report
returns-clause-report g c =
    checked c.args.key (g.R.Read.remaining c.args.reader.now) (g.R.Read.remaining c.read_job.new.reader)
    (g.R.Read.remaining c.read_state.new.reader) c.in_ok-asked.asked c.in_ok-state.state
    (Ok c.in_ok-report.report) c.in_ok-asked.ensures.job c.in_ok-state.ensures.state
    (subst (λ s. IfSome (g.R.Read.remaining c.read_state.new.reader)
    (λ bytes. Checks c.args.key c.in_ok-asked.asked.rec s c.in_ok-asked.asked.fatal bytes (Ok c.in_ok-report.report))) c.as_ref.ensures.value
    c.in_ok-report.ensures)

use Rattle.std.proofs.Common.{◌∙◌, sym, Some, arith}
use Rattle.recheck.specs.Disk.{held_by}
use Rattle.recheck.specs.Expected.{expected_by}
use Rattle.recheck.specs.Faults.{is_fault}
use Rattle.uses.proofs.Losses.{counts_all, none_passes}
use Rattle.uses.proofs.checks.count_losses.Goals as goal

pub returns-in-Whole-clause-none : goal.returns-in-Whole-clause-none
returns-in-Whole-clause-none g c = λ none block lt lost.
    let job = c.args.rec.now in
    let old = g.D.Disk.file c.args.disk.now in
    let e = expected_by c.args.key job (Some c.args.state.now) in
    let counted = counts_all e old (g.D.Disk.file c.check_disk.new.disk) c.in_ok-report.report c.in_ok-report.ensures.1 (sym c.end.ensures ∙ c.in-Whole.is) in
    none_passes (is_fault e (held_by old job)) 0 job.blocks block (sym counted ∙ sym c.faults.ensures.value ∙ none) (omega arith) (omega arith)
    ((c.faults_are_losses.ensures.losses c.args.key job (Some c.args.state.now) (held_by old job) block lt).1 lost)

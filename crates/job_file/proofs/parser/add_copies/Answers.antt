use Rattle.std.proofs.Common.{◌≡◌, length, rules, arith}
use Rattle.std.proofs.lemmas.Result.{err_from_is_err_and}
use Rattle.job_file.specs.Draft.{copies_of}
use Rattle.job_file.proofs.Copies.{copy_made, copy_told, copies_made}
use Rattle.job_file.proofs.parser.add_copies.Goals as goal

pub returns-in_err-job-clause-faults : goal.returns-in_err-job-clause-faults
returns-in_err-job-clause-faults c =
    let p = err_from_is_err_and c.from_residual.result c.from_residual.ensures.1 in
    let numbered : c.len.result ≡ length c.loop.jobs.items = search rules in
    rw (p.1, p.2) (copy_told c.in_err-job.field-0.0 c.args.jobs.now.items
    (copies_of c.args.draft.now) c.loop.counter c.len.result c.args.draft.now c.loop.jobs.items
    (omega arith) c.loop.invariant numbered c.in_err-job.ensures)

pub loop-preserved : goal.loop-preserved
loop-preserved c =
    let numbered : c.len.result ≡ length c.loop.jobs.items = search rules in
    copy_made c.args.jobs.now.items (copies_of c.args.draft.now) c.loop.counter c.len.result c.args.draft.now c.loop.jobs.items c.push.new.self.items
    c.in_ok-job.job (omega arith) c.loop.invariant numbered c.in_ok-job.ensures.0 c.in_ok-job.ensures.1 c.in_ok-push.ensures.items

pub returns-clause-faults : goal.returns-clause-faults
returns-clause-faults c =
    (copies_made c.args.jobs.now.items (copies_of c.args.draft.now) c.loop.counter c.args.draft.now c.loop.jobs.items (omega arith) c.loop.invariant).0

pub returns-clause-jobs : goal.returns-clause-jobs
returns-clause-jobs c =
    (copies_made c.args.jobs.now.items (copies_of c.args.draft.now) c.loop.counter c.args.draft.now c.loop.jobs.items (omega arith) c.loop.invariant).1

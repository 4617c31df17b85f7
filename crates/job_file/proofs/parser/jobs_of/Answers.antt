use Rattle.std.proofs.lemmas.Result.{err_from_is_err_and}
use Rattle.job_file.proofs.Copies.{section_made, section_told}
use Rattle.job_file.proofs.parser.jobs_of.Goals as goal

pub returns-in_err-add_copies-clause-jobs : goal.returns-in_err-add_copies-clause-jobs
returns-in_err-add_copies-clause-jobs c =
    let p = err_from_is_err_and c.from_residual.result c.from_residual.ensures.1 in
    rw (p.1, p.2) (section_told c.in_err-add_copies.field-0.0 c.args.drafts.now c.loop-draft.draft-index c.draft-item.result c.loop-draft.jobs.items
    c.loop-draft-test.true c.draft-item.is c.loop-draft.invariant c.in_err-add_copies.ensures.faults)

pub loop-draft-preserved : goal.loop-draft-preserved
loop-draft-preserved c =
    section_made c.args.drafts.now c.loop-draft.draft-index c.draft-item.result c.loop-draft.jobs.items c.add_copies.new.jobs.items c.loop-draft-test.true
    c.draft-item.is c.loop-draft.invariant c.in_ok-add_copies.ensures.faults c.in_ok-add_copies.ensures.jobs c.in_ok-add_copies.ensures.length

use Rattle.std.proofs.Common.{subst}
use Rattle.std.specs.Prelude.{IfOk, IfSome}
use Rattle.std.specs.Io.Buffered.{reader_remaining}
use Rattle.targets.specs.declared.writing.RunEnd.TheVariants.{Refused}
use Rattle.targets.specs.Jobs.{Refuses}
use Rattle.targets.specs.Runs.{Runs}
use Rattle.targets.proofs.JobLemmas.{finished}
use Rattle.targets.proofs.drive_write.run_job.Goals as goal

pub returns-in-Refused : goal.returns-in-Refused
returns-in-Refused g c =
    let input = reader_remaining g.R.Read.remaining c.args.reader.now in
    let old = g.W.Write.contents c.args.writer.now in
    let mid = g.W.Write.contents c.write_blocks.new.writer in
    let new = g.W.Write.contents c.refuse-in-Refused.new.writer in
    finished (record { boot = 0; key = c.args.key; job = c.args.rec.now }) c.refuse-in-Refused.result input old mid new (Refused c.in-Refused.fault)
    (subst (λ e. IfSome input (λ rest. Runs (record { boot = 0; key = c.args.key; job = c.args.rec.now }) rest old mid e)) c.in-Refused.is
    c.in_ok-state.ensures)
    (subst (λ x. IfOk c.refuse-in-Refused.result (Refuses x mid new)) c.from-in-Refused.ensures c.refuse-in-Refused.ensures)

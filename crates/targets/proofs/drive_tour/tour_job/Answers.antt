use Rattle.std.proofs.Common.{subst}
use Rattle.std.specs.Prelude.{IfOk}
use Rattle.std.specs.Io.Buffered.{reader_remaining}
use Rattle.fc_base.specs.declared.fault.Fault.TheVariants.{WrongPhase}
use Rattle.program_io.specs.Refusals.{plain}
use Rattle.targets.specs.Jobs.{Refuses}
use Rattle.targets.proofs.JobLemmas.{reads_only}
use Rattle.targets.proofs.TourJobLemmas.{toured, only_reads, is_none, not_toured}
use Rattle.targets.proofs.drive_tour.tour_job.Goals as goal

pub returns-in-Err : goal.returns-in-Err
returns-in-Err g c =
    let first = reader_remaining g.R.Read.remaining c.args.reader.now in
    not_toured c.args.job first c.in-Err.refusal c.refuse.result (g.W.Write.contents c.args.writer.now) (g.W.Write.contents c.refuse.new.writer)
    (is_none c.args.job first c.in-Err.refusal c.in-Err.ensures.none) c.refuse.ensures

pub returns-in_ok-end-in-Write : goal.returns-in_ok-end-in-Write
returns-in_ok-end-in-Write g c =
    toured c.args.job (reader_remaining g.R.Read.remaining c.args.reader.now) (reader_remaining g.R.Read.remaining c.read_job.new.reader)
    c.in-Ok.asked c.finish.result c.in_ok-end-in-Write.end (g.W.Write.contents c.args.writer.now) (g.W.Write.contents c.tour_blocks.new.writer)
    (g.W.Write.contents c.finish.new.writer) c.in-Ok.ensures.job c.in-Write.is c.in_ok-end-in-Write.ensures c.finish.ensures

pub returns-in-Read : goal.returns-in-Read
returns-in-Read g c =
    let first = reader_remaining g.R.Read.remaining c.args.reader.now in
    let old = g.W.Write.contents c.args.writer.now in
    let new = g.W.Write.contents c.refuse-in-Read.new.writer in
    not_toured c.args.job first (plain WrongPhase) c.refuse-in-Read.result old new
    (only_reads c.args.job first (reader_remaining g.R.Read.remaining c.read_job.new.reader) c.in-Ok.asked c.in-Ok.ensures.job
    (reads_only c.in-Ok.asked.phase c.in-Read.is))
    (subst (λ x. IfOk c.refuse-in-Read.result (Refuses x old new)) c.from.ensures c.refuse-in-Read.ensures)

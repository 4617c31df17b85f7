use Rattle.std.proofs.Common.{sym, ap, ◌∙◌}
use Rattle.fc_base.specs.declared.record.JobParts.{JobParts}
use Rattle.recheck.specs.Expected.{Expected}
use Rattle.targets.proofs.MapJobLemmas.{answered, misfits, refused}
use Rattle.targets.proofs.map.map_job.Goals as goal

pub returns-then-unit_fits : goal.returns-then-unit_fits
returns-then-unit_fits g c =
    answered c.args.key c.args.unit (g.R.Read.remaining c.args.reader.now) (g.R.Read.remaining c.start.new.reader) c.in-Ok.map
    c.bs.result c.go_over.result (g.W.Write.contents c.args.writer.now) (g.W.Write.contents c.go_over.new.writer)
    (c.bs.ensures.value ∙ ap (λ (j : JobParts). j.bs) (c.rec.ensures ∙ ap (λ (x : Expected). x.job) c.expected.ensures))
    (sym c.unit_fits.ensures ∙ c.if-unit_fits.true) c.in-Ok.ensures.map c.go_over.ensures

pub returns-else-unit_fits : goal.returns-else-unit_fits
returns-else-unit_fits g c =
    misfits c.args.key c.args.unit (g.R.Read.remaining c.args.reader.now) (g.R.Read.remaining c.start.new.reader) c.in-Ok.map
    c.bs.result c.misfit.result c.refuse-else-unit_fits.result (g.W.Write.contents c.args.writer.now)
    (g.W.Write.contents c.refuse-else-unit_fits.new.writer)
    (c.bs.ensures.value ∙ ap (λ (j : JobParts). j.bs) (c.rec.ensures ∙ ap (λ (x : Expected). x.job) c.expected.ensures))
    (sym c.unit_fits.ensures ∙ c.if-unit_fits.false) c.misfit.ensures c.in-Ok.ensures.map c.refuse-else-unit_fits.ensures

pub returns-in-Err : goal.returns-in-Err
returns-in-Err g c =
    refused c.args.key c.args.unit (g.R.Read.remaining c.args.reader.now) c.in-Err.refusal c.refuse.result
    (g.W.Write.contents c.args.writer.now) (g.W.Write.contents c.refuse.new.writer) c.in-Err.ensures.none c.refuse.ensures

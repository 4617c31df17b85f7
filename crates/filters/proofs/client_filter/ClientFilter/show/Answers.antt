use Rattle.std.proofs.Common.{◌++◌, Ok, refl, ap, sym, ◌∙◌}
use Rattle.std.specs.Prelude.{slice_get}
use Rattle.std.specs.Option.{option_copied}
use Rattle.filters.specs.declared.kinds.InRecordKind.TheVariants as told
use Rattle.filters.specs.ClientRuns.{FilterIsAt}
use Rattle.filters.specs.Records.{end_bytes}
use Rattle.filters.specs.ClientLives.{report_if, show_bytes, shown_or_bad}
use Rattle.filters.proofs.TakeLemmas.{only_looks}
use Rattle.filters.proofs.client_filter.ClientFilter.show.Goals as goal

pub returns-in-Some : goal.returns-in-Some
returns-in-Some g c =
    let body = c.args.body.now in
    let ended = c.put_end.ensures in
    only_looks (FilterIsAt c.args.self.now) told.Show body (report_if (option_copied c.report_at.result))
    (g.W.Output.written c.args.writer.now) (g.W.Output.written c.put_if_any.new.writer) (g.W.Output.written c.put_end.new.writer)
    c.put_if_any.ensures ended
    (λ o at h. (
      refl,
      ap (λ r. report_if r ++ end_bytes (Ok tt)) (c.report_at.ensures ∙ ap (λ rs. slice_get rs c.in-Some.place) (c.reports.ensures o at.list h.client.0))
          ∙ sym (ap (shown_or_bad (show_bytes o at.list)) (sym c.number_alone.ensures ∙ c.in-Some.is)),
    ))

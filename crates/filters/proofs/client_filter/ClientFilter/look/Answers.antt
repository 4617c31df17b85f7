use Rattle.std.proofs.Common.{◌∷◌, [], ◌++◌, Ok, refl, ap, sym, ◌∙◌}
use Rattle.filters.specs.declared.kinds.InRecordKind.TheVariants as told
use Rattle.filters.specs.declared.kinds.OutRecordKind.TheVariants.{Outcome}
use Rattle.filters.specs.ClientRuns.{FilterIsAt}
use Rattle.filters.specs.Kinds.{said_number}
use Rattle.filters.specs.Records.{record_bytes, end_bytes}
use Rattle.filters.specs.ClientAsks.{outcome_number}
use Rattle.filters.specs.ClientLives.{look_bytes, shown_or_bad}
use Rattle.filters.proofs.TakeLemmas.{only_looks}
use Rattle.filters.proofs.client_filter.ClientFilter.look.Goals as goal

pub returns-in-Some : goal.returns-in-Some
returns-in-Some g c =
    let body = c.args.body.now in
    let ended = c.put_end.ensures in
    only_looks (FilterIsAt c.args.self.now) told.Look body (record_bytes (said_number Outcome) (body ++ c.outcome_number.result ∷ []))
    (g.W.Output.written c.args.writer.now) (g.W.Output.written c.put_with.new.writer) (g.W.Output.written c.put_end.new.writer)
    c.put_with.ensures ended
    (λ o at h. (
      refl,
      ap (λ n. record_bytes (said_number Outcome) (body ++ n ∷ []) ++ end_bytes (Ok tt))
          (c.outcome_number.ensures ∙ ap outcome_number (c.outcome-outcome.ensures o at.list h.client.0))
          ∙ sym (ap (shown_or_bad (look_bytes o at.list body)) (sym c.look_in.ensures ∙ c.in-Some.is)),
    ))

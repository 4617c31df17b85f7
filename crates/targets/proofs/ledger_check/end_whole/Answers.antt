use Rattle.std.proofs.Common.{◌∙◌, ap, inl}
use Rattle.ledger.specs.Spelling.{spelling}
use Rattle.targets.specs.MapJobs.{status_with}
use Rattle.targets.proofs.LedgerLemmas.{whole_written}
use Rattle.targets.proofs.ledger_check.end_whole.Goals as goal

pub returns : goal.returns
returns g c =
    inl (
      whole_written c.args.map.asked c.args.map.check.place c.args.sums.now _ _ _ (g.W.Write.contents c.args.writer.now)
          (g.W.Write.contents c.write_unasked.new.writer) (g.W.Write.contents c.write_last.new.writer)
          (g.W.Write.contents c.write_ledger.new.writer) (g.W.Write.contents c.flush.new.self) c.in_ok-write_unasked.ensures
          c.in_ok-write_last.ensures c.finish-report.ensures.value.0 c.in_ok-write_ledger.ensures
          (c.deref.ensures.value ∙ c.in-Ok.ensures.spelling ∙ ap spelling c.finish-report.ensures.value.1) c.in_ok-flush.ensures.bytes,
      c.status_with.ensures ∙ ap (status_with c.args.map.unread) c.finish-report.ensures.value.0,
    )

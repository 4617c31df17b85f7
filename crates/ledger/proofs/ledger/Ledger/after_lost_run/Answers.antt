use Rattle.std.proofs.Common.{length, ap, ◌∙◌, arith}
use Rattle.std.proofs.lemmas.List.FromFn.{length-map-range_with_len}
use Rattle.ledger.specs.Entries.{behind_lost_run, may_write}
use Rattle.ledger.specs.Places.{entry_of}
use Rattle.ledger.proofs.PlaceLemmas.{entries_more}
use Rattle.ledger.proofs.TouchedLemmas.{lost_by}
use Rattle.ledger.proofs.ledger.Ledger.after_lost_run.Goals as goal

pub bounds-touched-block : goal.bounds-touched-block
bounds-touched-block c =
    let len = ap length c.in_ok-marks.ensures ∙ length-map-range_with_len (may_write c.args.rec.now) 0 c.blocks-2.result in
    omega (arith, len, ap length c.as_slice-touched.ensures.value, c.loop-block-test.true, c.blocks-2.ensures.value, c.blocks-block-end.ensures.value)

pub loop-block-preserved : goal.loop-block-preserved
loop-block-preserved c =
    entries_more (behind_lost_run c.args.rec.now) c.args.self.now c.loop-block.block c.loop-block.entries.items _ c.entry.result.now
    c.in_ok-behind_lost_run.field-0 c.entry.ensures
    (lost_by c.args.rec.now c.blocks-2.result c.loop-block.block c.as_slice-touched.result.now c.entry.result.now c.in_ok-behind_lost_run.field-0
    (c.as_slice-touched.ensures.value ∙ c.in_ok-marks.ensures)
    (omega (arith, c.loop-block-test.true, c.blocks-2.ensures.value, c.blocks-block-end.ensures.value)) c.in_ok-behind_lost_run.ensures)
    c.in_ok-push.ensures.items c.loop-block.invariant

pub invariant_of-result : goal.invariant_of-result
invariant_of-result c =
    let len = ap length c.loop-block.invariant
    ∙ length-map-range_with_len (λ b. behind_lost_run c.args.rec.now b (entry_of c.args.self.now b)) 0 c.loop-block.block in
    omega (arith, len, c.loop-block.auto.block-end, c.blocks-block-end.ensures.range)

use Rattle.std.proofs.Common.{length, ap, ◌∙◌, arith}
use Rattle.std.proofs.lemmas.List.FromFn.{length-map-range_with_len}
use Rattle.ledger.specs.Entries.{behind_run}
use Rattle.ledger.specs.Places.{entry_of}
use Rattle.ledger.proofs.PlaceLemmas.{entries_more}
use Rattle.ledger.proofs.ledger.Ledger.after_run.Goals as goal

pub loop-block-preserved : goal.loop-block-preserved
loop-block-preserved c =
    entries_more (behind_run c.args.e.now) c.args.self.now c.loop-block.block c.loop-block.entries.items _ c.entry.result.now c.in_ok-behind_run.field-0
    c.entry.ensures c.in_ok-behind_run.ensures c.in_ok-push.ensures.items c.loop-block.invariant

pub invariant_of-result : goal.invariant_of-result
invariant_of-result c =
    let len = ap length c.loop-block.invariant
    ∙ length-map-range_with_len (λ b. behind_run c.args.e.now b (entry_of c.args.self.now b)) 0 c.loop-block.block in
    omega (arith, len, c.loop-block.auto.block-end, c.blocks-block-end.ensures.range)

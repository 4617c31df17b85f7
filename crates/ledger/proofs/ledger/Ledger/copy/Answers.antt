use Rattle.std.proofs.Common.{◌≡◌, length, map, ap, ◌∙◌, arith}
use Rattle.std.specs.List.{range_with_len}
use Rattle.std.proofs.lemmas.List.FromFn.{length-map-range_with_len}
use Rattle.ledger.specs.Places.{Place, entry_of}
use Rattle.ledger.proofs.PlaceLemmas.{entries_more}
use Rattle.ledger.proofs.CheckLemmas.{all_entries}
use Rattle.ledger.proofs.ledger.Ledger.copy.Goals as goal

pub loop-block-preserved : goal.loop-block-preserved
loop-block-preserved c =
    entries_more (λ b entry. entry) c.args.self.now c.loop-block.block c.loop-block.entries.items _ c.entry.result.now c.in_ok-behind_lost_run.field-0
    c.entry.ensures c.in_ok-behind_lost_run.ensures c.in_ok-push.ensures.items c.loop-block.invariant

pub invariant_of-result : goal.invariant_of-result
invariant_of-result c =
    let len = ap length c.loop-block.invariant
    ∙ length-map-range_with_len (λ b. entry_of c.args.self.now b) 0 c.loop-block.block in
    omega (arith, len, c.loop-block.auto.block-end, c.blocks-block-end.ensures.range)

pub returns : goal.returns
returns c =
    let now = c.args.self.now in
    let count : c.loop-block.block ≡ length now.entries = omega (arith, c.loop-block-test.false, c.loop-block.auto.block-end, c.blocks-block-end.ensures.value) in
    let all : c.loop-block.entries.items ≡ now.entries =
    c.loop-block.invariant ∙ ap (λ n. map (λ b. entry_of now b) (range_with_len 0 n)) count ∙ all_entries now in
    let size : c.self.inside.block_size ≡ now.bs = ap (λ (p : Place). p.bs) c.self.view_is in
    ap (λ es. record { bs = c.self.inside.block_size; entries = es }) all ∙ ap (λ b. record { bs = b; entries = now.entries }) size

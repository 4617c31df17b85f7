use Rattle.std.proofs.Common.{◌≡◌, ℕ, ◌<◌, List, length, ap, subst, sym, ◌∙◌, arith}
use Rattle.std.proofs.lemmas.List.FromFn.{length-map-range_with_len}
use Rattle.disk_model.specs.File.{block_bytes}
use Rattle.ledger.specs.Places.{Place}
use Rattle.ledger.specs.Checks.{Check, HasSeen}
use Rattle.uses.proofs.ledgers.check_by_ledger.Goals as goal

-- A check keeps the number of blocks.
blocks_stay : (check : Check) (place : Place) (held : ℕ → List ℕ) (n : ℕ) → HasSeen check place held n
    → length check.place.entries ≡ length place.entries
blocks_stay check place held n seen =
    ap (λ (p : Place). length p.entries) seen.left ∙ length-map-range_with_len _ 0 (length place.entries)

pub check_block-requires-clause-block : goal.check_block-requires-clause-block
check_block-requires-clause-block g c =
    let held = block_bytes (g.D.Disk.file c.args.disk.now).content c.args.ledger.bs in
    let stay = blocks_stay c.loop-block.check c.args.ledger held c.loop-block.block c.loop-block.invariant.seen in
    let all = ap (λ (k : Check). length k.place.entries) c.new-check.ensures.value in
    omega (arith, c.loop-block-test.true, c.blocks-block-end.ensures, stay, all)

-- All blocks were seen.
all_seen : (check : Check) (place : Place) (held : ℕ → List ℕ) (n : ℕ) → n ≡ length place.entries → HasSeen check place held n
    → HasSeen check place held (length check.place.entries)
all_seen check place held n all seen =
    subst (λ m. HasSeen check place held m) (all ∙ sym (blocks_stay check place held n seen)) seen

pub returns-clause-report : goal.returns-clause-report
returns-clause-report g c =
    let held = block_bytes (g.D.Disk.file c.args.disk.now).content c.args.ledger.bs in
    let all = ap (λ (k : Check). length k.place.entries) c.new-check.ensures.value in
    let whole : c.loop-block.block ≡ length c.args.ledger.entries =
    omega (arith, c.loop-block-test.false, c.loop-block.auto.block-end, c.blocks-block-end.ensures, all) in
    (c.finish-report.ensures.seen c.args.ledger held (all_seen c.loop-block.check c.args.ledger held c.loop-block.block whole c.loop-block.invariant.seen)).0

pub returns-clause-behind : goal.returns-clause-behind
returns-clause-behind g c =
    let held = block_bytes (g.D.Disk.file c.args.disk.now).content c.args.ledger.bs in
    let all = ap (λ (k : Check). length k.place.entries) c.new-check.ensures.value in
    let whole : c.loop-block.block ≡ length c.args.ledger.entries =
    omega (arith, c.loop-block-test.false, c.loop-block.auto.block-end, c.blocks-block-end.ensures, all) in
    (c.finish-report.ensures.seen c.args.ledger held (all_seen c.loop-block.check c.args.ledger held c.loop-block.block whole c.loop-block.invariant.seen)).1

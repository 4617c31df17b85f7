use Rattle.std.proofs.Common.{ap, ◌∙◌, refl, replicate, length, arith}
use Rattle.std.specs.Str.{bytes_eq}
use Rattle.std.proofs.lemmas.List.{length-replicate}
use Rattle.write_order.proofs.HoldSteps.{differs, alike_more, alike_in_all, sectors_of_one}
use Rattle.write_order.proofs.holding.holds_pattern.Goals as goal

pub returns-then-not-has_sector : goal.returns-then-not-has_sector
returns-then-not-has_sector c =
    let pattern = c.args.pattern in
    let bytes = c.args.bytes.now in
    differs (λ k. replicate 512 pattern) c.args.sectors c.loop-number.number bytes _ _ (λ k. length-replicate 512 pattern)
    c.loop-number-test.true refl c.has_sector.ensures c.if-not-has_sector.true
    ∙ ap (bytes_eq bytes) (sectors_of_one pattern c.args.sectors (length bytes) c.requires)

pub loop-number-preserved : goal.loop-number-preserved
loop-number-preserved c =
    alike_more (λ k. replicate 512 c.args.pattern) c.loop-number.number c.args.bytes.now _ _ c.loop-number.invariant refl c.has_sector.ensures
    c.if-not-has_sector.false

pub returns : goal.returns
returns c =
    let pattern = c.args.pattern in
    let bytes = c.args.bytes.now in
    alike_in_all (λ k. replicate 512 pattern) c.args.sectors c.loop-number.number bytes (omega arith) c.requires c.loop-number.invariant
    ∙ ap (bytes_eq bytes) (sectors_of_one pattern c.args.sectors (length bytes) c.requires)

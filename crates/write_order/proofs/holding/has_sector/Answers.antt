use Rattle.std.proofs.Common.{◌≡◌, ◌+◌, ◌-◌, ◌*◌, take, drop, ap, ◌∙◌, arith}
use Rattle.std.specs.Str.{bytes_eq}
use Rattle.write_order.proofs.holding.has_sector.Goals as goal

pub returns : goal.returns
returns c =
    let at = c.args.number * 512 in
    let whole : at + 512 - at ≡ 512 = omega arith in
    c.eq.ensures ∙ ap (λ n. bytes_eq (take n (drop at c.args.bytes.now)) c.as_slice.result.now) whole
    ∙ ap (bytes_eq (take 512 (drop at c.args.bytes.now))) c.as_slice.ensures

use Rattle.std.proofs.Common.{◌≡◌, ◌+◌, ◌-◌, ◌*◌, take, drop, ap, ◌∙◌, arith}
use Rattle.diagnosis.specs.Pieces.{piece_of, piece_at}
use Rattle.diagnosis.proofs.pieces.piece_at.Goals as goal

pub returns : goal.returns
unfolding piece_at
returns c =
    let at = c.args.number * 512 in
    let whole : at + 512 - at ≡ 512 = omega arith in
    c.piece_of.ensures ∙ ap (λ n. piece_of c.args.expected.now (take n (drop at c.args.bytes.now))) whole

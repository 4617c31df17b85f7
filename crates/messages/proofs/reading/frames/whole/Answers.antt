use Rattle.std.proofs.Common.{arith, refl}
use Rattle.std.proofs.lemmas.Bool.Decides.{nat_tests}
use Rattle.std.proofs.lemmas.Result.{err_from_is_err_and}
use Rattle.messages.specs.Bodies.{body_at}
use Rattle.messages.proofs.BodyLemmas.{body_at-in_range}
use Rattle.messages.proofs.DecodeLemmas.{reads_mapped}
use Rattle.messages.proofs.reading.frames.whole.Goals as goal

pub new-requires : goal.new-requires
new-requires c =
    rw (c.requires, body_at-in_range c.args.kind c.args.bytes.now c.in_ok-body.body c.in_ok-body.ensures) refl

pub returns-in_err-body : goal.returns-in_err-body
returns-in_err-body c =
    let p = err_from_is_err_and c.from_residual.result c.from_residual.ensures.1 in
    rw (p.1, p.2) (reads_mapped _ c.in_err-body.field-0.0 (body_at c.args.kind c.args.bytes.now) _ (grind (arith, nat_tests)) c.in_err-body.ensures)

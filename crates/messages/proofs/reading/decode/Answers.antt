use Rattle.std.proofs.Common.{List, ℕ, Err, ap, arith, sym, subst, ◌∙◌}
use Rattle.std.proofs.lemmas.Result.{err_from_is_err_and}
use Rattle.messages.specs.Bodies.{Reads, body_at}
use Rattle.messages.proofs.DecodeLemmas.{packet_in_range, answers_ok, answers_body, says}
use Rattle.messages.proofs.reading.decode.Goals as goal

pub new-requires : goal.new-requires
new-requires c =
    let header = c.in_ok-header.header in
    packet_in_range header c.args.bytes.now c.in_ok-body.body c.in_ok-header.ensures
    (ap (body_at header.kind) (sym c.split_at.ensures.back) ∙ c.in_ok-body.ensures)

pub returns-clause-answer : goal.returns-clause-answer
returns-clause-answer c =
    let header = c.in_ok-header.header in
    rw c.new.ensures (answers_ok header c.args.bytes.now c.in_ok-body.body c.in_ok-header.ensures
    (ap (body_at header.kind) (sym c.split_at.ensures.back) ∙ c.in_ok-body.ensures))

pub returns-clause-said : goal.returns-clause-said
returns-clause-said c =
    says c.one_spelling.ensures.said c.args.bytes.now c.new.result (λ i. omega (arith, c.type_inv.bytes i)) (returns-clause-answer c)

pub returns-in_err-body-clause-answer : goal.returns-in_err-body-clause-answer
returns-in_err-body-clause-answer c =
    let header = c.in_ok-header.header in
    let p = err_from_is_err_and c.from_residual-in_err-body.result c.from_residual-in_err-body.ensures.1 in
    let fault = c.in_err-body.field-0.0 in
    rw (p.1, p.2) (answers_body header fault c.args.bytes.now c.in_ok-header.ensures
    (subst (λ (bs : List ℕ). Reads (Err fault) (body_at header.kind bs)) c.split_at.ensures.back c.in_err-body.ensures))

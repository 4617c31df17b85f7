use Rattle.std.proofs.Common.{arith, ap, ◌∙◌}
use Rattle.std.specs.Int.{w64}
use Rattle.fc_base.specs.Layouts.{number_in}
use Rattle.server_core.proofs.NoteLemmas.{note_said}
use Rattle.server_core.proofs.note.ServerNote.decode.Goals as goal

pub returns : goal.returns
returns c =
    note_said c.args.bytes.now c.in_ok-numbers.numbers.now c.split_u64-boot.result.0 c.split_u64-last_run.result.0
    (λ i. omega (arith, c.type_inv.bytes i)) c.in_ok-numbers.ensures.cases.0 c.in_ok-numbers.ensures.cases.1
    (omega (arith, c.if-numbers-ne16.false)) c.split_u64-boot.ensures.number
    (c.split_u64-last_run.ensures.number ∙ ap (number_in w64) c.split_u64-boot.ensures.rest)

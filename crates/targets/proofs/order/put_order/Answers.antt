use Rattle.std.proofs.Common.{ap, ◌∙◌}
use Rattle.std.specs.Int.{w64, to_be_bytes}
use Rattle.std.proofs.lemmas.Result.{on_ok_weaker}
use Rattle.fc_base.specs.Layouts.{bytes_of}
use Rattle.targets.proofs.RunLemmas.{order_written}
use Rattle.targets.proofs.order.put_order.Goals as goal

pub returns : goal.returns
unfolding bytes_of
returns g c =
    on_ok_weaker c.write_all-3.result
    (λ wrote. order_written _ _ _ _ c.args.ticket.key c.args.rec.now c.args.ticket.seq _ _ _ c.in_ok-write_all.ensures.bytes
    (rw (← c.seq.view_is) c.to_be_bytes.ensures) c.in_ok-write_all-2.ensures.bytes
    (c.to_be_bytes-2.ensures ∙ ap (to_be_bytes w64) (c.from.ensures ∙ c.requires.block)) wrote
    (c.fill_block.ensures.of_write c.requires.block))
    c.write_all-3.ensures.bytes

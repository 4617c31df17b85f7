use Rattle.std.proofs.Common.{◌≡◌, ◌+◌, ◌∷◌, true, false, not, length, sym, ◌∙◌, ap, arith}
use Rattle.net_script.specs.Words.{lines_of}
use Rattle.net_script.specs.Orders.{closes, orders_from}
use Rattle.net_script.proofs.TextLemmas.{line_read}
use Rattle.net_script.proofs.orders.Orders.take_text.Goals as goal

pub loop-below-preserved : goal.loop-below-preserved
loop-below-preserved c =
    let now = c.loop-below.self in
    let new = c.take_line-line.new.self in
    let line = c.take_line-line.result.now in
    let inv = c.loop-below.invariant in
    let opens : closes line ≡ false = sym c.is_closing.ensures ∙ c.if-is_closing.false in
    let lines : lines_of now.rest.now ≡ line ∷ lines_of new.rest.now = c.take_line-line.ensures.lines in (
      line_read _ _ line _ inv.0 lines c.take_line-line.ensures.bytes opens,
      inv.1 ∙ ap (orders_from now.number true) lines ∙ ap (λ t. orders_from (now.number + 1) (not t) (lines_of new.rest.now)) opens
          ∙ ap (λ n. orders_from n true (lines_of new.rest.now)) (sym c.take_line-line.ensures.number),
      omega (arith, ap length lines, c.take_line-line.ensures.number, inv.2),
      omega (arith, c.take_line-line.ensures.number, c.take_line-line.ensures.shorter, inv.3),
      omega (arith, c.take_line-line.ensures.shorter, inv.4),
    )

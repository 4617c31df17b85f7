use Rattle.std.proofs.Common.{◌/◌, sym, refl, ap, ◌∙◌, replicate}
use Rattle.std.specs.Str.{bytes_eq}
use Rattle.write_order.proofs.StampSteps.{stamps_are-bytes}
use Rattle.write_order.proofs.holding.holds_write.Goals as goal

pub returns-in-Pattern : goal.returns-in-Pattern
returns-in-Pattern c =
    rw (sym c.verify.ensures ∙ c.in-Pattern.is)
    (c.holds_pattern.ensures ∙ ap (λ n. bytes_eq c.args.bytes.now (replicate n c.pattern.result)) c.requires
    ∙ ap (λ byte. bytes_eq c.args.bytes.now (replicate c.args.rec.now.bs byte)) c.pattern.ensures)

pub returns-in-Stamp : goal.returns-in-Stamp
returns-in-Stamp c =
    c.holds_stamps.ensures
    ∙ ap (bytes_eq c.args.bytes.now)
    (stamps_are-bytes c.args.key.now c.args.rec.now c.args.seq c.args.block _ c.stamp.result _ (sym c.verify.ensures ∙ c.in-Stamp.is) c.stamp.ensures
    (ap (λ n. n / 512) c.bs-sectors.ensures.value) refl)

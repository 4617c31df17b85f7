use Rattle.std.proofs.Common.{sym, ap, subst, ◌∙◌}
use Rattle.std.specs.Prelude.{IsTrue}
use Rattle.fc_base.specs.declared.record.JobParts.{JobParts}
use Rattle.fc_base.specs.JobParts.{is_within_limits}
use Rattle.ledger.proofs.SizeLemmas.{other_size}
use Rattle.ledger.proofs.entry.RunWrite.is_held.Goals as goal

pub returns-then-bytes-parts : goal.returns-then-bytes-parts
returns-then-bytes-parts c =
    let limits = subst (λ p. IsTrue (is_within_limits p)) c.parts.ensures.value c.parts.ensures.limits in
    other_size c.writes_fill_their_blocks.ensures c.args.block c.args.bytes.now c.args.self.now limits
    (λ same. c.if-bytes-parts.true (same ∙ sym (ap (λ (p : JobParts). p.bs) c.parts.ensures.value)))

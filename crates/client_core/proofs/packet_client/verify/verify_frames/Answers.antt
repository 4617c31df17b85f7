use Rattle.std.proofs.Common.{subst, ◌∷◌}
use Rattle.client_core.specs.Life.{Verifies}
use Rattle.client_core.specs.Lives.{AttemptIs}
use Rattle.client_core.proofs.packet_client.verify.verify_frames.Goals as goal

pub returns-clause-asked : goal.returns-clause-asked
returns-clause-asked c deeds =
    subst (λ t. AttemptIs c.args.attempt (Verifies c.args.run c.args.attempt t ∷ deeds) c.new-asked.result) c.in_ok-kept.ensures
    (c.new-asked.ensures.asked c.args.attempt deeds c.requires.attempt)

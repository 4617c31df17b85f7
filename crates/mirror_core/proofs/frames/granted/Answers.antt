use Rattle.std.proofs.Common.{◌∙◌, ap, ◌++◌, ◌∷◌, []}
use Rattle.messages.specs.declared.body.Body.TheVariants.{Granted}
use Rattle.mirror_core.specs.Packets.{to_client, frame_bytes}
use Rattle.mirror_core.proofs.FrameLemmas.{all_granted}
use Rattle.mirror_core.proofs.frames.granted.Goals as goal

pub returns : goal.returns
returns c =
    all_granted c.args.generation c.args.states.now c.say.new.frames c.say_copies.new.frames
    (c.in_ok-say.ensures ∙ ap (λ l. l ++ frame_bytes (to_client (Granted c.args.generation) ∷ [])) c.new-frames.ensures) c.in_ok-say_copies.ensures

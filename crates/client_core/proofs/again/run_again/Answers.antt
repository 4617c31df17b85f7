use Rattle.std.proofs.Common.{◌∙◌, ap, ◌++◌}
use Rattle.std.specs.List.{flat_map}
use Rattle.fc_base.specs.Counted.{numbers_below}
use Rattle.messages.specs.declared.body.Body.TheVariants as bodies
use Rattle.client_core.specs.Begins.{begin_at}
use Rattle.client_core.specs.Framed.{frame_bytes}
use Rattle.client_core.specs.Life.{text_of, act_of}
use Rattle.client_core.specs.Packets.{packets_again, begin_again}
use Rattle.client_core.specs.Requests.{trigger_at, stop_at}
use Rattle.client_core.proofs.FrameLemmas.{three}
use Rattle.client_core.proofs.again.run_again.Goals as goal

pub returns : goal.returns
returns c deeds h =
    let run = c.args.run in
    let all = numbers_below c.args.servers in
    three c.args.frames.now c.begin_again.new.frames c.say_again.new.frames c.say_again-2.new.frames
    (flat_map (λ s. begin_again run (text_of run deeds) s (begin_at run s deeds)) all)
    (flat_map (λ s. packets_again (bodies.Trigger run (act_of run deeds)) s (trigger_at run s deeds)) all)
    (flat_map (λ s. packets_again (bodies.Stop run) s (stop_at run s deeds)) all)
    (c.in_ok-begin_again.ensures (λ s. begin_at run s deeds) h.begins
    ∙ ap (λ t. c.args.frames.now ++ frame_bytes (flat_map (λ s. begin_again run t s (begin_at run s deeds)) all)) (c.text.ensures.text ∙ h.text))
    (c.in_ok-say_again.ensures (λ s. trigger_at run s deeds) h.triggers
    ∙ ap (λ a. c.begin_again.new.frames ++ frame_bytes (flat_map (λ s. packets_again (bodies.Trigger run a) s (trigger_at run s deeds)) all)) h.act)
    (c.in_ok-say_again-2.ensures (λ s. stop_at run s deeds) h.stops)

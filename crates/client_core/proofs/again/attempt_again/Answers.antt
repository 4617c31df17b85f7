use Rattle.std.proofs.Common.{◌∙◌, ap, sym, subst, ◌++◌, Some}
use Rattle.std.specs.List.{flat_map}
use Rattle.fc_base.specs.Counted.{numbers_below}
use Rattle.messages.specs.declared.body.Body.TheVariants as bodies
use Rattle.client_core.specs.Framed.{frame_bytes}
use Rattle.client_core.specs.Life.{run_of, check_of}
use Rattle.client_core.specs.Lives.{AttemptFor}
use Rattle.client_core.specs.Packets.{packets_again}
use Rattle.client_core.specs.Requests.{verify_at}
use Rattle.client_core.proofs.FrameLemmas.{none_again, none_yet}
use Rattle.client_core.proofs.again.attempt_again.Goals as goal

pub returns-in_default : goal.returns-in_default
returns-in_default c deeds h =
    let attempt = c.args.attempt in
    let none = subst (λ p. AttemptFor attempt deeds (Some p)) c.in_default.is h in
    none_yet c.args.frames.now ∙ ap (λ ps. c.args.frames.now ++ frame_bytes ps)
    (sym (none_again (bodies.Verify (run_of attempt deeds) attempt (check_of attempt deeds)) (λ s. verify_at attempt s deeds)
    (numbers_below c.args.servers) none.verifies))

pub returns : goal.returns
returns c deeds h =
    let attempt = c.args.attempt in
    let all = numbers_below c.args.servers in
    let k = subst (λ p. AttemptFor attempt deeds (Some p)) c.in-Some.is h in
    c.in_ok-say_again.ensures (λ s. verify_at attempt s deeds) k.verifies
    ∙ ap (λ r. c.args.frames.now ++ frame_bytes (flat_map (λ s. packets_again (bodies.Verify r attempt c.in_ok-text.text) s (verify_at attempt s deeds)) all))
    k.run
    ∙ ap (λ t. c.args.frames.now ++ frame_bytes (flat_map
    (λ s. packets_again (bodies.Verify (run_of attempt deeds) attempt t) s (verify_at attempt s deeds)) all))
    (c.in_ok-text.ensures ∙ c.as_slice.ensures.value ∙ k.text)

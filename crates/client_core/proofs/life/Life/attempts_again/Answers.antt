use Rattle.std.proofs.Common.{◌≡◌, refl, sym, ◌∙◌, subst, ◌++◌, Some}
use Rattle.std.specs.List.{flat_map, AllByRecursion}
use Rattle.client_core.specs.Framed.{frame_bytes}
use Rattle.client_core.specs.Lives.{AttemptFor}
use Rattle.client_core.specs.Packets.{attempt_again}
use Rattle.client_core.proofs.AgainLemmas.{all_kept}
use Rattle.client_core.proofs.FrameLemmas.{one_more, all_sent}
use Rattle.client_core.proofs.life.Life.attempts_again.Goals as goal

pub loop-attempt-init : goal.loop-attempt-init
loop-attempt-init c = λ deeds h.
    let m = c.args.self.now.attempts in
    let is = sym (c.into_iter-attempt-iterator.ensures.into_iter_gives ∙ c.iter-attempt-items.ensures.rest) in
    subst (λ it. AllByRecursion (λ e. AttemptFor e.0 deeds (Some e.1)) it
    × (c.args.frames.now ++ frame_bytes (flat_map (λ e. attempt_again c.args.servers deeds e.0) it)
    ≡ c.args.frames.now ++ frame_bytes (flat_map (λ e. attempt_again c.args.servers deeds e.0) m.entries))) is
    (all_kept m m.entries (λ n x. AttemptFor n deeds x) c.iter-attempt-items.ensures.found h.attempts, refl)

pub loop-attempt-preserved : goal.loop-attempt-preserved
loop-attempt-preserved c = λ deeds h.
    let i = subst (λ it. AllByRecursion (λ e. AttemptFor e.0 deeds (Some e.1)) it
    × (c.loop-attempt.frames ++ frame_bytes (flat_map (λ e. attempt_again c.args.servers deeds e.0) it)
    ≡ c.args.frames.now ++ frame_bytes (flat_map (λ e. attempt_again c.args.servers deeds e.0) c.args.self.now.attempts.entries)))
    c.in-Some.ensures.steps (c.loop-attempt.invariant deeds h) in (
      i.0.1,
      one_more (λ e. attempt_again c.args.servers deeds
          e.0) c.args.frames.now c.loop-attempt.frames c.attempt_again.new.frames
          (c.in-Some.attempt.now, c.in-Some.place.now) c.next.new.self c.args.self.now.attempts.entries i.1 (c.in_ok-attempt_again.ensures deeds i.0.0),
    )

pub returns : goal.returns
returns c deeds h =
    sym (all_sent c.loop-attempt.frames) ∙ subst (λ it. c.loop-attempt.frames ++ frame_bytes (flat_map (λ e. attempt_again c.args.servers deeds e.0) it)
    ≡ c.args.frames.now ++ frame_bytes (flat_map (λ e. attempt_again c.args.servers deeds e.0) c.args.self.now.attempts.entries)) c.in-None.ensures.steps.0
    (c.loop-attempt.invariant deeds h).1

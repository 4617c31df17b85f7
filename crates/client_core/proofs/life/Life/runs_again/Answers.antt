use Rattle.std.proofs.Common.{◌≡◌, refl, sym, ◌∙◌, subst, ◌++◌, Some}
use Rattle.std.specs.List.{flat_map, AllByRecursion}
use Rattle.client_core.specs.Framed.{frame_bytes}
use Rattle.client_core.specs.Lives.{RunFor}
use Rattle.client_core.specs.Packets.{run_again}
use Rattle.client_core.proofs.AgainLemmas.{all_kept}
use Rattle.client_core.proofs.FrameLemmas.{one_more, all_sent}
use Rattle.client_core.proofs.life.Life.runs_again.Goals as goal

pub loop-run-init : goal.loop-run-init
loop-run-init c = λ deeds h.
    let m = c.args.self.now.runs in
    let is = sym (c.into_iter-run-iterator.ensures.into_iter_gives ∙ c.iter-run-items.ensures.rest) in
    subst (λ it. AllByRecursion (λ e. RunFor e.0 deeds (Some e.1)) it
    × (c.args.frames.now ++ frame_bytes (flat_map (λ e. run_again c.args.servers deeds e.0) it)
    ≡ c.args.frames.now ++ frame_bytes (flat_map (λ e. run_again c.args.servers deeds e.0) m.entries))) is
    (all_kept m m.entries (λ n x. RunFor n deeds x) c.iter-run-items.ensures.found h.runs, refl)

pub loop-run-preserved : goal.loop-run-preserved
loop-run-preserved c = λ deeds h.
    let i = subst (λ it. AllByRecursion (λ e. RunFor e.0 deeds (Some e.1)) it
    × (c.loop-run.frames ++ frame_bytes (flat_map (λ e. run_again c.args.servers deeds e.0) it)
    ≡ c.args.frames.now ++ frame_bytes (flat_map (λ e. run_again c.args.servers deeds e.0) c.args.self.now.runs.entries))) c.in-Some.ensures.steps
    (c.loop-run.invariant deeds h) in (
      i.0.1,
      one_more (λ e. run_again c.args.servers deeds
          e.0) c.args.frames.now c.loop-run.frames c.run_again.new.frames
          (c.in-Some.run'.now, c.in-Some.asked.now) c.next.new.self c.args.self.now.runs.entries i.1 (c.in_ok-run_again.ensures deeds i.0.0),
    )

pub returns : goal.returns
returns c deeds h =
    sym (all_sent c.loop-run.frames) ∙ subst (λ it. c.loop-run.frames ++ frame_bytes (flat_map (λ e. run_again c.args.servers deeds e.0) it)
    ≡ c.args.frames.now ++ frame_bytes (flat_map (λ e. run_again c.args.servers deeds e.0) c.args.self.now.runs.entries)) c.in-None.ensures.steps.0
    (c.loop-run.invariant deeds h).1

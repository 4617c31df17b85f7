use Rattle.std.proofs.Common.{ap, ◌∙◌, arith, length}
use Rattle.std.proofs.lemmas.List.{take_all}
use Rattle.server_core.specs.Kept.{Kept, asked_before}
use Rattle.server_core.specs.Framed.{frames_to_client}
use Rattle.server_core.specs.Replies.{state_frames}
use Rattle.server_core.proofs.StateFrameLemmas.{frames_more, job_below, lengths}
use Rattle.server_core.proofs.run.Run.state_frames.Goals as goal

pub loop-index-preserved : goal.loop-index-preserved
loop-index-preserved c w h =
    let p = job_below c.args.self.now w c.loop-index.index h
    (omega (arith, c.loop-index-test.true, ap length c.as_slice.ensures.value, ap (λ (k : Kept). length k.kept) c.self.view_is)) in
    frames_more c.args.me w (asked_before w) c.loop-index.index p.0 c.loop-index.frames c.say.new.frames c.state_body.result p.1
    (c.loop-index.invariant w h) c.in_ok-say.ensures (c.state_body.ensures.value w h p.0 p.1)

pub returns : goal.returns
returns c w h = c.loop-index.invariant w h ∙ ap (λ js. frames_to_client c.args.me (state_frames w (asked_before w) 0 js))
    (take_all c.loop-index.index w.jobs (omega (
      arith,
      c.loop-index-test.false,
      ap length c.as_slice.ensures.value,
      ap (λ (k : Kept). length k.kept) c.self.view_is,
      (lengths c.args.self.now w h).0,
    )))

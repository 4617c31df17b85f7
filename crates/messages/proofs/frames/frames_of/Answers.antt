use Rattle.std.proofs.Common.{◌≡◌, ◌<◌, List, ℕ, length, ap, subst, arith, ◌∙◌, IfOk}
use Rattle.messages.specs.declared.limits.TheConstants.{CHUNK_LIMIT}
use Rattle.messages.specs.Bodies.{length_of}
use Rattle.messages.proofs.BodyLemmas.{length-spelled_body}
use Rattle.messages.proofs.FrameLemmas.{length_fits}
use Rattle.messages.proofs.FramesOfLemmas.{body_in, cut_frames, ok_few}
use Rattle.messages.proofs.frames.frames_of.Goals as goal

pub cut-requires : goal.cut-requires
cut-requires c =
    let p = c.args.packet.now in
    let is = body_in p c.deref.result.now c.split_at.result.1.now (c.deref.ensures.value ∙ c.in_ok-bytes.ensures.spelling) c.split_at.ensures.back in
    omega (arith, ap (λ (bs : List ℕ). length bs) is, length-spelled_body p.body, length_fits c.one_spelling.ensures.reads_back p c.keeps_its_ranges.ensures)

pub returns-else-as_slice-clause-spelling : goal.returns-else-as_slice-clause-spelling
returns-else-as_slice-clause-spelling c =
    let p = c.args.packet.now in
    let is = body_in p c.deref.result.now c.split_at.result.1.now (c.deref.ensures.value ∙ c.in_ok-bytes.ensures.spelling) c.split_at.ensures.back in
    let long : CHUNK_LIMIT < length_of p.body =
    omega (arith, c.if-as_slice.false, c.in_ok-bytes.ensures.len, ap (λ (bs : List ℕ). length bs) c.as_slice.ensures.value) in
    subst (λ (fs : List (List ℕ)). IfOk c.cut.result (λ frames. frames ≡ fs)) (cut_frames p c.split_at.result.1.now is long) c.cut.ensures

pub returns-else-as_slice-clause-few : goal.returns-else-as_slice-clause-few
returns-else-as_slice-clause-few c =
    let p = c.args.packet.now in
    ok_few p c.cut.result (returns-else-as_slice-clause-spelling c) (length_fits c.one_spelling.ensures.reads_back p c.keeps_its_ranges.ensures)

use Rattle.std.proofs.Common.{◌++◌, ◌∙◌, refl, ap, sym}
use Rattle.verify_state.proofs.WritingLemmas.{joined, job_bytes_are}
use Rattle.verify_state.proofs.writing.put_job.Goals as goal

pub returns : goal.returns
returns c =
    let bytes = c.args.bytes.now.items in
    let two = joined bytes _ _ _ _ c.in_ok-extend_from_slice.ensures.items c.in_ok-put_u32.ensures in
    let three = joined bytes _ _ _ _ two c.in_ok-put_u32-2.ensures in
    let four = joined bytes _ _ _ _ three c.in_ok-put_u64.ensures in
    let five = joined bytes _ _ _ _ four c.in_ok-put_u64-2.ensures in
    let six = joined bytes _ _ _ _ five c.in_ok-put_u32-3.ensures in
    joined bytes _ _ _ _ six c.in_ok-put_u32-4.ensures
    ∙ rw (
      c.kind_code.ensures,
      c.kind.ensures,
      c.verify_code.ensures,
      c.verify.ensures,
      c.pattern.ensures,
      c.bs.ensures.value,
      c.blocks-2.ensures.value,
      c.total.ensures.value,
      c.seed.ensures,
      c.depth.ensures.value,
      c.window.ensures.value,
    ) refl
    ∙ ap (λ xs. bytes ++ xs) (sym (job_bytes_are c.args.rec.now))

use Rattle.std.proofs.Common.{drop, sym, ap, ◌∙◌, arith}
use Rattle.std.specs.Int.{w8}
use Rattle.fc_base.specs.Layouts.{number_in}
use Rattle.messages.specs.Choices.{asked_numbered, reason_numbered}
use Rattle.messages.proofs.BodyLemmas.{refused_at}
use Rattle.messages.proofs.reading.plain.refused.Goals as goal

pub returns : goal.returns
returns c =
    let asked = ap asked_numbered (sym c.split_u8-asked.ensures.number) ∙ sym c.numbered.ensures ∙ c.in_ok-asked.was in
    let number = c.split_u8-reason.ensures.number ∙ ap (number_in w8) c.split_u8-asked.ensures.rest in
    let reason = ap reason_numbered (sym number) ∙ sym c.numbered-2.ensures ∙ c.in_ok-reason.was in
    let told = refused_at c.args.bytes.now c.in_ok-asked.asked c.in_ok-reason.reason (omega arith) asked reason in
    let job = c.split_u8-reason.ensures.rest ∙ ap (drop 1) c.split_u8-asked.ensures.rest in
    let jobs = c.split_u32-job.ensures.rest ∙ ap (drop 4) job in
    let run = c.split_u32-jobs.ensures.rest ∙ ap (drop 4) jobs in
    let attempt = c.split_u64-run.ensures.rest ∙ ap (drop 8) run in
    let value = c.split_u64-attempt.ensures.rest ∙ ap (drop 8) attempt in
    c.in_range.ensures ∙ rw (
      c.split_u32-job.ensures.number,
      c.split_u32-jobs.ensures.number,
      c.split_u64-run.ensures.number,
      c.split_u64-attempt.ensures.number,
      c.split_u64-value.ensures.number,
      value,
      attempt,
      run,
      jobs,
      job,
    ) (sym told)

use Rattle.std.proofs.Common.{◌≡◌, List, ℕ, drop, ap, ◌∙◌}
use Rattle.std.proofs.lemmas.List.{drop-drop}
use Rattle.messages.proofs.reading.report.report_fields.Goals as goal

drops : (bytes : List ℕ) → drop 4 (drop 4 (drop 4 (drop 4 (drop 1 (drop 4 (drop 4 (drop 8 (drop 8 bytes)))))))) ≡ drop 41 bytes
drops bytes = simp drop-drop

pub returns-clause-rest : goal.returns-clause-rest
returns-clause-rest c =
    let attempt = c.split_u64-attempt.ensures.rest ∙ ap (drop 8) c.split_u64-run.ensures.rest in
    let job = c.split_u32-job.ensures.rest ∙ ap (drop 4) attempt in
    let jobs = c.split_u32-jobs.ensures.rest ∙ ap (drop 4) job in
    let end = c.split_u8-end.ensures.rest ∙ ap (drop 1) jobs in
    let at = c.split_u32-at.ensures.rest ∙ ap (drop 4) end in
    let checked = c.split_u32-checked.ensures.rest ∙ ap (drop 4) at in
    let faults = c.split_u32-faults.ensures.rest ∙ ap (drop 4) checked in
    c.split_u32-count.ensures.rest ∙ ap (drop 4) faults ∙ drops c.args.bytes.now

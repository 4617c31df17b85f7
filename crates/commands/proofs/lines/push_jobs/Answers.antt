use Rattle.std.proofs.Common.{◌≡◌, ℕ, List, ◌++◌, rules, ap, ◌∙◌, string_bytes}
use Rattle.job_file.specs.declared.job.Job.{Job}
use Rattle.program_io.specs.Words.{with_line_feed}
use Rattle.commands.specs.Lines.{job_line}
use Rattle.commands.proofs.Numbered.{texts_more, texts_all}
use Rattle.commands.proofs.lines.push_jobs.Goals as goal

-- The line of a job, with its line feed.
abbrev text : ℕ × Job → List ℕ
text (number, job) = with_line_feed (job_line number job)

pub loop-number-preserved : goal.loop-number-preserved
loop-number-preserved c =
    let number = c.loop-number.number in
    let job = c.index-jobs-number.result in
    let wrote : string_bytes c.writeln.new.self ≡ string_bytes c.loop-number.lines ++ text (number, job) = search rules in
    wrote ∙ (ap (λ bs. bs ++ text (number, job)) c.loop-number.invariant
    ∙ texts_more text (string_bytes c.args.lines.now) c.args.jobs.now number job c.loop-number-test.true c.index-jobs-number.is)

pub returns : goal.returns
returns c =
    c.loop-number.invariant ∙ ap (λ bs. string_bytes c.args.lines.now ++ bs) (texts_all text c.args.jobs.now c.loop-number.number c.loop-number-test.false)

use Rattle.std.proofs.Common.{◌==◌, sym, ◌∙◌, ap}
use Rattle.fc_base.specs.JobParts.{is_within_limits}
use Rattle.job_file.specs.declared.fault.JobFault.TheVariants.{NoSize, OutOfLimits}
use Rattle.job_file.specs.Draft.{size_of, lacks_pattern_under, verify_of, parts_of}
use Rattle.job_file.proofs.Layers.{is_not_zero, record_made}
use Rattle.job_file.proofs.draft.Draft.rec.Goals as goal

pub returns-in-Some : goal.returns-in-Some
returns-in-Some c =
    let settings = c.args.self.now.settings in
    let number = c.args.number in
    record_made (size_of settings == 0) (lacks_pattern_under (verify_of settings) settings.verify_pattern) (is_within_limits (parts_of number settings))
    (parts_of number settings) c.in-Some.rec (NoSize number) (OutOfLimits number)
    (ap (λ n. n == 0) (sym c.size.ensures) ∙ is_not_zero c.size.result c.if-size-eq0.false) (sym c.if-lacks_pattern.ensures)
    (rw c.parts.ensures at c.in-Some.ensures)

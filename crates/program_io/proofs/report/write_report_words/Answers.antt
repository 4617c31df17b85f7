use Rattle.std.proofs.Common.{◌++◌, ap, ◌∙◌, subst, codes, decimal}
use Rattle.std.specs.List.{flat_map}
use Rattle.std.specs.Io.KnownBytes.{Appends}
use Rattle.std.proofs.KnownBytes.{Appends-trans}
use Rattle.std.proofs.lemmas.Result.{on_ok_weaker}
use Rattle.program_io.specs.Reports.{end_words, block_words}
use Rattle.program_io.specs.Words.{blank_before, with_blanks_between}
use Rattle.program_io.proofs.ReportLemmas.{report_text}
use Rattle.program_io.proofs.report.write_report_words.Goals as goal

pub returns : goal.returns
returns g c =
    let report = c.args.report.now in
    on_ok_weaker c.write_blocks.result
    (λ wrote. subst (Appends _ _)
    (ap (λ l. l ++ flat_map blank_before (block_words c.first.result.now))
    (ap (λ n. codes "checked " ++ (decimal n ++ (codes " faults "
    ++ (decimal c.faults.result ++ (codes " end " ++ (with_blanks_between (end_words c.end.result) ++ codes " first")))))) c.checked.ensures.value
    ∙ ap (λ n. codes "checked " ++ (decimal report.checked
    ++ (codes " faults " ++ (decimal n ++ (codes " end " ++ (with_blanks_between (end_words c.end.result) ++ codes " first")))))) c.faults.ensures.value
    ∙ ap (λ e. codes "checked " ++ (decimal report.checked
    ++ (codes " faults " ++ (decimal report.faults ++ (codes " end " ++ (with_blanks_between (end_words e) ++ codes " first")))))) c.end.ensures)
    ∙ ap (λ bs. (codes "checked " ++ (decimal report.checked
    ++ (codes " faults " ++ (decimal report.faults ++ (codes " end " ++ (with_blanks_between (end_words report.end) ++ codes " first"))))))
    ++ flat_map blank_before (block_words bs)) c.first.ensures.value
    ∙ report_text report.checked report.faults report.end (block_words report.first))
    (Appends-trans _ _ _ _ _ c.in_ok-write.ensures.bytes wrote))
    c.write_blocks.ensures

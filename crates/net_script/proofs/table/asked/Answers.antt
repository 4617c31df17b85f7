use Rattle.std.proofs.Common.{◌++◌, ◌∙◌, ap}
use Rattle.net_script.specs.Words.{words_of}
use Rattle.net_script.specs.Table.{or_unread, asking_rows, job_rows, cut_rows}
use Rattle.net_script.proofs.TableLemmas.{among, not_among, saves, not_saves}
use Rattle.net_script.proofs.table.asked.Goals as goal

pub returns-in-Some : goal.returns-in-Some
returns-in-Some c = saves c.args.word.now (words_of c.args.words.now) c.in-Some.line c.in-Some.ensures

pub returns-in-Some-asking : goal.returns-in-Some-asking
returns-in-Some-asking c =
    let word = c.args.word.now in
    let words = words_of c.args.words.now in
    among asking_rows (job_rows ++ cut_rows) word words c.in-Some-asking.line c.in-Some-asking.ensures
    ∙ not_saves word words c.saving.result c.saving.ensures c.in_default.not-Some

pub returns-in-Some-of_jobs : goal.returns-in-Some-of_jobs
returns-in-Some-of_jobs c =
    let word = c.args.word.now in
    let words = words_of c.args.words.now in
    among job_rows cut_rows word words c.in-Some-of_jobs.line c.in-Some-of_jobs.ensures
    ∙ not_among asking_rows (job_rows ++ cut_rows) word words c.asking.result c.asking.ensures c.in_default-asking.not-Some
    ∙ not_saves word words c.saving.result c.saving.ensures c.in_default.not-Some

pub returns-in-Some-cuts : goal.returns-in-Some-cuts
returns-in-Some-cuts c =
    let word = c.args.word.now in
    let words = words_of c.args.words.now in
    ap or_unread c.in-Some-cuts.ensures
    ∙ not_among job_rows cut_rows word words c.of_jobs.result c.of_jobs.ensures c.in_default-of_jobs.not-Some
    ∙ not_among asking_rows (job_rows ++ cut_rows) word words c.asking.result c.asking.ensures c.in_default-asking.not-Some
    ∙ not_saves word words c.saving.result c.saving.ensures c.in_default.not-Some

pub returns-in-None : goal.returns-in-None
returns-in-None c =
    let word = c.args.word.now in
    let words = words_of c.args.words.now in
    ap or_unread c.in-None.ensures
    ∙ not_among job_rows cut_rows word words c.of_jobs.result c.of_jobs.ensures c.in_default-of_jobs.not-Some
    ∙ not_among asking_rows (job_rows ++ cut_rows) word words c.asking.result c.asking.ensures c.in_default-asking.not-Some
    ∙ not_saves word words c.saving.result c.saving.ensures c.in_default.not-Some

use Rattle.std.proofs.Common.{◌≡◌, List, ◌++◌, length, append-nil, sym, ◌∙◌, ap}
use Rattle.std.proofs.lemmas.Bool.{eqb-true}
use Rattle.std.proofs.lemmas.List.{nil_from_length}
use Rattle.job_file.specs.declared.draft.Draft.{Draft}
use Rattle.job_file.specs.declared.job.LineNote.{LineNote}
use Rattle.job_file.specs.JobSet.{line_faults, notes_from}
use Rattle.job_file.specs.Line.{lines_of}
use Rattle.job_file.specs.Reader.{is_inside, drafts_coming}
use Rattle.job_file.specs.Section.{drafts_of}
use Rattle.job_file.proofs.Layers.{gives_at}
use Rattle.job_file.proofs.Sections.{drafts_with_none}
use Rattle.job_file.proofs.reader.contents_of.Goals as goal

pub returns : goal.returns
returns c =
    let nothing_left : length c.loop-rest.rest.now ≡ 0 = eqb-true _ 0 (sym c.loop-rest-test.ensures) in
    let left = nil_from_length c.loop-rest.rest.now nothing_left in
    let faults = ap (λ rest. line_faults c.loop-rest.number (is_inside c.loop-rest.reader.scope) (lines_of rest)) (sym left) ∙ c.loop-rest.invariant.faults in
    let drafts = ap (λ rest. drafts_coming c.loop-rest.reader (lines_of rest)) (sym left) ∙ c.loop-rest.invariant.drafts
    ∙ drafts_with_none (lines_of c.args.text.now) in
    let notes = sym (append-nil c.loop-rest.reader.notes.items)
    ∙ ap (λ rest. c.loop-rest.reader.notes.items ++ notes_from c.loop-rest.number (lines_of rest)) (sym left) ∙ c.loop-rest.invariant.notes in
    let pair : List Draft → List LineNote → List Draft × List LineNote = λ ds ns. (ds, ns) in
    gives_at (λ r. (r.drafts.items, r.notes.items)) c.finish.result c.finish.ensures faults
    (ap (λ ds. pair ds c.loop-rest.reader.notes.items) drafts ∙ ap (pair (drafts_of (lines_of c.args.text.now))) notes)

use Rattle.std.proofs.Common.{◌+◌, ◌∷◌, drop, sym, ◌∙◌, ap}
use Rattle.std.specs.Str.Lines.{lines}
use Rattle.std.proofs.lemmas.List.{take_rest}
use Rattle.job_file.proofs.Cut.{first_of_lines, lines_whole}
use Rattle.job_file.proofs.reader.first_line.Goals as goal

pub returns-in-Some-clause-lines : goal.returns-in-Some-clause-lines
returns-in-Some-clause-lines c =
    let text = c.args.text.now in
    let rest = drop (c.in-Some.end + 1) text in
    first_of_lines text c.in-Some.end (sym c.in-Some.ensures) ∙ ap (λ l. l ∷ lines rest) (sym c.without_return.ensures)
    ∙ ap (λ r. c.without_return.result.now ∷ lines r) (sym (take_rest text (c.in-Some.end + 1)))

pub returns-in-None-clause-lines : goal.returns-in-None-clause-lines
returns-in-None-clause-lines c = lines_whole c.args.text.now c.requires (sym c.in-None.ensures)

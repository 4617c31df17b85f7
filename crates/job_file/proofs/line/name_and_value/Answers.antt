use Rattle.std.proofs.Common.{◌+◌, sym, ◌∙◌, ap, Some}
use Rattle.std.proofs.lemmas.List.{take_rest}
use Rattle.job_file.specs.Bytes.{trimmed}
use Rattle.job_file.proofs.Texts.{value_behind, value_none}
use Rattle.job_file.proofs.line.name_and_value.Goals as goal

pub returns-in-Some-clause-value : goal.returns-in-Some-clause-value
returns-in-Some-clause-value c =
    ap Some (c.trimmed-in-Some.ensures ∙ ap trimmed (take_rest c.args.line.now (c.in-Some.at + 1)))
    ∙ sym (value_behind c.args.line.now c.in-Some.at (sym c.in-Some.ensures))

pub returns-in-None-clause-value : goal.returns-in-None-clause-value
returns-in-None-clause-value c = sym (value_none c.args.line.now (sym c.in-None.ensures))

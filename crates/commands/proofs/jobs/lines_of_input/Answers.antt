use Rattle.std.proofs.Common.{string_bytes, subst}
use Rattle.commands.specs.Answer.{AnswersText}
use Rattle.commands.proofs.Whole.{answers_whole}
use Rattle.commands.proofs.jobs.lines_of_input.Goals as goal

pub returns-clause-answer : goal.returns-clause-answer
returns-clause-answer g c =
    answers_whole c.read_law.ensures.whole c.read_law.ensures.fronts string_bytes _ _ c.in_ok-text.text.items c.lines_of_text.result c.in_ok-text.ensures.ok
    (subst (AnswersText string_bytes c.lines_of_text.result) c.deref.ensures.value c.lines_of_text.ensures)

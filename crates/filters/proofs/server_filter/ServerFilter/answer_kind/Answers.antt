use Rattle.std.proofs.Common.{Some, sym, subst}
use Rattle.messages.specs.FrameBytes.{frame_at, frame_faults}
use Rattle.server_core.specs.declared.input.WriteEnd.TheVariants as ends
use Rattle.filters.specs.CheckRuns.{IsHere}
use Rattle.filters.specs.ServerLives.{TakesBody, TakesKind, end_in, frame_in}
use Rattle.filters.specs.Steps.{AnswersBy}
use Rattle.filters.proofs.ServerTakeLemmas.{body_taken}
use Rattle.filters.proofs.server_filter.ServerFilter.answer_kind.Goals as goal

pub returns-in-Frame : goal.returns-in-Frame
returns-in-Frame g c =
    let body = c.args.body.now in
    let old = c.args.self.now in
    let new = c.write_answer.new.self in
    let first = g.W.Output.written c.args.writer.now in
    let text = g.W.Output.written c.write_answer.new.writer in
    let wrote = c.write_answer.ensures in
    subst (λ k. AnswersBy (λ o at now answer. TakesKind o at (Some k) body now answer) (IsHere old) (IsHere new) first text)
    (sym c.in-Frame.is)
    (body_taken (λ o past. frame_in (frame_faults body) (frame_at body)) old c.deliver-answer.new.self new c.deliver-answer.result first text
    c.deliver-answer.ensures.ends c.deliver-answer.ensures.checks wrote)

pub returns-in-Done : goal.returns-in-Done
returns-in-Done g c =
    let body = c.args.body.now in
    let old = c.args.self.now in
    let new = c.write_answer-in-Done.new.self in
    let first = g.W.Output.written c.args.writer.now in
    let text = g.W.Output.written c.write_answer-in-Done.new.writer in
    let wrote = c.write_answer-in-Done.ensures in
    subst (λ k. AnswersBy (λ o at now answer. TakesKind o at (Some k) body now answer) (IsHere old) (IsHere new) first text)
    (sym c.in-Done.is)
    (subst (λ name. AnswersBy (λ o at now answer. TakesBody o at (end_in o at.list ends.Done name) now answer) (IsHere old) (IsHere new) first text)
    c.write_name.ensures
    (body_taken (λ o past. end_in o past ends.Done c.write_name.result) old c.end_write-answer.new.self new c.end_write-answer.result
    first text c.end_write-answer.ensures.ends c.end_write-answer.ensures.checks wrote))

pub returns-in-Failed : goal.returns-in-Failed
returns-in-Failed g c =
    let body = c.args.body.now in
    let old = c.args.self.now in
    let new = c.write_answer-in-Failed.new.self in
    let first = g.W.Output.written c.args.writer.now in
    let text = g.W.Output.written c.write_answer-in-Failed.new.writer in
    let wrote = c.write_answer-in-Failed.ensures in
    subst (λ k. AnswersBy (λ o at now answer. TakesKind o at (Some k) body now answer) (IsHere old) (IsHere new) first text)
    (sym c.in-Failed.is)
    (subst (λ name. AnswersBy (λ o at now answer. TakesBody o at (end_in o at.list ends.Failed name) now answer) (IsHere old) (IsHere new) first text)
    c.write_name-in-Failed.ensures
    (body_taken (λ o past. end_in o past ends.Failed c.write_name-in-Failed.result) old c.end_write-answer-in-Failed.new.self new c.end_write-answer-in-Failed.result
    first text c.end_write-answer-in-Failed.ensures.ends c.end_write-answer-in-Failed.ensures.checks wrote))

pub returns-in-Blocks : goal.returns-in-Blocks
returns-in-Blocks g c =
    let wrote = c.answer_blocks.ensures in
    subst (λ k. AnswersBy (λ o at now answer. TakesKind o at (Some k) c.args.body.now now answer) (IsHere c.args.self.now) (IsHere c.answer_blocks.new.self)
    (g.W.Output.written c.args.writer.now) (g.W.Output.written c.answer_blocks.new.writer))
    (sym c.in-Blocks.is) wrote

pub returns-in-Unread : goal.returns-in-Unread
returns-in-Unread g c =
    let wrote = c.answer_unread.ensures in
    subst (λ k. AnswersBy (λ o at now answer. TakesKind o at (Some k) c.args.body.now now answer) (IsHere c.args.self.now) (IsHere c.answer_unread.new.self)
    (g.W.Output.written c.args.writer.now) (g.W.Output.written c.answer_unread.new.writer))
    (sym c.in-Unread.is) wrote

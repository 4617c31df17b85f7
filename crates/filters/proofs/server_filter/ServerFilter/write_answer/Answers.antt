use Rattle.std.proofs.Common.{Ok, ◌++◌, sym, subst}
use Rattle.server_core.specs.FrameEnds.{note_in}
use Rattle.filters.specs.Kept.{note_kept}
use Rattle.filters.specs.Records.{end_bytes}
use Rattle.filters.specs.NodeTells.{answer_bytes}
use Rattle.filters.specs.ServerRuns.{WritesAnswer}
use Rattle.filters.proofs.OutputLemmas.{puts_both}
use Rattle.filters.proofs.server_filter.ServerFilter.write_answer.Goals as goal

pub returns-in-Ok : goal.returns-in-Ok
returns-in-Ok g c =
    let first = g.W.Output.written c.args.writer.now in
    let second = g.W.Output.written c.put_answered.new.writer in
    let last = g.W.Output.written c.put_end.new.writer in
    let turns = c.go_on.ensures in
    let told = answer_bytes (note_in note_kept c.args.self.now.server).bytes c.in-Ok.answered in
    subst (λ a. WritesAnswer a c.args.self.now c.go_on.new.self first last) (sym c.in-Ok.is) (
      turns.answer,
      puts_both first second last told (turns.answer ++ end_bytes (Ok tt)) c.put_answered.ensures
          (puts_both second (g.W.Output.written c.go_on.new.writer) last turns.answer (end_bytes (Ok tt)) turns.written c.put_end.ensures),
      turns.takes,
    )

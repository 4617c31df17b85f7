use Rattle.std.proofs.Common.{subst, ◌∙◌}
use Rattle.std.specs.Prelude.{IfSome}
use Rattle.std.specs.Io.Buffered.{reader_remaining}
use Rattle.targets.specs.Runs.{Runs}
use Rattle.targets.specs.Writing.{Steps}
use Rattle.targets.proofs.RunLemmas.{step_ends, step_goes_on}
use Rattle.targets.proofs.writing.Writes.run.Goals as goal

pub returns-in-Some : goal.returns-in-Some
returns-in-Some g c first_input first_text so_far =
    let now = c.loop-end.invariant.so_far first_input first_text so_far in
    let input = reader_remaining g.R.Read.remaining c.loop-end.reader in
    let new_input = reader_remaining g.R.Read.remaining c.step.new.reader in
    let text = g.W.Write.contents c.loop-end.writer in
    let new_text = g.W.Write.contents c.step.new.writer in
    subst (λ o. IfSome first_input (λ whole. Runs o whole first_text new_text c.in-Some.end)) c.loop-end.invariant.origin
    (step_ends c.loop-end.self.engine c.step.new.self.engine first_input input new_input first_text text new_text c.in-Some.end now
    (subst (Steps now.history c.loop-end.self.engine c.step.new.self.engine input new_input text new_text) c.in-Some.is
    (c.in_ok-end.ensures.step now.history now.stands)))

pub loop-end-preserved : goal.loop-end-preserved
loop-end-preserved g c =
    let input = reader_remaining g.R.Read.remaining c.loop-end.reader in
    let new_input = reader_remaining g.R.Read.remaining c.step.new.reader in
    let text = g.W.Write.contents c.loop-end.writer in
    let new_text = g.W.Write.contents c.step.new.writer in
    record {
      so_far = λ first_input first_text so_far.
          let now = c.loop-end.invariant.so_far first_input first_text so_far in
          (step_goes_on c.loop-end.self.engine c.step.new.self.engine first_input input new_input first_text text new_text now
          (subst (Steps now.history c.loop-end.self.engine c.step.new.self.engine input new_input text new_text) c.in_default.is
          (c.in_ok-end.ensures.step now.history now.stands))).0;
      origin = c.step.ensures.origin ∙ c.loop-end.invariant.origin;
    }

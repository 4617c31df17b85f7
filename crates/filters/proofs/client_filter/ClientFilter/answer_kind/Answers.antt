use Rattle.std.proofs.Common.{Some, sym, subst}
use Rattle.filters.specs.ClientLives.{TakesKind}
use Rattle.filters.specs.ClientRuns.{FilterIsAt}
use Rattle.filters.specs.Steps.{AnswersBy}
use Rattle.filters.proofs.TakeLemmas.{kind_taken}
use Rattle.filters.proofs.client_filter.ClientFilter.answer_kind.Goals as goal

pub returns-in_default : goal.returns-in_default
returns-in_default g c =
    let b = c.answer_body.ensures in
    record {
      answer = b.answer;
      written = b.written;
      takes = λ o at h. let t = b.takes o at h in (
        t.0,
        t.1,
        kind_taken o at c.args.kind c.args.body.now t.0 b.answer c.in_default.not-Look c.in_default.not-Show c.in_default.not-Ends t.2,
      );
    }

pub returns-in-Ends : goal.returns-in-Ends
returns-in-Ends g c =
    subst (λ kind. AnswersBy (λ o at now answer. TakesKind o at (Some kind) c.args.body.now now answer)
    (FilterIsAt c.args.self.now) (FilterIsAt c.args.self.now) (g.W.Output.written c.args.writer.now) (g.W.Output.written c.tell_ends.new.writer))
    (sym c.in-Ends.is) c.tell_ends.ensures

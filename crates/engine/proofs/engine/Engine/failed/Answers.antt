use Rattle.std.proofs.Common.{◌≡◌, ap, sym, ◌∙◌, arith, ◌∷◌}
use Rattle.std.proofs.Math.Logic.{∥∥₁_map}
use Rattle.engine.specs.History.{fail}
use Rattle.engine.specs.Numbers.{without}
use Rattle.engine.specs.Kept.{Kept}
use Rattle.fc_base.specs.Counted.{has}
use Rattle.engine.specs.Running.{Running}
use Rattle.engine.specs.Answers.{ticket_answer}
use Rattle.engine.specs.Inside.{running_in, origin_in}
use Rattle.engine.proofs.AnswerLemmas.{open_from_verdict, not_refused}
use Rattle.engine.proofs.WriteLemmas.{closed, without_is_shorter}
use Rattle.engine.proofs.RunningLemmas.{fail_step}
use Rattle.engine.proofs.engine.Engine.failed.Goals as goal

pub invariant_of-self : goal.invariant_of-self
invariant_of-self c =
    let opened = open_from_verdict (origin_in c.self.inside) c.self.inside.window.open_writes c.args.ticket
    (c.in_ok-check.ensures ∙ ap (λ (r : Running). ticket_answer r.origin r.kept.open_writes c.args.ticket) (sym c.self.view_is)) in
    absurd (not_refused (has c.self.inside.window.open_writes c.args.ticket.seq) _ opened c.in_err-fail.ensures.answer)

pub returns-in_err-fail-clause-answer : goal.returns-in_err-fail-clause-answer
returns-in_err-fail-clause-answer c =
    let opened = open_from_verdict (origin_in c.self.inside) c.self.inside.window.open_writes c.args.ticket
    (c.in_ok-check.ensures ∙ ap (λ (r : Running). ticket_answer r.origin r.kept.open_writes c.args.ticket) (sym c.self.view_is)) in
    absurd (not_refused (has c.self.inside.window.open_writes c.args.ticket.seq) _ opened c.in_err-fail.ensures.answer)

pub invariant_of-self-2 : goal.invariant_of-self-2
invariant_of-self-2 c =
    let i = c.self.invariant in
    let k = c.args.ticket.seq in
    let left = c.in_ok-fail.ensures.left in
    let opened : c.fail.new.self.open_writes ≡ without k c.self.inside.window.open_writes = ap (λ (x : Kept). x.open_writes) left in
    let flying : c.fail.new.self.in_flight ≡ c.self.inside.window.in_flight = ap (λ (x : Kept). x.in_flight) left in
    record {
      limits = i.limits;
      key = i.key;
      depth = ap (λ (x : Kept). x.depth) left ∙ i.depth;
      window = ap (λ (x : Kept). x.window) left ∙ i.window;
      order = let same : c.fail.new.self.issued ≡ c.self.inside.window.issued = ap (λ (x : Kept). x.issued) left in rw same i.order;
      open_writes = rw (c.close.ensures.items, i.open_writes, opened) (closed c.self.inside.rec k c.self.inside.window.open_writes);
      few = rw opened (omega (arith, i.few, without_is_shorter k c.self.inside.window.open_writes));
      room = rw c.close.ensures.room i.room;
      none_failed = λ e. cc;
      history = ∥∥₁_map i.history (λ p. (fail k ∷ p.0, fail_step (running_in c.self.inside) _ k c.in_ok-fail.ensures.added p.0 p.1));
    }

use Rattle.std.proofs.Common.{◌≡◌, ◌∙◌, ap, sym, true, ◌==◌}
use Rattle.client_core.specs.Requests.{verify_at}
use Rattle.client_core.specs.RequestStatus.{IsRequestKept}
use Rattle.client_core.proofs.PlaceLemmas.{each_set, when_true, when_false, same_number, both_true}
use Rattle.client_core.proofs.attempt_asked.AttemptAsked.hear_report.Goals as goal

pub returns-then-eq : goal.returns-then-eq
returns-then-eq c attempt deeds report h =
    let now = verify_at attempt c.args.server deeds in
    let same : (c.args.run == c.args.self.now.run) ≡ true = sym c.eq.ensures ∙ c.if-eq.true in
    record {
      number = h.number;
      range = h.range;
      run = h.run;
      text = h.text;
      verifies = each_set c.args.self.now.verifies _ _ c.args.server _ _
          (λ k. when_true _ (IsRequestKept _) _ now (same_number c.args.server)
          (when_true _ (IsRequestKept _) _ now (both_true _ _ (ap (λ r. c.args.run == r) (sym h.run) ∙ same) (same_number attempt)) (c.tell.ensures now k)))
          (λ s x n k. when_false _ (IsRequestKept x) _ _ n k) h.verifies;
    }

use Rattle.std.proofs.Common.{subst}
use Rattle.client_core.specs.Requests.{verify_at, verify_heard}
use Rattle.client_core.specs.RequestStatus.{IsRequestKept}
use Rattle.client_core.proofs.PlaceLemmas.{each_set, when_true, when_false, same_number}
use Rattle.client_core.proofs.attempt_asked.AttemptAsked.hear.Goals as goal

pub returns : goal.returns
returns c deeds h =
    let attempt = c.args.attempt in
    let now = verify_at attempt c.args.server deeds in
    record {
      number = h.number;
      range = h.range;
      run = h.run;
      text = h.text;
      verifies = each_set c.args.self.now.verifies _ _ c.args.server _ c.hear_verify.new.self
          (λ k. when_true _ (IsRequestKept c.hear_verify.new.self) _ now (same_number c.args.server)
          (subst (λ run. IsRequestKept c.hear_verify.new.self (verify_heard run attempt c.args.body.now now)) h.run (c.hear_verify.ensures now k)))
          (λ s x n k. when_false _ (IsRequestKept x) _ _ n k) h.verifies;
    }

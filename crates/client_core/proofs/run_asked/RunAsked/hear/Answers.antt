use Rattle.std.proofs.Common.{◌≡◌, ◌∙◌, ap}
use Rattle.client_core.specs.Begins.{begin_at, begin_heard}
use Rattle.client_core.specs.Requests.{trigger_at, stop_at}
use Rattle.client_core.specs.RequestStatus.{IsRequestKept}
use Rattle.client_core.proofs.PlaceLemmas.{each_set, when_true, when_false, same_number}
use Rattle.client_core.proofs.run_asked.RunAsked.hear.Goals as goal

pub returns : goal.returns
returns c deeds h =
    let run = c.args.run in
    let here = same_number c.args.server in
    record {
      range = h.range;
      text = h.text;
      act = h.act;
      begins = each_set c.args.self.now.begins _ _ c.args.server _ c.heard.result
          (λ b. when_true _ (λ w. c.heard.result ≡ w) _ (begin_at run c.args.server deeds) here (c.heard.ensures ∙ ap (begin_heard run c.args.body.now) b))
          (λ s x n b. when_false _ (λ w. x ≡ w) _ _ n b) h.begins;
      triggers = each_set c.args.self.now.triggers _ _ c.args.server _ c.hear_trigger.new.self
          (λ k. when_true _ (IsRequestKept c.hear_trigger.new.self) _ (trigger_at run c.args.server deeds) here
          (c.hear_trigger.ensures (trigger_at run c.args.server deeds) k))
          (λ s x n k. when_false _ (IsRequestKept x) _ _ n k) h.triggers;
      stops = each_set c.args.self.now.stops _ _ c.args.server _ c.hear_stop.new.self
          (λ k. when_true _ (IsRequestKept c.hear_stop.new.self) _ (stop_at run c.args.server deeds) here
          (c.hear_stop.ensures (stop_at run c.args.server deeds) k))
          (λ s x n k. when_false _ (IsRequestKept x) _ _ n k) h.stops;
    }

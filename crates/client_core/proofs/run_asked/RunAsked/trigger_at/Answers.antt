use Rattle.std.proofs.Common.{◌∙◌, ◌<◌, length, arith}
use Rattle.client_core.specs.Requests.{trigger_at}
use Rattle.std.proofs.lemmas.Option.{slice_get-get_or}
use Rattle.client_core.proofs.StandingLemmas.{outcome_kept}
use Rattle.client_core.proofs.run_asked.RunAsked.trigger_at.Goals as goal

pub returns : goal.returns
returns c number deeds h =
    let at : c.args.server < length c.args.self.now.triggers = omega arith in
    c.outcome.ensures ∙ outcome_kept _ (trigger_at number c.args.server deeds)
    (h.triggers c.args.server _ (slice_get-get_or c.args.self.now.triggers c.args.server _ at))

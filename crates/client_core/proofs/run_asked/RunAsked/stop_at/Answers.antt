use Rattle.std.proofs.Common.{◌∙◌, ◌<◌, length, arith}
use Rattle.client_core.specs.Requests.{stop_at}
use Rattle.std.proofs.lemmas.Option.{slice_get-get_or}
use Rattle.client_core.proofs.StandingLemmas.{outcome_kept}
use Rattle.client_core.proofs.run_asked.RunAsked.stop_at.Goals as goal

pub returns : goal.returns
returns c number deeds h =
    let at : c.args.server < length c.args.self.now.stops = omega arith in
    c.outcome.ensures ∙ outcome_kept _ (stop_at number c.args.server deeds)
    (h.stops c.args.server _ (slice_get-get_or c.args.self.now.stops c.args.server _ at))

use Rattle.std.proofs.Common.{sym, ◌∙◌, ap}
use Rattle.client_core.specs.Hearing.{packets_heard}
use Rattle.client_core.specs.Words.{kept_state}
use Rattle.net_world.specs.Trace.{client_opening}
use Rattle.net_world.specs.Asking.{entries}
use Rattle.net_world.proofs.ClientHeardLemmas.{heard_is}
use Rattle.net_world.proofs.LookLemmas.{off_saved, on_saved}
use Rattle.net_world.proofs.world.World.saved.Goals as goal

pub returns-in-Some : goal.returns-in-Some
returns-in-Some c w past stands =
    let o = client_opening w in
    let es = entries w past in
    let h = c.in-Some.ensures o es stands.client_is in
    c.saved.ensures o es h.1 ∙ ap (λ list. kept_state o list c.args.key) (c.looks_at_all.ensures (packets_heard o es) h.2 ∙ heard_is w past)
    ∙ sym (on_saved w past c.args.key h.2)

pub returns-in-None : goal.returns-in-None
returns-in-None c w past stands = sym (off_saved w past c.args.key (c.in-None.ensures (client_opening w) (entries w past) stands.client_is))

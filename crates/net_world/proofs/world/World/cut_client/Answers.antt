use Rattle.std.proofs.Common.{refl, sym, ◌∙◌, ap, length, List, ℕ}
use Rattle.messages.specs.declared.node.Node.TheVariants.{Client}
use Rattle.client_core.specs.Hearing as hearing
use Rattle.net_world.specs.Trace.{client_opening}
use Rattle.net_world.specs.Happenings.{Cut}
use Rattle.net_world.specs.Asking.{entries}
use Rattle.net_world.proofs.AskLemmas.{nothing_sent}
use Rattle.net_world.proofs.ServeLemmas.{settled}
use Rattle.net_world.proofs.EndsLemmas.{refuses}
use Rattle.net_world.proofs.ClientPlainLemmas.{plain_ends, cut_off, cut_plain}
use Rattle.net_world.proofs.world.World.cut_client.Goals as goal

pub returns-then-not-runs : goal.returns-then-not-runs
returns-then-not-runs c w past stands =
    refuses w past (Cut Client) _ c.args.self.now refl (cut_off w past
    (sym (c.runs.ensures (client_opening w) (entries w past) stands.client_is) ∙ c.if-not-runs.true)) stands

pub returns-in_default : goal.returns-in_default
returns-in_default c w past stands = (refl, settled w past c.args.self.now _ stands c.settle.ensures.same refl refl refl refl)

pub returns : goal.returns
returns c w past stands =
    plain_ends w past (Cut Client) hearing.Cut c.in-Ok.first c.plain.result c.args.self.now _ stands
    (nothing_sent c.settle.ensures.same refl refl refl)
    (c.cut.ensures (client_opening w) (entries w past) stands.client_is)
    (cut_plain w past (sym (c.runs.ensures (client_opening w) (entries w past) stands.client_is) ∙ c.if-not-runs.false))
    refl
    (c.in-Ok.ensures.first ∙ ap (λ (fs : List (List ℕ)). length fs) c.settle.ensures.same)
    c.plain.ensures

use Rattle.std.proofs.Common.{refl, sym, ◌∙◌, ap, length, List, ℕ}
use Rattle.std.proofs.lemmas.Result.{err_from_is_err_and}
use Rattle.client_core.specs.Hearing as hearing
use Rattle.net_world.specs.Happenings.{LoseNote}
use Rattle.net_world.specs.Trace.{client_opening}
use Rattle.net_world.specs.Asking.{entries}
use Rattle.net_world.proofs.AskLemmas.{nothing_sent}
use Rattle.net_world.proofs.ClientPlainLemmas.{plain_ends}
use Rattle.net_world.proofs.RenewalEndsLemmas.{loss_plain, loss_ends}
use Rattle.net_world.proofs.world.World.lose_note.Goals as goal

pub returns : goal.returns
returns c w past stands =
    let free = sym (c.unlosable.ensures.why w past stands) ∙ c.in_default.is in
    plain_ends w past LoseNote hearing.Lose c.in-Ok.first c.plain.result c.args.self.now _ stands
    (nothing_sent c.settle.ensures.same refl refl refl)
    (c.in_ok-lose.ensures (client_opening w) (entries w past) stands.client_is).1
    (loss_plain w past free)
    refl
    (c.in-Ok.ensures.first ∙ ap (λ (fs : List (List ℕ)). length fs) c.settle.ensures.same)
    c.plain.ensures

pub returns-in_err-lose : goal.returns-in_err-lose
returns-in_err-lose c w past stands =
    let p = err_from_is_err_and c.from_residual.result c.from_residual.ensures.1 in
    rw (p.1, p.2)
    (loss_ends w past c.in_err-lose.field-0.0 c.args.self.now _ stands
    (nothing_sent c.settle.ensures.same refl refl refl)
    (sym (c.unlosable.ensures.why w past stands) ∙ c.in_default.is)
    (c.in_err-lose.ensures (client_opening w) (entries w past) stands.client_is))

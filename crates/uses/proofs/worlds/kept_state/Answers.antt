use Rattle.std.proofs.Common.{[], refl, sym, ◌∙◌}
use Rattle.net_world.specs.Claims.{happenings_of, world_of}
use Rattle.net_world.specs.Setup.{setup_of}
use Rattle.uses.proofs.WorldLemmas.{if_some, shown_is_held}
use Rattle.uses.proofs.worlds.kept_state.Goals as goal

pub returns : goal.returns
returns c =
    let w = setup_of c.args.config in
    let past = world_of c.args.config c.args.events.now in
    let now = happenings_of c.args.events.now in
    let key = c.args.key in
    let shown = c.copied.ensures ∙ c.saved.ensures w past c.in_ok-world.ensures.stands in
    record {
      taken = if_some c.copied.result _ (λ state is. c.in_ok-world.ensures.one_state [] now refl key state (shown_is_held w past key state (sym shown ∙ is)));
      counts = if_some c.copied.result _ (λ state is. c.in_ok-world.ensures.counts [] now refl key state (shown_is_held w past key state (sym shown ∙ is)));
    }

use Rattle.std.proofs.Common.{◌∙◌, ap, sym, take, drop, ◌++◌, ◌∷◌}
use Rattle.std.specs.Prelude.{map, Some}
use Rattle.std.specs.Option.{option_map}
use Rattle.net_world.specs.Events.{happening}
use Rattle.net_world.specs.PutIn.{stopped_before}
use Rattle.net_world.proofs.PutLemmas.{stopped_by}
use Rattle.net_world.proofs.put_in.with_stop.Goals as goal

pub returns-in_default : goal.returns-in_default
returns-in_default c =
    let all = map happening c.args.events.now in
    ap (λ x. option_map (stopped_before c.args.at c.args.node all) (option_map happening x)) (sym c.in_default.is)
    ∙ sym (stopped_by c.args.events.now c.args.landed c.args.node c.args.at c.index-events-at.result _ c.requires c.index-events-at.is c.in_ok-stop.ensures)

pub returns : goal.returns
returns c =
    let all = map happening c.args.events.now in
    let at = c.args.at in
    ap Some (c.in_ok-all.ensures ∙ ap (λ h. take at all ++ happening c.in-Some.stop ∷ h ∷ drop at all) c.restart.ensures)
    ∙ ap (λ x. option_map (stopped_before at c.args.node all) (option_map happening x)) (sym c.in-Some.is)
    ∙ sym (stopped_by c.args.events.now c.args.landed c.args.node at c.index-events-at.result _ c.requires c.index-events-at.is c.in_ok-stop.ensures)

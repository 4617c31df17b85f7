use Rattle.std.proofs.Common.{refl, ◌∙◌, ap, subst, inl}
use Rattle.net_world.specs.ClientNodes.{Stands}
use Rattle.net_world.proofs.ClientNodeLemmas.{says_blank}
use Rattle.net_world.proofs.client_node.renewal.lose.Goals as goal

pub returns-in-Off : goal.returns-in-Off
returns-in-Off c o past stands =
    let h = subst (Stands o past) c.in-Off.is stands in
    let none = ap (λ m. m.bytes) c.new-in-Off.ensures ∙ c.new.ensures.items in
    (h.1, ((says_blank _ none, inl none), refl))

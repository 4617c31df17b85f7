use Rattle.node.specs.Hearers.{entries}
use Rattle.node.proofs.HearerLemmas.{whole_accepts}
use Rattle.node.proofs.hearer.Hearer.accept.Goals as goal

pub returns : goal.returns
returns g c o past s =
    let k = g.C.PacketCore.kind o in
    whole_accepts k (g.met.C.PacketCore.keeps_laws o) past c.args.packet c.args.self.now c.accept.new.self c.accept.result c.keeps_its_ranges.ensures s
    (c.accept.ensures o (entries k past) s.core)

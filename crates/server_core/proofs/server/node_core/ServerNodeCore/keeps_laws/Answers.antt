use Rattle.server_core.proofs.NodeLemmas.{laws}
use Rattle.server_core.proofs.server.node_core.ServerNodeCore.keeps_laws.Goals as goal

pub returns : goal.returns
returns g c o = laws g.N.Notes.note o

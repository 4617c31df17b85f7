use Rattle.client_core.proofs.NodeLemmas.{laws}
use Rattle.client_core.proofs.client.node_core.ClientNodeCore.keeps_laws.Goals as goal

pub returns : goal.returns
returns g c o = laws g.N.Notes.note o

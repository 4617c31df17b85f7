-- A frame is taken by what hears in the server.
use Rattle.std.specs.Prelude.{map}
use Rattle.server_core.specs.declared.input.Input.TheVariants.{Deliver}
use Rattle.server_core.specs.Hearing.{coming_of}
use Rattle.server_core.proofs.FrameEndLemmas.{hearer_ends}
use Rattle.server_core.proofs.server.Server.deliver.Goals as goal

pub returns-clause-ends : goal.returns-clause-ends
returns-clause-ends g c o past s =
    hearer_ends g.N.Notes.note o past (Deliver c.args.frame) c.args.self.now (record c.args.self.now { hearer = c.deliver.new.self }) c.deliver.result
    (c.deliver.ensures o (map coming_of past) s).0

pub returns-clause-ranges : goal.returns-clause-ranges
returns-clause-ranges g c o past s = (c.deliver.ensures o (map coming_of past) s).1

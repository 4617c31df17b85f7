-- A frame is taken by what hears in the client.
use Rattle.std.specs.Prelude.{map}
use Rattle.client_core.specs.Inputs.{Deliver}
use Rattle.client_core.specs.Hearing.{coming_of}
use Rattle.client_core.proofs.FrameEndLemmas.{hearer_ends}
use Rattle.client_core.proofs.client.Client.deliver.Goals as goal

pub returns-clause-ends : goal.returns-clause-ends
returns-clause-ends g c o past s =
    let taken = c.deliver.ensures o (map coming_of past) s in
    hearer_ends g.N.Notes.note o past (Deliver c.args.frame) c.args.self.now (record { hearer = c.deliver.new.self }) c.deliver.result
    c.frames_are_short.ensures taken.1 taken.0

pub returns-clause-ranges : goal.returns-clause-ranges
returns-clause-ranges g c o past s = (c.deliver.ensures o (map coming_of past) s).1

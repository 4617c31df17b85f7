use Rattle.std.proofs.Common.{refl}
use Rattle.client_core.specs.Inputs as inputs
use Rattle.client_core.specs.Hearing.{packets_heard}
use Rattle.client_core.proofs.FrameEndLemmas.{whole_ends}
use Rattle.client_core.proofs.client.Client.stop.Goals as goal

pub returns : goal.returns
returns g c o past s =
    whole_ends g.N.Notes.note o past (inputs.Stop c.args.run)
    (inputs.Stop c.args.run) c.args.self.now c.stop.new.self c.stop.result c.frames_are_short.ensures tt refl s
    (c.stop.ensures o (packets_heard o past) s.core)

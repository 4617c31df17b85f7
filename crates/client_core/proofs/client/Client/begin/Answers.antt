use Rattle.std.proofs.Common.{refl}
use Rattle.client_core.specs.Inputs as inputs
use Rattle.client_core.specs.Hearing.{packets_heard}
use Rattle.client_core.specs.Words.{words_noted}
use Rattle.client_core.proofs.FrameEndLemmas.{whole_gives}
use Rattle.client_core.proofs.client.Client.begin.Goals as goal

pub returns : goal.returns
returns g c o past s =
    whole_gives g.N.Notes.note o past (inputs.Begin c.args.text.now) (inputs.Begin c.args.text.now)
    (words_noted o (packets_heard o past)).runs c.args.self.now c.begin.new.self c.begin.result c.frames_are_short.ensures tt refl s
    (c.begin.ensures o (packets_heard o past) s.core)

use Rattle.std.proofs.Common.{refl}
use Rattle.client_core.specs.Inputs as inputs
use Rattle.client_core.specs.Hearing.{packets_heard}
use Rattle.client_core.specs.Words.{words_noted}
use Rattle.client_core.proofs.FrameEndLemmas.{whole_gives}
use Rattle.client_core.proofs.client.Client.verify.Goals as goal

pub returns : goal.returns
returns g c o past s =
    whole_gives g.N.Notes.note o past (inputs.Verify c.args.run c.args.text.now) (inputs.Verify c.args.run c.args.text.now)
    (words_noted o (packets_heard o past)).attempts c.args.self.now c.verify.new.self c.verify.result c.frames_are_short.ensures tt refl s
    (c.verify.ensures o (packets_heard o past) s.core)

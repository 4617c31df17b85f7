use Rattle.std.proofs.Common.{◌<◌, length, arith}
use Rattle.std.proofs.lemmas.Option.{slice_get-get_or}
use Rattle.client_core.proofs.run_asked.RunAsked.begin_at.Goals as goal

pub returns : goal.returns
returns c run deeds h =
    let at : c.args.server < length c.args.self.now.begins = omega arith in
    h.begins c.args.server _ (slice_get-get_or c.args.self.now.begins c.args.server _ at)

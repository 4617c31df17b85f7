use Rattle.std.proofs.Common.{subst}
use Rattle.server_core.specs.Words.{boot, last_run}
use Rattle.server_core.proofs.HeldLemmas.{Of, check_of}
use Rattle.server_core.proofs.check_law.open_check_is_last.Goals as goal

pub returns : goal.returns
returns c o past now is =
    let h = subst (Of o.me (boot o past) (last_run o past)) is (check_of o past) in
    record { server = h.server; boot_is = h.boot_is; run = h.run }

use Rattle.std.proofs.Common.{subst, arith, sym}
use Rattle.client_core.specs.declared.request_status.RequestStatus.{RequestStatus}
use Rattle.client_core.specs.Requests.{Telling, when_one_tells}
use Rattle.client_core.specs.RequestStatus.{IsRequestKept}
use Rattle.client_core.proofs.StandingLemmas.{tells}
use Rattle.client_core.proofs.request_status.RequestStatus.tell.Goals as goal

pub returns-in-Open : goal.returns-in-Open
returns-in-Open c =
    let t : Telling = record { job = c.args.job; jobs = c.args.jobs; misfit = c.args.misfit } in
    λ q k. subst (λ (s : RequestStatus). IsRequestKept s (when_one_tells t q)) (sym c.answer.ensures)
    (tells t c.args.self.now q c.requires.job (omega arith) c.in-Open.is k)

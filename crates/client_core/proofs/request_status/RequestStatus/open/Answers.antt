use Rattle.std.proofs.Common.{refl, inl, arith}
use Rattle.client_core.proofs.StandingLemmas.{unset}
use Rattle.client_core.proofs.request_status.RequestStatus.open.Goals as goal

pub returns : goal.returns
returns c = record {
  open_yet = refl;
  jobs = refl;
  few = omega arith;
  any = inl refl;
  told_of = λ job l. unset job;
  misfit = refl;
}

use Rattle.std.proofs.Common.{refl}
use Rattle.verify_state.specs.Misfit.{misfit}
use Rattle.verify_state.proofs.law.same_states_fit_alike.Goals as goal

pub returns : goal.returns
unfolding misfit
returns c a b same key job = rw (same.key, same.job, same.issued, same.place) refl

use Rattle.std.proofs.Common.{refl}
use Rattle.recheck.proofs.law.same_states_check_alike.Goals as goal

pub returns : goal.returns
returns c a b same fatal key job held blocks = rw (same.issued, same.counted) refl

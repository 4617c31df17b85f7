use Rattle.std.proofs.Common.{◌==◌, ap}
use Rattle.disk_model.proofs.PickLemmas.{bit_at-shifted}
use Rattle.disk_model.proofs.picks.Picks.skip.Goals as goal

pub returns-in-Masked : goal.returns-in-Masked
returns-in-Masked c i = rw c.in-Masked.is (ap (λ b. b == 1) (bit_at-shifted c.in-Masked.mask c.args.count i))

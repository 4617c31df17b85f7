use Rattle.std.proofs.Common.{◌≡◌, ◌*◌, replicate}
use Rattle.disk_model.proofs.run.zero_bytes.Given as goal

abbrev pub invariant-loop : goal.invariant-loop
invariant-loop l = l.bytes.items ≡ replicate (512 * l.counter) 0

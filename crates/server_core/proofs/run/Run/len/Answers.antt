use Rattle.std.proofs.Common.{ap, arith, length, List}
use Rattle.job_file.specs.declared.job.Job.{Job}
use Rattle.server_core.specs.Kept.{Kept}
use Rattle.server_core.specs.Inside.{kept_in}
use Rattle.server_core.proofs.StateFrameLemmas.{counted_kept}
use Rattle.server_core.proofs.run.Run.len.Goals as goal

pub overflow_cast-result : goal.overflow_cast-result
overflow_cast-result c =
    let k = counted_kept (kept_in c.self.inside) c.self.invariant in omega (arith, k.few, ap (λ (js : List Job). length js) c.as_slice.ensures)

pub returns-clause-kept : goal.returns-clause-kept
returns-clause-kept c = let k = counted_kept (kept_in c.self.inside) c.self.invariant in
    omega (arith, k.same, ap (λ (js : List Job). length js) c.as_slice.ensures, ap (λ (x : Kept). length x.kept) c.self.view_is)

pub returns-clause-some : goal.returns-clause-some
returns-clause-some c =
    let k = counted_kept (kept_in c.self.inside) c.self.invariant in omega (arith, k.some, ap (λ (js : List Job). length js) c.as_slice.ensures)

pub returns-clause-few : goal.returns-clause-few
returns-clause-few c =
    let k = counted_kept (kept_in c.self.inside) c.self.invariant in omega (arith, k.few, ap (λ (js : List Job). length js) c.as_slice.ensures)

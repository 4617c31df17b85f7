use Rattle.std.proofs.lemmas.Result.{err_from_is_err_and}
use Rattle.mirror_core.proofs.EndLemmas.{refuses}
use Rattle.mirror_core.proofs.mirror.Mirror.deliver.Goals as goal

pub returns-in_err-request : goal.returns-in_err-request
returns-in_err-request g c = λ o past s.
    let p = err_from_is_err_and c.from_residual.result c.from_residual.ensures.1 in
    rw (p.1, p.2) (refuses g.N.Notes.note c.args.self.now o past c.args.frame.now c.in_err-request.field-0.0 c.in_err-request.ensures.value s)

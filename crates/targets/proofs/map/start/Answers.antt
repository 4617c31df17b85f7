use Rattle.std.proofs.Common.{arith, refl, subst}
use Rattle.std.specs.Prelude.{Err, Ok, false}
use Rattle.std.proofs.lemmas.Result.{err_from_is_err_and}
use Rattle.recheck.specs.Check.{Starts}
use Rattle.targets.proofs.JobLemmas.{no_state}
use Rattle.targets.proofs.MapJobLemmas.{is_ready, no_start, started}
use Rattle.targets.proofs.map.start.Goals as goal

pub returns-in_err-state-clause-none : goal.returns-in_err-state-clause-none
returns-in_err-state-clause-none g c =
    let p = err_from_is_err_and c.from_residual-in_err-state.result c.from_residual-in_err-state.ensures.1 in
    rw (p.1) (no_state c.args.key (g.R.Read.remaining c.args.reader.now)
    (g.R.Read.remaining c.read_job.new.reader) c.in_ok-asked.asked c.in_err-state.field-0.0 p.0 c.in_ok-asked.ensures.job c.in_err-state.ensures.none p.2)

pub returns-in_err-check-clause-none : goal.returns-in_err-check-clause-none
returns-in_err-check-clause-none g c =
    let p = err_from_is_err_and c.from_residual-in_err-check.result c.from_residual-in_err-check.ensures.1 in
    rw (p.1) (no_start c.args.key (g.R.Read.remaining c.args.reader.now) (g.R.Read.remaining c.read_job.new.reader)
    (g.R.Read.remaining c.read_state.new.reader) c.in_ok-asked.asked c.in_ok-state.state
    c.in_err-check.field-0.0 p.0 c.in_ok-asked.ensures.job c.in_ok-state.ensures.state
    (subst (λ s. Starts (Err c.in_err-check.field-0.0) c.args.key c.in_ok-asked.asked.rec s false) c.as_ref.ensures.value
    c.in_err-check.ensures) p.2)

pub returns-clause-map : goal.returns-clause-map
returns-clause-map g c =
    started c.args.key (g.R.Read.remaining c.args.reader.now) (g.R.Read.remaining c.read_job.new.reader)
    (g.R.Read.remaining c.read_state.new.reader) c.in_ok-asked.asked c.in_ok-state.state c.in_ok-check.check _
    c.in_ok-asked.ensures.job c.in_ok-state.ensures.state
    (subst (λ s. Starts (Ok c.in_ok-check.check) c.args.key c.in_ok-asked.asked.rec s false) c.as_ref.ensures.value
    c.in_ok-check.ensures) refl (omega (arith, c.in-Ok.ensures.len, c.bs.ensures.value))
    (omega (arith, c.in-Ok-vec.ensures.len, c.bs-2.ensures.value)) refl

pub returns-clause-ready : goal.returns-clause-ready
returns-clause-ready g c =
    is_ready c.args.key c.in_ok-asked.asked.rec c.in_ok-state.state c.in_ok-check.check _
    (subst (λ s. Starts (Ok c.in_ok-check.check) c.args.key c.in_ok-asked.asked.rec s false) c.as_ref.ensures.value
    c.in_ok-check.ensures) refl (omega (arith, c.in-Ok.ensures.len, c.bs.ensures.value))
    (omega (arith, c.in-Ok-vec.ensures.len, c.bs-2.ensures.value)) refl

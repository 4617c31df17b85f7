use Rattle.std.proofs.Common.{refl, sym, ◌∙◌, ap, inl, inr}
use Rattle.std.proofs.lemmas.Result.{err_from_is_err_and}
use Rattle.server_core.specs.Answers.{run_job}
use Rattle.server_core.specs.OpenWrites.{open_write}
use Rattle.net_world.specs.Trace.{opening_of}
use Rattle.net_world.specs.Serving.{entries}
use Rattle.net_world.proofs.FindLemmas.{off_first, no_open, is_open, shown}
use Rattle.net_world.proofs.world.World.open_write.Goals as goal

pub returns-in_err-core : goal.returns-in_err-core
returns-in_err-core c w past stands =
    let p = err_from_is_err_and c.from_residual.result c.from_residual.ensures.1 in
    let away = c.in_err-core.ensures.why w past stands in
    rw (p.1, p.2) (off_first w past c.args.server c.args.job c.args.write c.in_err-core.field-0.0 away.0, away.1)

pub returns-in_default : goal.returns-in_default
returns-in_default c w past stands =
    let runs = c.in_ok-core.ensures.found w past stands in
    let all = shown c.looks_at_all.ensures w past c.args.server runs.up in (
      no_open c.tickets_tell_origins.ensures w past c.args.server c.args.job c.args.write runs.on
          (inl (ap (λ list. open_write (opening_of c.args.server) list c.args.job c.args.write) (sym all)
          ∙ sym (c.in_default.ensures (opening_of c.args.server) (entries past c.args.server) runs.stands))),
      refl,
    )

pub returns-in-None : goal.returns-in-None
returns-in-None c w past stands =
    let runs = c.in_ok-core.ensures.found w past stands in
    let all = shown c.looks_at_all.ensures w past c.args.server runs.up in (
      no_open c.tickets_tell_origins.ensures w past c.args.server c.args.job c.args.write runs.on
          (inr (ap (λ list. run_job (opening_of c.args.server) list c.args.job) (sym all)
          ∙ sym (c.in-None.ensures (opening_of c.args.server) (entries past c.args.server) runs.stands))),
      refl,
    )

pub returns-in-Some-run_job : goal.returns-in-Some-run_job
returns-in-Some-run_job c w past stands =
    let runs = c.in_ok-core.ensures.found w past stands in
    let all = shown c.looks_at_all.ensures w past c.args.server runs.up in
    is_open c.tickets_tell_origins.ensures c.legal_histories.ensures.runs w past c.args.server c.args.job c.args.write c.in-Some.ticket
    c.in-Some-run_job.job.now runs.on
    (ap (λ list. open_write (opening_of c.args.server) list c.args.job c.args.write) (sym all)
    ∙ sym (c.in-Some.ensures (opening_of c.args.server) (entries past c.args.server) runs.stands))
    (ap (λ list. run_job (opening_of c.args.server) list c.args.job) (sym all)
    ∙ sym (c.in-Some-run_job.ensures (opening_of c.args.server) (entries past c.args.server) runs.stands))

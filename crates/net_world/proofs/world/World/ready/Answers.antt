use Rattle.std.proofs.Common.{refl, sym, ◌∙◌, ap, inl, inr}
use Rattle.std.proofs.lemmas.Result.{err_from_is_err_and}
use Rattle.server_core.specs.Answers.{check_job, status}
use Rattle.server_core.specs.Check.{progress}
use Rattle.server_core.specs.KeptCheck.{progress_of}
use Rattle.net_world.specs.Trace.{opening_of}
use Rattle.net_world.specs.Serving.{entries}
use Rattle.net_world.proofs.FindLemmas.{shown, no_job_ready, not_ready, no_progress, ready_is}
use Rattle.net_world.proofs.world.World.ready.Goals as goal

pub returns-in_err-core : goal.returns-in_err-core
returns-in_err-core c w past stands =
    let p = err_from_is_err_and c.from_residual.result c.from_residual.ensures.1 in
    rw (p.1, p.2) (inl (c.in_err-core.ensures.why w past stands))

pub returns-in_default : goal.returns-in_default
returns-in_default c w past stands =
    let runs = c.in_ok-core.ensures.found w past stands in
    let all = shown c.looks_at_all.ensures w past c.args.server runs.up in
    let o = opening_of c.args.server in
    let es = entries past c.args.server in
    inr (
      runs.on,
      refl,
      no_job_ready w past c.args.server c.args.job (ap (λ list. check_job o list c.args.job) (sym all)
          ∙ sym (c.in_default.ensures o es runs.stands)),
    )

pub returns-in_default-check_progress : goal.returns-in_default-check_progress
returns-in_default-check_progress c w past stands =
    let runs = c.in_ok-core.ensures.found w past stands in
    let all = shown c.looks_at_all.ensures w past c.args.server runs.up in
    let o = opening_of c.args.server in
    let es = entries past c.args.server in
    let is = ap (λ list. check_job o list c.args.job) (sym all) ∙ sym (c.in-Some.ensures o es runs.stands) in
    inr (
      runs.on,
      refl,
      no_progress w past c.args.server c.args.job c.in-Some.checked.now is (c.in_default-check_progress.ensures o es runs.stands
          ∙ ap (λ list. progress o list c.args.job) all),
    )

pub returns-then-not-is_ready : goal.returns-then-not-is_ready
returns-then-not-is_ready c w past stands =
    let runs = c.in_ok-core.ensures.found w past stands in
    let all = shown c.looks_at_all.ensures w past c.args.server runs.up in
    let o = opening_of c.args.server in
    let es = entries past c.args.server in
    let is = ap (λ list. check_job o list c.args.job) (sym all) ∙ sym (c.in-Some.ensures o es runs.stands) in
    inr (
      runs.on,
      refl,
      not_ready w past c.args.server c.args.job c.in-Some.checked.now (progress_of c.in-Some-check_progress.progress.now) is
          (c.in-Some-check_progress.ensures o es runs.stands ∙ ap (λ list. progress o list c.args.job) all) (sym c.is_ready.ensures ∙ c.if-not-is_ready.true),
    )

pub returns : goal.returns
returns c w past stands =
    let runs = c.in_ok-core.ensures.found w past stands in
    let all = shown c.looks_at_all.ensures w past c.args.server runs.up in
    let o = opening_of c.args.server in
    let es = entries past c.args.server in
    let is = ap (λ list. check_job o list c.args.job) (sym all) ∙ sym (c.in-Some.ensures o es runs.stands) in
    ready_is c.open_check_is_last.ensures c.legal_histories.ensures.checks w past c.args.server c.args.job c.in-Some.checked.now
    (progress_of c.in-Some-check_progress.progress.now) c.status-status.result runs.on is
    (c.in-Some-check_progress.ensures o es runs.stands ∙ ap (λ list. progress o list c.args.job) all) (sym c.is_ready.ensures ∙ c.if-not-is_ready.false)
    (c.status-status.ensures o es runs.stands ∙ ap (λ list. status o list) all) c.state_of.result c.state_of.ensures

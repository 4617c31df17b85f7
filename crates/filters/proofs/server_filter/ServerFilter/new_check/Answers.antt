use Rattle.std.proofs.Common.{Option, sym, subst, ◌∙◌}
use Rattle.verify_state.specs.State.{State}
use Rattle.filters.specs.CheckRuns.{IsBegun}
use Rattle.filters.proofs.KeptLemmas.{new_so}
use Rattle.filters.proofs.server_filter.ServerFilter.new_check.Goals as goal

pub returns-in-Ok : goal.returns-in-Ok
returns-in-Ok c =
    new_so c.args.self.now c.args.job c.in-Ok.checking c.status-status.result c.me.result c.in_ok-found.found.now c.in_ok-state.state c.status-status.ensures
    c.in_ok-state.ensures c.in_ok-found.ensures c.me.ensures (sym c.is_under_way.ensures ∙ c.if-is_under_way.false)
    (subst (λ (s : Option State). IsBegun c.status-status.result.boot c.status-status.result.attempt
    (record { run = c.status-status.result.last_run; server = c.me.result; job = c.args.job }) c.in_ok-found.found.now.rec s c.in_ok-found.found.now.fatal
    c.in-Ok.checking) c.as_ref.ensures.value c.in-Ok.ensures)

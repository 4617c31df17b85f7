use Rattle.std.proofs.Common.{arith, ap, ◌∙◌, refl, subst, sym}
use Rattle.std.specs.Prelude.{Err, Ok, false}
use Rattle.std.proofs.lemmas.Result.{err_from_is_err_and}
use Rattle.recheck.specs.Check.{Check, Starts}
use Rattle.targets.specs.LedgerInput.{HasNoLedger, place_since}
use Rattle.targets.proofs.LedgerInputLemmas.{blocks_ready, no_ledger, no_start_since, no_state_since, basis_read}
use Rattle.targets.proofs.ledger_input.read_basis.Goals as goal

pub returns-in_err-state-clause-none : goal.returns-in_err-state-clause-none
returns-in_err-state-clause-none g c =
    let p = err_from_is_err_and c.from_residual-in_err-state.result c.from_residual-in_err-state.ensures.1 in
    rw (p.1) (no_state_since c.args.key c.args.since (g.R.Read.remaining c.args.reader.now)
    (g.R.Read.remaining c.read_job.new.reader) c.in_ok-job.job c.in_err-state.field-0.0 p.0 c.in_ok-job.ensures.job c.in_err-state.ensures.none p.2)

pub returns-in_err-recheck-clause-none : goal.returns-in_err-recheck-clause-none
returns-in_err-recheck-clause-none g c =
    let p = err_from_is_err_and c.from_residual-in_err-recheck.result c.from_residual-in_err-recheck.ensures.1 in
    rw (p.1) (no_start_since c.args.key c.args.since (g.R.Read.remaining c.args.reader.now) (g.R.Read.remaining c.read_job.new.reader)
    (g.R.Read.remaining c.read_state_since.new.reader) c.in_ok-job.job c.in_ok-state.state
    c.in_err-recheck.field-0.0 p.0 c.in_ok-job.ensures.job c.in_ok-state.ensures.state
    (subst (λ s. Starts (Err c.in_err-recheck.field-0.0) c.args.key c.in_ok-job.job.rec s false) c.as_ref.ensures.value
    c.in_err-recheck.ensures) p.2)

pub returns-in_err-known-clause-none : goal.returns-in_err-known-clause-none
returns-in_err-known-clause-none g c =
    let p = err_from_is_err_and c.from_residual-in_err-known.result c.from_residual-in_err-known.ensures.1 in
    rw (p.1) (no_ledger c.args.key c.args.since (g.R.Read.remaining c.args.reader.now) (g.R.Read.remaining c.read_job.new.reader)
    (g.R.Read.remaining c.read_state_since.new.reader) c.in_ok-job.job c.in_ok-state.state p.0 c.in_ok-job.ensures.job c.in_ok-state.ensures.state
    (subst (HasNoLedger c.in_ok-job.job.rec (g.R.Read.remaining c.read_state_since.new.reader)) (sym p.2) c.in_err-known.ensures.none))

pub returns-clause-basis : goal.returns-clause-basis
returns-clause-basis g c =
    basis_read c.args.key c.args.since (g.R.Read.remaining c.args.reader.now) (g.R.Read.remaining c.read_job.new.reader)
    (g.R.Read.remaining c.read_state_since.new.reader) (g.R.Read.remaining c.read_ledger.new.reader) c.in_ok-job.job c.in_ok-state.state
    c.in_ok-recheck.recheck c.in_ok-known.known _ c.in_ok-job.ensures.job c.in_ok-state.ensures.state
    (subst (λ s. Starts (Ok c.in_ok-recheck.recheck) c.args.key c.in_ok-job.job.rec s false) c.as_ref.ensures.value
    c.in_ok-recheck.ensures) c.in_ok-known.ensures.ledger refl
    (c.in_ok-asked.ensures ∙ ap (λ e. place_since c.args.since e c.in_ok-known.known) c.expected.ensures)

pub returns-clause-blocks : goal.returns-clause-blocks
returns-clause-blocks g c =
    blocks_ready c.args.key c.args.since (g.R.Read.remaining c.read_state_since.new.reader) (g.R.Read.remaining c.read_ledger.new.reader) c.in_ok-job.job.rec
    c.in_ok-state.state c.in_ok-recheck.recheck c.in_ok-known.known c.in_ok-asked.asked
    (subst (λ s. Starts (Ok c.in_ok-recheck.recheck) c.args.key c.in_ok-job.job.rec s false) c.as_ref.ensures.value
    c.in_ok-recheck.ensures) c.in_ok-known.ensures.ledger
    (c.in_ok-asked.ensures ∙ ap (λ e. place_since c.args.since e c.in_ok-known.known) c.expected.ensures)

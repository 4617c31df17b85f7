use Rattle.std.proofs.Common.{ap, sym, subst, ◌∙◌}
use Rattle.std.specs.Option.{option_map}
use Rattle.fc_base.specs.declared.numbers.Key.{Key}
use Rattle.server_core.specs.Request.{ToHold}
use Rattle.server_core.specs.Check.{check_goes_on}
use Rattle.server_core.specs.Framed.{frames_to_client}
use Rattle.server_core.specs.KeptCheck.{judgement_now, progress_of, with_progress}
use Rattle.server_core.specs.Stands.{OpenIs}
use Rattle.server_core.specs.InnerCalls.{frame_now}
use Rattle.server_core.proofs.IdleLemmas.{work_elsewhere}
use Rattle.server_core.proofs.HeldChecks.{hold_kept, hold_nothing, reply_held, reply_unheld}
use Rattle.server_core.proofs.machine.Machine.hold.Goals as goal

pub returns-in_default-clause-sent : goal.returns-in_default-clause-sent
returns-in_default-clause-sent c now h =
    let none = ap (λ n. judgement_now n c.args.self.now.check c.args.attempt c.args.state.now) (sym h.me) ∙ sym c.in_default.ensures.value in
    c.new.ensures ∙ ap (frames_to_client now.server) (sym
    (reply_unheld now.server now.boot c.args.self.now.check now.check c.args.attempt c.args.state.now h.check_is none))

pub returns-in_default-clause-left : goal.returns-in_default-clause-left
returns-in_default-clause-left c now h =
    let none = ap (λ n. judgement_now n c.args.self.now.check c.args.attempt c.args.state.now) (sym h.me) ∙ sym c.in_default.ensures.value in
    record {
      me = h.me;
      boot_is = h.boot_is;
      last_is = h.last_is;
      staged_is = h.staged_is;
      run_is = work_elsewhere now.server now.boot c.args.self.now.run now.run (ToHold c.args.attempt c.args.state.now) h.run_is tt;
      check_is = hold_nothing now.server now.boot c.args.self.now.check now.check c.args.attempt c.args.state.now h.check_is none;
    }

pub returns-clause-sent : goal.returns-clause-sent
returns-clause-sent c now h =
    let some = ap (λ n. judgement_now n c.args.self.now.check c.args.attempt c.args.state.now) (sym h.me) ∙ sym c.in-Some.ensures.value in
    c.in_ok-frames.ensures.sent now (record {
      me = h.me;
      boot_is = h.boot_is;
      last_is = h.last_is;
      staged_is = h.staged_is;
      run_is = h.run_is;
      check_is = h.check_is;
    })
    ∙ ap (λ (k : Key). frames_to_client now.server (frame_now k.job (progress_of c.in-Some.progress) now.check)) c.key-job.ensures.value
    ∙ ap (frames_to_client now.server) (sym (reply_held now.server now.boot c.args.self.now.check now.check c.args.attempt c.args.state.now
    (progress_of c.in-Some.progress) h.check_is some))

pub returns-clause-left : goal.returns-clause-left
returns-clause-left c now h =
    let some = ap (λ n. judgement_now n c.args.self.now.check c.args.attempt c.args.state.now) (sym h.me) ∙ sym c.in-Some.ensures.value in
    record {
      me = h.me;
      boot_is = h.boot_is;
      last_is = h.last_is;
      staged_is = h.staged_is;
      run_is = work_elsewhere now.server now.boot c.args.self.now.run now.run (ToHold c.args.attempt c.args.state.now) h.run_is tt;
      check_is = subst (λ k. OpenIs now.server now.boot k (check_goes_on (ToHold c.args.attempt c.args.state.now) now.check))
          (sym (c.note.ensures ∙ ap (λ (k : Key). option_map (with_progress k.job (progress_of c.in-Some.progress)) c.args.self.now.check)
          c.key-job.ensures.value))
          (hold_kept now.server now.boot c.args.self.now.check now.check c.args.attempt c.args.state.now (progress_of c.in-Some.progress) h.check_is some);
    }

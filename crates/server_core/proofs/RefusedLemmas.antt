-- A request that is refused leaves what is kept of the words behind it.
use Rattle.std.proofs.Common.{◌≡◌, refl, sym, ap, subst, ◌∙◌, ℕ, Bool, true, false, ◌&&◌, ◌==◌, List, ◌∷◌, Option, None, Some}
use Rattle.std.specs.Prelude.{if◌then◌else◌, not, slice_get, Ok, Err}
use Rattle.std.proofs.lemmas.Bool.{eqb-true, eqb-false, eq-eqb}
use Rattle.fc_base.specs.declared.fault.Fault.{Fault}
use Rattle.fc_base.specs.declared.fault.Fault.TheVariants.{OldBoot, NotInFlight}
use Rattle.fc_base.specs.declared.report.ReportParts.{ReportParts}
use Rattle.job_file.specs.declared.job.Job.{Job}
use Rattle.engine.specs.History as window
use Rattle.engine.specs.declared.issue.Ticket.{Ticket}
use Rattle.engine.specs.Answers.{names_one_of}
use Rattle.server_core.specs.declared.input.WriteEnd.{WriteEnd}
use Rattle.server_core.specs.declared.machine.Machine.{Machine}
use Rattle.server_core.specs.Request.{Request, ToStage, ToStart, ToTrigger, ToMark, ToStop, ToVerify, ToHold, ToPassFully, ToIssue, ToEnd, ToReport, ToNobody}
use Rattle.server_core.specs.Run.{Work, goes_on, halt_of, with_ticket, origin_of, history}
use Rattle.server_core.specs.Check.{Check, Progress, check_goes_on, progress_in, progress_with_report}
use Rattle.server_core.specs.Replies.{Now}
use Rattle.server_core.specs.Answers.{refusal_of, refused_by, names_open, names_open_of, is_ready, is_open_attempt}
use Rattle.server_core.specs.Kept.{Kept, RunIs}
use Rattle.server_core.specs.KeptCheck.{CheckKept, check_kept, job_progress, ready_in, ready_now}
use Rattle.server_core.specs.Stands.{MachineIs, WorkIs, OpenIs}
use Rattle.server_core.specs.WordsAfter.{words_after}
use Rattle.server_core.proofs.RowLemmas.{and_then, or_none, idle}
use Rattle.server_core.proofs.EndLemmas.{other_job, unmarked, end_of_other_boot}
use Rattle.server_core.proofs.CheckedLemmas as checks
use Rattle.server_core.proofs.CheckedLemmas.{kept_at, ready_is, unready}
use Rattle.server_core.proofs.IdleLemmas.{work_elsewhere}
use Rattle.server_core.proofs.UndueLemmas.{of_run}

-- ---- a ticket that names no open write

unnamed : (boot names : Bool) (end : WriteEnd) (k : ℕ) (h : List window.Event) → names ≡ false
    → with_ticket (if not boot then Err OldBoot else (if names then Ok tt else Err NotInFlight)) end k h ≡ h
unnamed false names end k h e = refl
unnamed true true end k h e = cc
unnamed true false end k h e = refl

unnamed_run : (kept : Kept) (w : Work) (ticket : Ticket) (end : WriteEnd) → RunIs kept w → names_open_of w ticket (slice_get w.jobs ticket.key.job) ≡ false
    → RunIs kept (and_then w (ToEnd ticket end))
unnamed_run kept w ticket end h e =
    idle kept w (ToEnd ticket end) h (or_none (halt_of w.run w.since)) (λ j job is. each j job is (j == ticket.key.job) refl)
    (λ j job is. unmarked w ticket end j)
  where
    each : (j : ℕ) (job : Job) → slice_get w.jobs j ≡ Some job → (b : Bool) → (j == ticket.key.job) ≡ b
        → history (origin_of w j job) (ToEnd ticket end ∷ w.since) ≡ history (origin_of w j job) w.since
    each j job is false t = other_job w ticket end j job (eqb-false j ticket.key.job t)
    each j job is true t =
        let at = eqb-true j ticket.key.job t in
        let here : slice_get w.jobs ticket.key.job ≡ Some job = ap (slice_get w.jobs) (sym at) ∙ is in
        let no_name : names_one_of (origin_of w ticket.key.job job) (window.open_writes (history (origin_of w ticket.key.job job) w.since)) ticket ≡ false =
        sym (ap (names_open_of w ticket) here) ∙ e in
        subst (λ n. history (origin_of w n job) (ToEnd ticket end ∷ w.since) ≡ history (origin_of w n job) w.since) (sym at)
        (unnamed (ticket.boot == w.boot) _ end ticket.seq (history (origin_of w ticket.key.job job) w.since) no_name)

unnamed_work : (me now_boot : ℕ) (kept : Option Kept) (w : Option Work) (ticket : Ticket) (end : WriteEnd) → WorkIs me now_boot kept w
    → names_open w ticket ≡ false → WorkIs me now_boot kept (goes_on (ToEnd ticket end) w)
unnamed_work me now_boot None None ticket end h e = tt
unnamed_work me now_boot (Some kept) (Some w) ticket end h e = record { run = unnamed_run kept w ticket end h.run e; server = h.server; boot_is = h.boot_is }
unnamed_work me now_boot None (Some w) ticket end h e = absurd h
unnamed_work me now_boot (Some kept) None ticket end h e = absurd h

end_stays : (now : Now) (kept : Option Kept) (ticket : Ticket) (end : WriteEnd) (fault : Fault) (b n : Bool) → (ticket.boot == now.boot) ≡ b
    → names_open now.run ticket ≡ n → WorkIs now.server now.boot kept now.run → refused_by b n ≡ Some fault
    → WorkIs now.server now.boot kept (goes_on (ToEnd ticket end) now.run)
end_stays now kept ticket end fault false n e f h r = end_of_other_boot now.server now.boot kept now.run ticket end h (eqb-false ticket.boot now.boot e)
end_stays now kept ticket end fault true false e f h r = unnamed_work now.server now.boot kept now.run ticket end h f
end_stays now kept ticket end fault true true e f h r = cc

-- ---- a report that is refused

no_report : (kept : CheckKept) (c : Check) (b a j : ℕ) (r : ReportParts) → kept ≡ check_kept c → ((b == c.boot) && ready_in kept a j) ≡ false
    → kept ≡ check_kept (checks.and_then c (ToReport b a j r))
no_report kept c b a j r is no_one =
    checks.idle kept c (ToReport b a j r) is (λ i job at. still (b == c.boot) (a == c.attempt) (c.attempt == a) (j == i) (is_ready (slice_get kept.progress j))
    (job_progress c i job) (swapped a c.attempt)
    (ap (λ (k : CheckKept). (b == c.boot) && ((k.attempt == a) && is_ready (slice_get kept.progress j))) (sym is) ∙ no_one)
    (λ e. ap (λ n. is_ready (slice_get kept.progress n)) (eqb-true j i e) ∙ ap is_ready (kept_at kept c i job is at)))
  where
    swapped : (x y : ℕ) → (x == y) ≡ true → (y == x) ≡ true
    swapped x y e = let same = eqb-true x y e in subst (λ z. (z == x) ≡ true) same (itself x)
      where
        itself : (n : ℕ) → (n == n) ≡ true
        itself n = eq-eqb n n refl

    still : (s t t' u v : Bool) (p : Progress) → (t ≡ true → t' ≡ true) → (s && (t' && v)) ≡ false → (u ≡ true → v ≡ is_ready (Some p))
        → (if s && (t && u) then progress_with_report r p else p) ≡ p
    still false t t' u v p m e f = refl
    still true false t' u v p m e f = refl
    still true true t' false v p m e f = refl
    still true true false true v p m e f = absurd (no (m refl))
      where
        no : false ≡ true → ⊥
        no e = cc
    still true true true true v p m e f = unready r p (sym (f refl) ∙ e)

report_stays : (me now_boot : ℕ) (kept : Option CheckKept) (c : Option Check) (b a j : ℕ) (r : ReportParts) → OpenIs me now_boot kept c
    → ((b == now_boot) && ready_now kept a j) ≡ false → OpenIs me now_boot kept (check_goes_on (ToReport b a j r) c)
report_stays me now_boot None None b a j r h e = tt
report_stays me now_boot (Some kept) (Some c) b a j r h e =
    record { is = no_report kept c b a j r h.is (ap (λ n. (b == n) && ready_in kept a j) h.boot_is ∙ e); server = h.server; boot_is = h.boot_is }
report_stays me now_boot None (Some c) b a j r h e = absurd h
report_stays me now_boot (Some kept) None b a j r h e = absurd h

not_both : (s t : Bool) (fault : Fault) → refused_by s t ≡ Some fault → (s && t) ≡ false
not_both false t fault e = refl
not_both true false fault e = refl
not_both true true fault e = cc

-- ---- any request

pub refused_stays : (machine : Machine) (now : Now) (x : Request) (fault : Fault) → MachineIs machine now → refusal_of now x ≡ Some fault
    → MachineIs machine (words_after now x)
refused_stays machine now ToNobody fault h e =
    of_run machine now ToNobody machine.run h refl tt (work_elsewhere now.server now.boot machine.run now.run ToNobody h.run_is tt)
refused_stays machine now (ToEnd ticket end) fault h e = of_run machine now (ToEnd ticket end) machine.run h refl tt
    (end_stays now machine.run ticket end fault (ticket.boot == now.boot) (names_open now.run ticket) refl refl h.run_is e)
refused_stays machine now (ToReport b a j r) fault h e = record {
  me = h.me;
  boot_is = h.boot_is;
  last_is = h.last_is;
  staged_is = h.staged_is;
  run_is = work_elsewhere now.server now.boot machine.run now.run (ToReport b a j r) h.run_is tt;
  check_is = report_stays now.server now.boot machine.check now.check b a j r h.check_is
      (ap (λ t. (b == now.boot) && t) (ready_is now.server now.boot machine.check now.check a j h.check_is)
      ∙ not_both (b == now.boot) (is_open_attempt a now.check && is_ready (progress_in now.check j)) fault e);
}
refused_stays machine now (ToStage r text) fault h e = cc
refused_stays machine now (ToStart r) fault h e = cc
refused_stays machine now (ToTrigger r act) fault h e = cc
refused_stays machine now (ToMark r j) fault h e = cc
refused_stays machine now (ToStop r) fault h e = cc
refused_stays machine now (ToVerify r a text) fault h e = cc
refused_stays machine now (ToHold a state) fault h e = cc
refused_stays machine now (ToPassFully a j) fault h e = cc
refused_stays machine now (ToIssue j) fault h e = cc

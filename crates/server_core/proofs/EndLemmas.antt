-- What is kept of a run behind the end of a write.
use Rattle.std.proofs.Common.{◌≡◌, ◌≢◌, refl, sym, ap, subst, ◌∙◌, ℕ, ◌≤◌, Bool, true, false, ◌&&◌, ◌==◌, List, [], ◌∷◌, ◌++◌, length, Option, None, Some}
use Rattle.std.specs.Prelude.{if◌then◌else◌, not, set, slice_get, is_ok, OnOk, Result, Ok, Err}
use Rattle.std.proofs.lemmas.Bool.{ne_eqb, eq-eqb}
use Rattle.fc_base.specs.Counted.{has}
use Rattle.fc_base.specs.declared.fault.Fault.{Fault}
use Rattle.fc_base.specs.declared.fault.Fault.TheVariants.{OldBoot, NotInFlight}
use Rattle.job_file.specs.declared.job.Job.{Job}
use Rattle.engine.specs.History as window
use Rattle.engine.specs.declared.issue.Ticket.{Ticket}
use Rattle.engine.specs.Running.{Origin, Running, running_of, StandsFor, EachHistory, after_done, after_fail}
use Rattle.engine.specs.Answers.{ticket_answer, names_one_of}
use Rattle.server_core.specs.declared.input.WriteEnd.{WriteEnd}
use Rattle.server_core.specs.declared.input.WriteEnd.TheVariants.{Done, Failed}
use Rattle.server_core.specs.declared.job_run.JobRun.{JobRun}
use Rattle.server_core.specs.Request.{ToEnd}
use Rattle.server_core.specs.Run.{Work, Halt, Triggered, Stopped, with_end, with_ticket, halt_of, is_halted, origin_of, history, goes_on}
use Rattle.server_core.specs.Answers.{marks_by, marks, names_open_of}
use Rattle.server_core.specs.Laws.{HistoriesAreLegal}
use Rattle.server_core.specs.Kept.{Kept, job_kept, RunIs, open_answer}
use Rattle.server_core.specs.Stands.{WorkIs}
use Rattle.server_core.proofs.RowLemmas.{and_then, or_none, idle, job_here, one_row, engine_row}
use Rattle.server_core.proofs.RunLemmas.{stands, within, no_job}

pub no_marks : (b : Option Halt) (run : ℕ) (ticket : Ticket) (end : WriteEnd) → marks_by b run (ToEnd ticket end) ≡ []
no_marks (Some (Triggered act before)) run ticket end = refl
no_marks (Some Stopped) run ticket end = refl
no_marks None run ticket end = refl

pub unmarked : (w : Work) (ticket : Ticket) (end : WriteEnd) (j : ℕ) → has (marks w.run (ToEnd ticket end ∷ w.since)) j ≡ has (marks w.run w.since) j
unmarked w ticket end j = ap (λ ms. has (ms ++ marks w.run w.since) j) (no_marks (halt_of w.run w.since) w.run ticket end)

-- A ticket of another job is refused.
refused : (boot : Bool) (a b c : Bool) (writes : Bool) (end : WriteEnd) (k : ℕ) (h : List window.Event) → c ≡ false
    → with_ticket (if not boot then Err OldBoot else (if (a && (b && c)) && writes then Ok tt else Err NotInFlight)) end k h ≡ h
refused false a b c writes end k h e = refl
refused true true true false writes end k h e = refl
refused true true false c writes end k h e = refl
refused true false b c writes end k h e = refl
refused true a b true writes end k h e = cc

pub other_job : (w : Work) (ticket : Ticket) (end : WriteEnd) (j : ℕ) (job : Job) → j ≢ ticket.key.job
    → history (origin_of w j job) (ToEnd ticket end ∷ w.since) ≡ history (origin_of w j job) w.since
other_job w ticket end j job ne =
    let origin = origin_of w j job in
    let h = history origin w.since in
    refused (ticket.boot == w.boot) (ticket.key.run == w.run) (ticket.key.server == w.server) (ticket.key.job == j) _ end ticket.seq h
    (ne_eqb ticket.key.job j (λ e. ne (sym e)))

same_boot : (origin : Origin) (writes : List ℕ) (ticket : Ticket) → origin.boot ≡ ticket.boot
    → ticket_answer origin writes ticket ≡ open_answer (names_one_of origin writes ticket)
same_boot origin writes ticket e =
    ap (λ b. if not b then Err OldBoot else (if names_one_of origin writes ticket then Ok tt else Err NotInFlight)) (eq-eqb ticket.boot origin.boot (sym e))

-- What an engine keeps behind the end of a write, which leaves this where the ticket is accepted.
record IsEnded (old new : Running) (end : WriteEnd) (seq : ℕ) (result : Result (Unit {0}) Fault) : Type 0 where
  origin : new.origin ≡ old.origin
  stopped : new.stopped ≡ old.stopped
  added : EachHistory old (λ h. StandsFor new (with_ticket result end seq h))

is_ended : (old after new : Running) (end : WriteEnd) (seq : ℕ) (result : Result (Unit {0}) Fault) → after.origin ≡ old.origin → after.stopped ≡ old.stopped
    → new ≡ (if is_ok result then after else old) → OnOk result (EachHistory old (λ h. StandsFor new (with_end end seq h)))
    → IsEnded old new end seq result
is_ended old after new end seq (Ok u) same_origin same_stop is added = record {
  origin = ap (λ (r : Running). r.origin) is ∙ same_origin;
  stopped = ap (λ (r : Running). r.stopped) is ∙ same_stop;
  added = added;
}
is_ended old after new end seq (Err fault) same_origin same_stop is added = record {
  origin = ap (λ (r : Running). r.origin) is;
  stopped = ap (λ (r : Running). r.stopped) is;
  added = λ h k. subst (λ r. StandsFor r h) (sym is) k;
}

-- What a completion, or a failure, leaves of an engine.
abbrev pub after_end : WriteEnd → Running → ℕ → Running
after_end Done old seq = after_done old seq
after_end Failed old seq = after_fail old seq

ends_so : (old new : Running) (end : WriteEnd) (seq : ℕ) (result : Result (Unit {0}) Fault) → new ≡ (if is_ok result then after_end end old seq else old)
    → OnOk result (EachHistory old (λ h. StandsFor new (with_end end seq h))) → IsEnded old new end seq result
ends_so old new Done seq result is added = is_ended old (after_done old seq) new Done seq result refl refl is added
ends_so old new Failed seq result is added = is_ended old (after_fail old seq) new Failed seq result refl refl is added

pub end_step : HistoriesAreLegal → (kept : Kept) (w : Work) (ticket : Ticket) (end : WriteEnd) (old : JobRun) (new : Running) (result : Result (Unit {0}) Fault)
    → RunIs kept w → slice_get kept.kept ticket.key.job ≡ Some old
    → result ≡ ticket_answer old.engine.origin old.engine.kept.open_writes ticket
    → new ≡ (if is_ok result then after_end end old.engine ticket.seq else old.engine)
    → OnOk result (EachHistory old.engine (λ h. StandsFor new (with_end end ticket.seq h)))
    → (w.boot ≡ ticket.boot → result ≡ open_answer (names_open_of w ticket (slice_get w.jobs ticket.key.job)))
    × RunIs (record kept { kept = set kept.kept ticket.key.job (record old { engine = new }) }) (and_then w (ToEnd ticket end))
end_step legal kept w ticket end old new result h at told left ended =
    let is = ends_so old.engine new end ticket.seq result left ended in
    let i = ticket.key.job in
    let p = job_here kept w i old h at in
    let job = p.0 in
    let origin = origin_of w i job in
    let past = history origin w.since in
    let engine : old.engine ≡ running_of origin (is_halted w) past = ap (λ (k : JobRun). k.engine) p.2 in
    let answer : result ≡ ticket_answer origin (window.open_writes past) ticket =
    told ∙ ap (λ (r : Running). ticket_answer r.origin r.kept.open_writes ticket) engine in
    let good = stands origin (is_halted w) past old.engine engine (legal origin w.since (within w kept i job h p.1)) in
    let now : new ≡ running_of origin (is_halted w) (with_ticket (ticket_answer origin (window.open_writes past) ticket) end ticket.seq past) =
    (is.added past good).running_is
    ∙ ap (λ o. running_of o new.stopped (with_ticket result end ticket.seq past)) (is.origin ∙ ap (λ (r : Running). r.origin) engine)
    ∙ ap (λ s. running_of origin s (with_ticket result end ticket.seq past)) (is.stopped ∙ ap (λ (r : Running). r.stopped) engine)
    ∙ ap (λ r. running_of origin (is_halted w) (with_ticket r end ticket.seq past)) answer in
    let here : (other : Job) → job ≡ other → record old { engine = new } ≡ job_kept (and_then w (ToEnd ticket end)) i other =
    λ other same. engine_row w (ToEnd ticket end) i job old new
    (with_ticket (ticket_answer origin (window.open_writes past) ticket) end ticket.seq past) p.2 now (or_none (halt_of w.run w.since)) refl
    (unmarked w ticket end i)
    ∙ ap (job_kept (and_then w (ToEnd ticket end)) i) same in (
      λ boot. answer ∙ same_boot origin (window.open_writes past) ticket boot ∙ sym (ap (λ x. open_answer (names_open_of w ticket x)) p.1),
      one_row kept w (ToEnd ticket end) i (record old { engine = new }) h (or_none (halt_of w.run w.since)) (λ j other ne. other_job w ticket end j other ne)
          (λ j ne. unmarked w ticket end j)
          (λ other has_it. here other (same_some job other (sym p.1 ∙ has_it))),
    )
  where
    same_some : (a b : Job) → Some a ≡ Some b → a ≡ b
    same_some a b e = cc

pub no_end : (kept : Kept) (w : Work) (ticket : Ticket) (end : WriteEnd) → RunIs kept w → length kept.kept ≤ ticket.key.job
    → (Err NotInFlight ≡ open_answer (names_open_of w ticket (slice_get w.jobs ticket.key.job))) × RunIs kept (and_then w (ToEnd ticket end))
no_end kept w ticket end h past =
    let none = no_job kept w ticket.key.job h past in (
      sym (ap (λ x. open_answer (names_open_of w ticket x)) none),
      idle kept w (ToEnd ticket end) h (or_none (halt_of w.run w.since)) (λ j job is. other_job w ticket end j job (other j job none is))
          (λ j job is. unmarked w ticket end j),
    )
  where
    other : (j : ℕ) (job : Job) → slice_get w.jobs ticket.key.job ≡ None → slice_get w.jobs j ≡ Some job → j ≢ ticket.key.job
    other j job none is e = let here : slice_get w.jobs ticket.key.job ≡ Some job = ap (slice_get w.jobs) (sym e) ∙ is in no (sym none ∙ here)
      where
        no : None ≡ Some job → ⊥
        no e = cc

-- ---- a ticket of another boot

other_boot : (kept : Kept) (w : Work) (ticket : Ticket) (end : WriteEnd) → RunIs kept w → (ticket.boot == w.boot) ≡ false
    → RunIs kept (and_then w (ToEnd ticket end))
other_boot kept w ticket end h e =
    idle kept w (ToEnd ticket end) h (or_none (halt_of w.run w.since))
    (λ j job is.
    ap (λ t. with_ticket (if not t then Err OldBoot else
    (if names_one_of (origin_of w j job) (window.open_writes (history (origin_of w j job) w.since)) ticket then Ok tt else Err NotInFlight)) end ticket.seq
    (history (origin_of w j job) w.since))
    e)
    (λ j job is. unmarked w ticket end j)

pub end_of_other_boot : (me now_boot : ℕ) (kept : Option Kept) (w : Option Work) (ticket : Ticket) (end : WriteEnd) → WorkIs me now_boot kept w
    → ticket.boot ≢ now_boot → WorkIs me now_boot kept (goes_on (ToEnd ticket end) w)
end_of_other_boot me now_boot None None ticket end h ne = tt
end_of_other_boot me now_boot (Some kept) (Some w) ticket end h ne =
    record { run = other_boot kept w ticket end h.run (ne_eqb ticket.boot w.boot (λ e. ne (e ∙ h.boot_is))); server = h.server; boot_is = h.boot_is }
end_of_other_boot me now_boot None (Some w) ticket end h ne = absurd h
end_of_other_boot me now_boot (Some kept) None ticket end h ne = absurd h

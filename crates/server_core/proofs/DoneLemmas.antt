-- What one input adds to the history of a job was accepted.
use Rattle.std.proofs.Common.{◌≡◌, refl, sym, ◌∙◌, ap, subst, ◌⊎◌, inl, inr, ℕ, Bool, true, false, ◌&&◌, ◌==◌, List, [], ◌∷◌, ◌++◌, Option, None, Some}
use Rattle.std.specs.Prelude.{nat_lt, if◌then◌else◌, not, ◌||◌, slice_get, Result, Ok, Err}
use Rattle.std.specs.List.{list_any}
use Rattle.std.proofs.lemmas.Bool.{and_parts, or_cases, or_left, or_right, eqb-true, eq-eqb}
use Rattle.std.proofs.lemmas.List.Folds.{list_any-append}
use Rattle.fc_base.specs.declared.fault.Fault.{Fault}
use Rattle.fc_base.specs.declared.fault.Fault.TheVariants.{OldBoot, NotInFlight}
use Rattle.fc_base.specs.declared.numbers.Key.{Key}
use Rattle.fc_base.specs.Counted.{has}
use Rattle.job_file.specs.declared.job.Job.{Job}
use Rattle.engine.specs.History as window
use Rattle.write_order.specs.Blocks.{block_of}
use Rattle.engine.specs.declared.issue.Ticket.{Ticket}
use Rattle.engine.specs.declared.issue.Issue.{Issue as Answer}
use Rattle.engine.specs.declared.issue.Issue.TheVariants as issues
use Rattle.engine.specs.Running.{Origin}
use Rattle.fc_base.specs.Keys.{is_same_key}
use Rattle.engine.specs.Answers.{answer_to, ticket_answer, names_one_of}
use Rattle.messages.specs.declared.body.Body.{Body}
use Rattle.messages.specs.declared.body.Body.TheVariants as bodies
use Rattle.server_core.specs.Inputs.{PacketInput}
use Rattle.server_core.specs.declared.input.Input.TheVariants.{Deliver, Issue, WriteDone, CheckDone}
use Rattle.server_core.specs.declared.input.WriteEnd.{WriteEnd}
use Rattle.server_core.specs.declared.input.WriteEnd.TheVariants.{Done, Failed}
use Rattle.disk_model.specs.declared.save_outcome.SaveOutcome.{SaveOutcome}
use Rattle.disk_model.specs.declared.save_outcome.SaveOutcome.TheVariants.{NoSave, Saved, LostNew, LostOld}
use Rattle.disk_model.specs.SaveOutcome.{is_lost}
use Rattle.server_core.specs.History.{Opening, Entry, Met, Cut, Restart}
use Rattle.messages.specs.Nodes.{is_client, is_server}
use Rattle.server_core.specs.Request.{Request, ToStage, ToStart, ToTrigger, ToMark, ToStop, ToVerify, ToHold}
use Rattle.server_core.specs.Request.{ToPassFully, ToIssue, ToEnd, ToReport, ToNobody, request_in, request_of}
use Rattle.server_core.specs.Run.{Work, is_open, origin_of, with_issue, with_ticket, with_request, history}
use Rattle.server_core.specs.Words.{Staged, for_run, is_on, boot, due_by, work_after, last_run, staged_run, work, due}
use Rattle.server_core.specs.Answers.{names_open_of, refused_by, refusal}
use Rattle.server_core.specs.Accepted.{IsDoneBy}
use Rattle.server_core.proofs.WorkLemmas.{is_of}
use Rattle.server_core.proofs.KeyLemmas.{same_key}

-- ---- a server that works on a run is on

abbrev OnWith : Bool → Option Work → Type 0
OnWith on None = Unit {0}
OnWith on (Some w) = on ≡ true

on_after : (on : Bool) (left : SaveOutcome) (d : Option Staged) (me b : ℕ) (x : Request) (w : Option Work) → (d ≡ None ⊎ (on ≡ true)) → OnWith on w
    → OnWith (on && not (is_lost left)) (work_after left d me b x w)
on_after on NoSave d me b x None f h = tt
on_after on NoSave d me b x (Some w) f h = rw h refl
on_after on Saved None me b x None f h = tt
on_after on Saved None me b x (Some w) f h = rw h refl
on_after on Saved (Some s) me b x w (inr e) h = rw e refl
on_after on Saved (Some s) me b x w (inl e) h = cc
on_after on LostNew d me b x w f h = tt
on_after on LostOld d me b x w f h = tt

none_or_on : (on b : Bool) (y : Option Staged) → (if on && b then y else None) ≡ None ⊎ (on ≡ true)
none_or_on true b y = inr refl
none_or_on false b y = inl refl

due_on : (on : Bool) (last : ℕ) (s : Option Staged) (w : Option Work) (x : Request) → due_by on last s w x ≡ None ⊎ (on ≡ true)
due_on on last s w (ToStart r) = none_or_on on (nat_lt last r && not (is_open w)) (for_run r s)
due_on on last s w (ToStage r text) = inl refl
due_on on last s w (ToTrigger r act) = inl refl
due_on on last s w (ToMark r j) = inl refl
due_on on last s w (ToStop r) = inl refl
due_on on last s w (ToVerify r a text) = inl refl
due_on on last s w (ToHold a state) = inl refl
due_on on last s w (ToPassFully a j) = inl refl
due_on on last s w (ToIssue j) = inl refl
due_on on last s w (ToEnd ticket end) = inl refl
due_on on last s w (ToReport b a j report) = inl refl
due_on on last s w ToNobody = inl refl

on_of : (o : Opening) (past : List Entry) → OnWith (is_on past) (work o past)
on_of o [] = tt
on_of o (Met e left ∷ past) = on_after (is_on past) left (due o past e) o.me (boot o past) (request_of o.me e) (work o past)
    (due_on (is_on past) (last_run o past) (staged_run o past) (work o past) (request_of o.me e)) (on_of o past)
on_of o (Cut ∷ past) = tt
on_of o (Restart left ∷ past) = tt

pub works_on : (o : Opening) (past : List Entry) (w : Work) → work o past ≡ Some w → is_on past ≡ true
works_on o past w h = subst (λ v. OnWith (is_on past) v) h (on_of o past)

-- ---- one request

deliver_body : (origin : Origin) (stopped : Bool) (h : List window.Event) (b : Body) → with_request origin stopped (request_in b) h ≡ h
deliver_body origin stopped h (bodies.Jobs r t) = refl
deliver_body origin stopped h _ = refl

deliver_by : (origin : Origin) (stopped t : Bool) (h : List window.Event) (b : Body) → with_request origin stopped (if t then request_in b else ToNobody) h ≡ h
deliver_by origin stopped true h b = deliver_body origin stopped h b
deliver_by origin stopped false h b = refl

issue_done : (answer : Answer) (h : List window.Event) (k : ℕ) → window.is_done (with_issue answer h) k ≡ window.is_done h k
issue_done (issues.Write ticket) h k = refl
issue_done issues.Full h k = refl
issue_done issues.Held h k = refl
issue_done issues.Overlap h k = refl
issue_done issues.Finished h k = refl
issue_done issues.Stopped h k = refl

issue_done_if : (t : Bool) (answer : Answer) (h : List window.Event) (k : ℕ) → window.is_done (if t then with_issue answer h else h) k ≡ window.is_done h k
issue_done_if true answer h k = issue_done answer h k
issue_done_if false answer h k = refl

failed_done : (answer : Result (Unit {0}) Fault) (seq : ℕ) (h : List window.Event) (k : ℕ)
    → window.is_done (with_ticket answer Failed seq h) k ≡ window.is_done h k
failed_done (Ok u) seq h k = refl
failed_done (Err fault) seq h k = refl

-- A ticket that is accepted.
record IsAccepted (origin : Origin) (writes : List ℕ) (ticket : Ticket) : Type 0 where
  pub boot_is : (ticket.boot == origin.boot) ≡ true
  pub names : names_one_of origin writes ticket ≡ true

verdict : (same named : Bool) (u : Unit {0}) → (if not same then Err OldBoot else (if named then Ok tt else Err NotInFlight)) ≡ Ok u
    → (same ≡ true) × (named ≡ true)
verdict true true u h = (refl, refl)
verdict true false u h = cc
verdict false named u h = cc

accepted_of : (origin : Origin) (writes : List ℕ) (ticket : Ticket) (u : Unit {0}) → ticket_answer origin writes ticket ≡ Ok u → IsAccepted origin writes ticket
accepted_of origin writes ticket u h =
    let p = verdict (ticket.boot == origin.boot) (names_one_of origin writes ticket) u h in
    record { boot_is = p.0; names = p.1 }

key_of : (origin : Origin) (writes : List ℕ) (ticket : Ticket) → names_one_of origin writes ticket ≡ true → ticket.key ≡ origin.key
key_of origin writes ticket h =
    same_key ticket.key origin.key (and_parts (is_same_key ticket.key origin.key)
    (has writes ticket.seq && (block_of origin.job ticket.seq == ticket.block)) h).0

-- What the run and job are, in which a completion comes.
pub record IsAt (o : Opening) (past : List Entry) (v : Work) (j : ℕ) (job : Job) : Type 0 where
  pub works : work o past ≡ Some v
  pub has_job : slice_get v.jobs j ≡ Some job

abbrev open_in : Work → ℕ → Job → List ℕ
open_in v j job = window.open_writes (history (origin_of v j job) v.since)

not_refused : (same named : Bool) → same ≡ true → named ≡ true → refused_by same named ≡ None
not_refused same named a b = rw (a, b) refl

refused_not : (same named : Bool) → refused_by same named ≡ None → (same ≡ true) × (named ≡ true)
refused_not true true h = (refl, refl)
refused_not true false h = cc
refused_not false named h = cc

named_at : (v : Work) (ticket : Ticket) (j : ℕ) (job : Job) → slice_get v.jobs j ≡ Some job → ticket.key.job ≡ j
    → names_open_of v ticket (slice_get v.jobs ticket.key.job) ≡ names_one_of (origin_of v j job) (open_in v j job) ticket
named_at v ticket j job h e =
    subst (λ n. names_open_of v ticket (slice_get v.jobs ticket.key.job) ≡ names_one_of (origin_of v n job) (open_in v n job) ticket) e
    (ap (names_open_of v ticket) (ap (slice_get v.jobs) e ∙ h))

-- The refusal of a completion, in the run's words.
refusal_at : (o : Opening) (past : List Entry) (v : Work) (ticket : Ticket) (end : WriteEnd) → work o past ≡ Some v
    → refusal o past (WriteDone ticket end) ≡ refused_by (ticket.boot == v.boot) (names_open_of v ticket (slice_get v.jobs ticket.key.job))
refusal_at o past v ticket end h =
    let on = works_on o past v h in
    let of = is_of o past v h in
    rw (on, h, of.boot_is) refl

has_push : (xs : List ℕ) (s k : ℕ) → has (xs ++ s ∷ []) k ≡ true → (has xs k ≡ true) ⊎ (s ≡ k)
has_push xs s k h = elim (or_cases (has xs k) ((s == k) || false) (sym (list_any-append (λ j. j == k) xs (s ∷ [])) ∙ h)) [
  | inl a ↦ inl a
  | inr b ↦ elim (or_cases (s == k) false b) [ inl c ↦ inr (eqb-true s k c) | inr c ↦ absurd (no c) ]
]
  where
    no : false ≡ true → ⊥
    no c = cc

has_kept : (xs : List ℕ) (s k : ℕ) → has xs k ≡ true → has (xs ++ s ∷ []) k ≡ true
has_kept xs s k h = list_any-append (λ j. j == k) xs (s ∷ []) ∙ or_left (has xs k) (list_any (λ j. j == k) (s ∷ [])) h

has_last : (xs : List ℕ) (s k : ℕ) → s ≡ k → has (xs ++ s ∷ []) k ≡ true
has_last xs s k e = list_any-append (λ j. j == k) xs (s ∷ []) ∙ or_right (has xs k) (list_any (λ j. j == k) (s ∷ [])) (or_left (s == k) false (eq-eqb s k e))

-- A completion: what it adds was accepted.
ended_one : (o : Opening) (past : List Entry) (v : Work) (j : ℕ) (job : Job) (ticket : Ticket) (k : ℕ) (answer : Result (Unit {0}) Fault) → IsAt o past v j job
    → ticket_answer (origin_of v j job) (open_in v j job) ticket ≡ answer
    → window.is_done (with_ticket answer Done ticket.seq (history (origin_of v j job) v.since)) k ≡ true
    → (window.is_done (history (origin_of v j job) v.since) k ≡ true) ⊎ IsDoneBy o past (WriteDone ticket Done) (origin_of v j job).key k
ended_one o past v j job ticket k (Err fault) at e h = inl h
ended_one o past v j job ticket k (Ok u) at e h =
    elim (has_push (window.completions (history (origin_of v j job) v.since)) ticket.seq k h) [
      | inl a ↦ inl a
      | inr b ↦
          let acc = accepted_of (origin_of v j job) (open_in v j job) ticket u e in
          let key = key_of (origin_of v j job) (open_in v j job) ticket acc.names in
          let job_is : ticket.key.job ≡ j = ap (λ (x : Key). x.job) key in
          inr (
            key,
            b,
            refusal_at o past v ticket Done at.works ∙ not_refused (ticket.boot == v.boot) (names_open_of v ticket
                (slice_get v.jobs ticket.key.job)) acc.boot_is (named_at v ticket j job at.has_job job_is ∙ acc.names),
          )
    ]

accepted_answer : (origin : Origin) (writes : List ℕ) (ticket : Ticket) → (ticket.boot == origin.boot) ≡ true → names_one_of origin writes ticket ≡ true
    → ticket_answer origin writes ticket ≡ Ok tt
accepted_answer origin writes ticket a b = rw (a, b) refl

ended_back : (o : Opening) (past : List Entry) (v : Work) (j : ℕ) (job : Job) (ticket : Ticket) (k : ℕ) → IsAt o past v j job
    → IsDoneBy o past (WriteDone ticket Done) (origin_of v j job).key k
    → window.is_done (with_ticket (ticket_answer (origin_of v j job) (open_in v j job) ticket) Done ticket.seq (history (origin_of v j job) v.since)) k ≡ true
ended_back o past v j job ticket k at d =
    let job_is : ticket.key.job ≡ j = ap (λ (x : Key). x.job) d.0 in
    let p = refused_not (ticket.boot == v.boot) (names_open_of v ticket (slice_get v.jobs ticket.key.job))
    (sym (refusal_at o past v ticket Done at.works) ∙ d.2) in
    let names = sym (named_at v ticket j job at.has_job job_is) ∙ p.1 in
    subst (λ a. window.is_done (with_ticket a Done ticket.seq (history (origin_of v j job) v.since)) k ≡ true)
    (sym (accepted_answer (origin_of v j job) (open_in v j job) ticket p.0 names))
    (has_last (window.completions (history (origin_of v j job) v.since)) ticket.seq k d.1)

kept_one : (answer : Result (Unit {0}) Fault) (seq : ℕ) (h : List window.Event) (k : ℕ) → window.is_done h k ≡ true
    → window.is_done (with_ticket answer Done seq h) k ≡ true
kept_one (Ok u) seq h k e = has_kept (window.completions h) seq k e
kept_one (Err fault) seq h k e = e

-- One input: what its job's history has more was accepted.
pub one_on : (o : Opening) (past : List Entry) (v : Work) (j : ℕ) (job : Job) (e : PacketInput) (k : ℕ) (stopped : Bool) → IsAt o past v j job
    → window.is_done (with_request (origin_of v j job) stopped (request_of o.me e) (history (origin_of v j job) v.since)) k ≡ true
    → (window.is_done (history (origin_of v j job) v.since) k ≡ true) ⊎ IsDoneBy o past e (origin_of v j job).key k
one_on o past v j job (Deliver p) k stopped at h =
    inl (subst (λ l. window.is_done l k ≡ true) (deliver_by (origin_of v j job) stopped (is_client p.from && is_server o.me p.to)
    (history (origin_of v j job) v.since) p.body) h)
one_on o past v j job (Issue i) k stopped at h =
    inl (sym (issue_done_if (i == j) (answer_to (origin_of v j job) stopped (history (origin_of v j job) v.since)) (history (origin_of v j job) v.since) k) ∙ h)
one_on o past v j job (WriteDone ticket Done) k stopped at h =
    ended_one o past v j job ticket k (ticket_answer (origin_of v j job) (open_in v j job) ticket) at refl h
one_on o past v j job (WriteDone ticket Failed) k stopped at h =
    inl (sym (failed_done (ticket_answer (origin_of v j job) (open_in v j job) ticket) ticket.seq (history (origin_of v j job) v.since) k) ∙ h)
one_on o past v j job (CheckDone b a i report) k stopped at h = inl h

pub one_back : (o : Opening) (past : List Entry) (v : Work) (j : ℕ) (job : Job) (e : PacketInput) (k : ℕ) (stopped : Bool) → IsAt o past v j job
    → IsDoneBy o past e (origin_of v j job).key k
    → window.is_done (with_request (origin_of v j job) stopped (request_of o.me e) (history (origin_of v j job) v.since)) k ≡ true
one_back o past v j job (WriteDone ticket Done) k stopped at d = ended_back o past v j job ticket k at d
one_back o past v j job (WriteDone ticket Failed) k stopped at d = absurd d
one_back o past v j job (Deliver p) k stopped at d = absurd d
one_back o past v j job (Issue i) k stopped at d = absurd d
one_back o past v j job (CheckDone b a i report) k stopped at d = absurd d

pub one_kept : (o : Opening) (v : Work) (j : ℕ) (job : Job) (e : PacketInput) (k : ℕ) (stopped : Bool) → window.is_done (history (origin_of v j job) v.since) k ≡ true
    → window.is_done (with_request (origin_of v j job) stopped (request_of o.me e) (history (origin_of v j job) v.since)) k ≡ true
one_kept o v j job (WriteDone ticket Done) k stopped h =
    kept_one (ticket_answer (origin_of v j job) (open_in v j job) ticket) ticket.seq (history (origin_of v j job) v.since) k h
one_kept o v j job (WriteDone ticket Failed) k stopped h =
    failed_done (ticket_answer (origin_of v j job) (open_in v j job) ticket) ticket.seq (history (origin_of v j job) v.since) k ∙ h
one_kept o v j job (Deliver p) k stopped h =
    subst (λ l. window.is_done l k ≡ true) (sym (deliver_by (origin_of v j job) stopped (is_client p.from && is_server o.me p.to)
    (history (origin_of v j job) v.since) p.body)) h
one_kept o v j job (Issue i) k stopped h =
    issue_done_if (i == j) (answer_to (origin_of v j job) stopped (history (origin_of v j job) v.since)) (history (origin_of v j job) v.since) k ∙ h
one_kept o v j job (CheckDone b a i report) k stopped h = h

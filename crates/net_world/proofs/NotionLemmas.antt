-- A notion of what a file holds of the writes of a job, and what it is for such a notion to survive
-- everything that happens to an honest disk.
use Rattle.std.proofs.Common.{◌≡◌, refl, sym, subst, inl, inr, ℕ, Bool, true, false, ◌&&◌, ◌==◌, List, [], ◌∷◌, Option, Some, None, Result, Ok, Err}
use Rattle.std.specs.Prelude.{if◌then◌else◌, is_some, slice_get, Contains, not, IsTrue}
use Rattle.std.proofs.lemmas.Bool.{and_parts}
use Rattle.fc_base.specs.Counted.{has}
use Rattle.fc_base.specs.JobParts.{is_within_limits}
use Rattle.fc_base.specs.Keys.{is_same_key}
use Rattle.fc_base.specs.declared.fault.Fault.{Fault}
use Rattle.fc_base.specs.declared.fault.Fault.TheVariants.{OldBoot, NotInFlight}
use Rattle.fc_base.specs.declared.numbers.Key.{Key}
use Rattle.fc_base.specs.declared.record.JobParts.{JobParts}
use Rattle.job_file.specs.declared.job.Job.{Job}
use Rattle.write_order.specs.Blocks.{block_of}
use Rattle.write_order.specs.Stamps.{bytes_of}
use Rattle.verify_state.specs.State.{State}
use Rattle.engine.specs.History as window
use Rattle.engine.specs.Legal.{IsLegal}
use Rattle.engine.specs.Running.{Origin}
use Rattle.engine.specs.declared.issue.Issue.{Issue}
use Rattle.engine.specs.declared.issue.Issue.TheVariants as issues
use Rattle.engine.specs.declared.issue.Ticket.{Ticket}
use Rattle.engine.specs.Answers.{answer_to, ticket_answer, names_one_of}
use Rattle.disk_model.specs.declared.save_outcome.SaveOutcome.{SaveOutcome}
use Rattle.disk_model.specs.declared.save_outcome.SaveOutcome.TheVariants.{NoSave, Saved, LostNew, LostOld}
use Rattle.disk_model.specs.SaveOutcome.{has_new}
use Rattle.server_core.specs.Inputs.{PacketInput}
use Rattle.server_core.specs.declared.input.WriteEnd.{WriteEnd}
use Rattle.server_core.specs.declared.input.WriteEnd.TheVariants.{Done, Failed}
use Rattle.server_core.specs.History.{Opening, Entry, Met, Cut, Restart}
use Rattle.server_core.specs.Request.{Request, ToStage, ToStart, ToTrigger, ToMark, ToStop, ToVerify}
use Rattle.server_core.specs.Request.{ToHold, ToPassFully, ToIssue, ToEnd, ToReport, ToNobody, request_of}
use Rattle.server_core.specs.Run.{Work, halt_of, origin_of, with_issue, with_ticket, with_request, history, goes_on}
use Rattle.server_core.specs.Words.{Staged, boot, last_run_after, work_after, last_run, work, due}
use Rattle.server_core.specs.Taken.{takes, takings}
use Rattle.net_world.specs.Contents.{with_block}
use Rattle.net_world.specs.Honest.{HoldsWrite}
use Rattle.net_world.proofs.KeyLemmas.{same_key}
use Rattle.net_world.proofs.GroundLemmas.{Ground, job_legal}
use Rattle.net_world.proofs.LinkLemmas.{hit, IsStateOf, state_is_of, now_or_before, none_taken_yet}
use Rattle.net_world.proofs.ListLemmas.{some_is}

-- What a file holds of a job's writes, of which so many were issued, and these are done.
abbrev pub Notion : Type 1
Notion = (ℕ → List ℕ) → Key → JobParts → ℕ → (ℕ → Bool) → Type 0

-- It holds at first, stays when a write is issued, when one that is in the file is done, and when an
-- open write lands by a mask that it may land by. Which jobs are told truly of, On says.
pub record Survives (On : ℕ → Type 0) (May : ℕ → JobParts → Type 0) (P : Notion) : Type 0 where
  pub begins : (held : ℕ → List ℕ) (key : Key) (job : JobParts) → P held key job (window.issued []) (window.is_done [])
  pub issues : (held : ℕ → List ℕ) (key : Key) (job : JobParts) (h : List window.Event) (k : ℕ) → P held key job (window.issued h) (window.is_done h)
      → P held key job (window.issued (window.issue k ∷ h)) (window.is_done (window.issue k ∷ h))
  pub ends : (held : ℕ → List ℕ) (key : Key) (job : JobParts) (h : List window.Event) (m : ℕ) → IsLegal job h → has (window.open_writes h) m ≡ true
      → (On key.job → HoldsWrite held key job m)
      → P held key job (window.issued h) (window.is_done h) → P held key job (window.issued h) (window.is_done (window.done m ∷ h))
  pub lands : (held : ℕ → List ℕ) (key : Key) (job : JobParts) (h : List window.Event) (m mask n : ℕ) (d : ℕ → Bool) → IsLegal job h
      → IsTrue (is_within_limits job) → has (window.open_writes h) m ≡ true → May mask job
      → n ≡ window.issued h → ((k : ℕ) → d k ≡ true → window.is_done h k ≡ true) → P held key job n d
      → P (with_block mask (block_of job m) (bytes_of key job m) held) key job n d
  pub alike : (held : ℕ → List ℕ) (key : Key) (job : JobParts) (n : ℕ) (d e : ℕ → Bool) → ((i : ℕ) → d i ≡ e i) → P held key job n d → P held key job n e

-- Each job.
abbrev pub Always : ℕ → Type 0
Always j = Unit {0}

-- What it says of one job alone.
abbrev pub At : ℕ → Notion → Notion
At j P held key job n d = key.job ≡ j → P held key job n d

-- So it survives where that job alone is told truly of.
pub at_job : {P : Notion} {May : ℕ → JobParts → Type 0} → Survives Always May P → (j : ℕ) → Survives (λ i. i ≡ j) May (At j P)
at_job v j = record {
  begins = λ held key job own. v.begins held key job;
  issues = λ held key job h k p own. v.issues held key job h k (p own);
  ends = λ held key job h m legal is_open now p own. v.ends held key job h m legal is_open (λ u. now own) (p own);
  lands = λ held key job h m mask n d legal limits is_open may same stays p own.
      v.lands held key job h m mask n d legal limits is_open may same stays (p own);
  alike = λ held key job n d e agree p own. v.alike held key job n d e agree (p own);
}

-- By the history of a job, and by a state.
abbrev pub Of : Notion → (ℕ → List ℕ) → Origin → List window.Event → Type 0
Of P held origin h = P held origin.key origin.job (window.issued h) (window.is_done h)

abbrev pub OfState : Notion → (ℕ → List ℕ) → State → Type 0
OfState P held state = P held state.key state.job state.issued (has state.counted)

-- So it is at a server: with each job of the present run, and with each state of the last run.
pub record Kept (P : Notion) (o : Opening) (held : ℕ → ℕ → List ℕ) (list : List Entry) : Type 0 where
  pub works : (w : Work) → work o list ≡ Some w → (j : ℕ) (job : Job) → slice_get w.jobs j ≡ Some job
      → Of P (held j) (origin_of w j job) (history (origin_of w j job) w.since)
  pub states : (j : ℕ) (state : State) → Contains (takings o (last_run o list) j list) state → OfState P (held j) state

-- ---- a write that is accepted as ended was open

boot_test : (t : Bool) (a : Result (Unit {0}) Fault) (u : Unit {0}) → ◌≡◌ {A = Result (Unit {0}) Fault} (if not t then Err OldBoot else a) (Ok u) → a ≡ Ok u
boot_test true a u h = h
boot_test false a u h = cc

name_test : (b : Bool) (u : Unit {0}) → ◌≡◌ {A = Result (Unit {0}) Fault} (if b then Ok tt else Err NotInFlight) (Ok u) → b ≡ true
name_test true u h = refl
name_test false u h = cc

accepted : (origin : Origin) (writes : List ℕ) (ticket : Ticket) (u : Unit {0}) → ticket_answer origin writes ticket ≡ Ok u
    → (ticket.key ≡ origin.key) × (has writes ticket.seq ≡ true)
accepted origin writes ticket u h =
    let named = name_test (names_one_of origin writes ticket) u
    (boot_test (ticket.boot == origin.boot) (if names_one_of origin writes ticket then Ok tt else Err NotInFlight) u h) in
    let a = and_parts (is_same_key ticket.key origin.key) (has writes ticket.seq && (block_of origin.job ticket.seq == ticket.block)) named in
    let b = and_parts (has writes ticket.seq) (block_of origin.job ticket.seq == ticket.block) a.1 in
    (same_key ticket.key origin.key a.0, b.0)

-- ---- a request

-- A write that the request tells as done is in the file, where the job is told truly of.
abbrev pub Tells : (ℕ → Type 0) → (ℕ → List ℕ) → Origin → List window.Event → Request → Type 0
Tells On held origin h x = (ticket : Ticket) → x ≡ ToEnd ticket Done → ticket.key ≡ origin.key → has (window.open_writes h) ticket.seq ≡ true
    → On origin.key.job → HoldsWrite held origin.key origin.job ticket.seq

by_issue : {P : Notion} {May : ℕ → JobParts → Type 0} {On : ℕ → Type 0} → Survives On May P → (held : ℕ → List ℕ) (origin : Origin) (h : List window.Event) (answer : Issue)
    → Of P held origin h → Of P held origin (with_issue answer h)
by_issue s held origin h (issues.Write ticket) p = s.issues held origin.key origin.job h ticket.seq p
by_issue s held origin h issues.Full p = p
by_issue s held origin h issues.Held p = p
by_issue s held origin h issues.Overlap p = p
by_issue s held origin h issues.Finished p = p
by_issue s held origin h issues.Stopped p = p

by_if : (P : Notion) (held : ℕ → List ℕ) (origin : Origin) (t : Bool) (new old : List window.Event) → Of P held origin new → Of P held origin old
    → Of P held origin (if t then new else old)
by_if P held origin true new old a b = a
by_if P held origin false new old a b = b

by_end : {P : Notion} {May : ℕ → JobParts → Type 0} {On : ℕ → Type 0} → Survives On May P
    → (held : ℕ → List ℕ) (origin : Origin) (h : List window.Event) (ticket : Ticket) (end : WriteEnd) (answer : Result (Unit {0}) Fault)
    → ticket_answer origin (window.open_writes h) ticket ≡ answer
    → IsLegal origin.job h → Tells On held origin h (ToEnd ticket end) → Of P held origin h → Of P held origin (with_ticket answer end ticket.seq h)
by_end s held origin h ticket Done (Ok u) is legal tells p =
    let a = accepted origin (window.open_writes h) ticket u is in
    s.ends held origin.key origin.job h ticket.seq legal a.1 (tells ticket refl a.0 a.1) p
by_end s held origin h ticket Failed (Ok u) is legal tells p = p
by_end s held origin h ticket end (Err fault) is legal tells p = p

by_request : {P : Notion} {May : ℕ → JobParts → Type 0} {On : ℕ → Type 0} → Survives On May P
    → (held : ℕ → List ℕ) (origin : Origin) (stopped : Bool) (x : Request) (h : List window.Event) → IsLegal origin.job h → Tells On held origin h x
    → Of P held origin h → Of P held origin (with_request origin stopped x h)
by_request {P} s held origin stopped (ToIssue i) h legal tells p =
    by_if P held origin (i == origin.key.job) (with_issue (answer_to origin stopped h) h) h (by_issue s held origin h (answer_to origin stopped h) p) p
by_request s held origin stopped (ToEnd ticket end) h legal tells p =
    by_end s held origin h ticket end (ticket_answer origin (window.open_writes h) ticket) refl legal tells p
by_request s held origin stopped (ToStage r text) h legal tells p = p
by_request s held origin stopped (ToStart r) h legal tells p = p
by_request s held origin stopped (ToTrigger r act) h legal tells p = p
by_request s held origin stopped (ToMark r i) h legal tells p = p
by_request s held origin stopped (ToStop r) h legal tells p = p
by_request s held origin stopped (ToVerify r a text) h legal tells p = p
by_request s held origin stopped (ToHold a state) h legal tells p = p
by_request s held origin stopped (ToPassFully a i) h legal tells p = p
by_request s held origin stopped (ToReport b a i report) h legal tells p = p
by_request s held origin stopped ToNobody h legal tells p = p

-- ---- the present run

-- Each job of the present run is told truly.
abbrev pub TellsAt : (ℕ → Type 0) → Opening → (ℕ → ℕ → List ℕ) → List Entry → PacketInput → Type 0
TellsAt On o held past e = (w : Work) → work o past ≡ Some w → (j : ℕ) (job : Job) → slice_get w.jobs j ≡ Some job
    → Tells On (held j) (origin_of w j job) (history (origin_of w j job) w.since) (request_of o.me e)

abbrev WorksOf : Notion → (ℕ → ℕ → List ℕ) → Option Work → Type 0
WorksOf P held x =
    (w : Work) → x ≡ Some w → (j : ℕ) (job : Job) → slice_get w.jobs j ≡ Some job → Of P (held j) (origin_of w j job) (history (origin_of w j job) w.since)

works_on : {P : Notion} {May : ℕ → JobParts → Type 0} {On : ℕ → Type 0} → Ground → Survives On May P
    → (o : Opening) (held : ℕ → ℕ → List ℕ) (past : List Entry) (e : PacketInput) (x : Option Work) → work o past ≡ x → TellsAt On o held past e → WorksOf P held x
    → WorksOf P held (goes_on (request_of o.me e) x)
works_on laws s o held past e None is tells k = λ w h. absurd cc
works_on {P} laws s o held past e (Some v) is tells k = λ w h j job has_job.
    subst (λ u. (i : ℕ) (job : Job) → slice_get u.jobs i ≡ Some job → Of P (held i) (origin_of u i job) (history (origin_of u i job) u.since)) (some_is h)
    (λ i job has_job. by_request s (held i) (origin_of v i job) (is_some (halt_of v.run v.since)) (request_of o.me e) (history (origin_of v i job) v.since)
    (job_legal laws o past v is i job has_job) (tells v is i job has_job) (k v refl i job has_job)) j job has_job

works_new : {P : Notion} {May : ℕ → JobParts → Type 0} {On : ℕ → Type 0} → Survives On May P → (held : ℕ → ℕ → List ℕ) (me now_boot : ℕ) (d : Staged)
    → WorksOf P held (Some (record { server = me; boot = now_boot; run = d.run; jobs = d.jobs; since = [] }))
works_new {P} s held me now_boot d = λ w h j job has_job.
    subst (λ u. (i : ℕ) (job : Job) → Of P (held i) (origin_of u i job) (history (origin_of u i job) u.since)) (some_is h)
    (λ i job. s.begins (held i) (record { run = d.run; server = me; job = i }) job.rec) j job

works_after : {P : Notion} {May : ℕ → JobParts → Type 0} {On : ℕ → Type 0} → Ground → Survives On May P
    → (o : Opening) (held : ℕ → ℕ → List ℕ) (past : List Entry) (e : PacketInput) (left : SaveOutcome) (d : Option Staged) → TellsAt On o held past e
    → WorksOf P held (work o past) → WorksOf P held (work_after left d o.me (boot o past) (request_of o.me e) (work o past))
works_after laws s o held past e NoSave d tells k = works_on laws s o held past e (work o past) refl tells k
works_after laws s o held past e Saved None tells k = works_on laws s o held past e (work o past) refl tells k
works_after laws s o held past e Saved (Some d) tells k = works_new s held o.me (boot o past) d
works_after laws s o held past e LostNew d tells k = λ w h. absurd cc
works_after laws s o held past e LostOld d tells k = λ w h. absurd cc

-- ---- the states that are taken

of_state : {P : Notion} {May : ℕ → JobParts → Type 0} {On : ℕ → Type 0} → Survives On May P → (held : ℕ → List ℕ) (origin : Origin) (h : List window.Event) (state : State)
    → IsStateOf origin h state → Of P held origin h → OfState P held state
of_state {P} s held origin h state k p =
    s.alike held state.key state.job state.issued (window.is_done h) (has state.counted) (λ i. sym (k.counts i))
    (subst (λ n. P held state.key state.job n (window.is_done h)) (sym k.issued_is)
    (subst (λ (job : JobParts). P held state.key job (window.issued h) (window.is_done h)) (sym k.job_is)
    (subst (λ (key : Key). P held key origin.job (window.issued h) (window.is_done h)) (sym k.key) p)))

state_now : {P : Notion} {May : ℕ → JobParts → Type 0} {On : ℕ → Type 0} → Ground → Survives On May P
    → (o : Opening) (held : ℕ → ℕ → List ℕ) (past : List Entry) (run j : ℕ) (e : PacketInput) (state : State) (x : Option Work) → work o past ≡ x → WorksOf P held x
    → takes run j (request_of o.me e) x ≡ Some state → OfState P (held j) state
state_now laws s o held past run j e state None is k h = absurd cc
state_now laws s o held past run j e state (Some w) is k h =
    let t = hit run j (request_of o.me e) w state h in
    let origin = origin_of w j t.job in
    of_state s (held j) origin (history origin w.since) state
    (state_is_of laws.counts origin w.since state (job_legal laws o past w is j t.job t.has_job) t.state_is) (k w refl j t.job t.has_job)

states_on : {P : Notion} {May : ℕ → JobParts → Type 0} {On : ℕ → Type 0} → Ground → Survives On May P
    → (o : Opening) (held : ℕ → ℕ → List ℕ) (past : List Entry) (e : PacketInput) (left : SaveOutcome) → Kept P o held past → (j : ℕ) (state : State)
    → Contains (takings o (last_run o past) j (Met e left ∷ past)) state → OfState P (held j) state
states_on laws s o held past e left k j state c =
    elim (now_or_before (takes (last_run o past) j (request_of o.me e) (work o past)) (takings o (last_run o past) j past) state c) [
      | inl now ↦ state_now laws s o held past (last_run o past) j e state (work o past) refl k.works now
      | inr before ↦ k.states j state before
    ]

states_new : {P : Notion} {May : ℕ → JobParts → Type 0} {On : ℕ → Type 0} → Ground → Survives On May P
    → (o : Opening) (held : ℕ → ℕ → List ℕ) (past : List Entry) (e : PacketInput) (left : SaveOutcome) (d : Staged) (new : Bool) → due o past e ≡ Some d → Kept P o held past
    → (j : ℕ) (state : State)
    → Contains (takings o (if new then d.run else last_run o past) j (Met e left ∷ past)) state → OfState P (held j) state
states_new laws s o held past e left d true is k j state c = absurd (none_taken_yet laws o j e left past d state is c)
states_new laws s o held past e left d false is k j state c = states_on laws s o held past e left k j state c

states_after : {P : Notion} {May : ℕ → JobParts → Type 0} {On : ℕ → Type 0} → Ground → Survives On May P
    → (o : Opening) (held : ℕ → ℕ → List ℕ) (past : List Entry) (e : PacketInput) (left : SaveOutcome) (d : Option Staged) → due o past e ≡ d → Kept P o held past
    → (j : ℕ) (state : State)
    → Contains (takings o (last_run_after left d (last_run o past)) j (Met e left ∷ past)) state → OfState P (held j) state
states_after laws s o held past e left None is k j state c = states_on laws s o held past e left k j state c
states_after laws s o held past e left (Some d) is k j state c = states_new laws s o held past e left d (has_new left) is k j state c

-- ---- an entry of the server

pub kept_met : {P : Notion} {May : ℕ → JobParts → Type 0} {On : ℕ → Type 0} → Ground → Survives On May P
    → (o : Opening) (held : ℕ → ℕ → List ℕ) (past : List Entry) (e : PacketInput) (left : SaveOutcome) → TellsAt On o held past e → Kept P o held past
    → Kept P o held (Met e left ∷ past)
kept_met laws s o held past e left tells k = record {
  works = works_after laws s o held past e left (due o past e) tells k.works;
  states = λ j state c. states_after laws s o held past e left (due o past e) refl k j state c;
}

pub kept_cut : {P : Notion} (o : Opening) (held : ℕ → ℕ → List ℕ) (past : List Entry) → Kept P o held past → Kept P o held (Cut ∷ past)
kept_cut o held past k = record { works = λ w h. absurd cc; states = λ j state c. k.states j state c }

pub kept_restart : {P : Notion} (o : Opening) (held : ℕ → ℕ → List ℕ) (past : List Entry) (left : SaveOutcome) → Kept P o held past
    → Kept P o held (Restart left ∷ past)
kept_restart o held past left k = record { works = λ w h. absurd cc; states = λ j state c. k.states j state c }

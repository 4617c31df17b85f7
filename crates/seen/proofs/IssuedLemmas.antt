-- Since the Start of a run at work, a write of a job was issued exactly where a worker is seen to be given it.
use Rattle.std.proofs.Common.{◌≡◌, refl, sym, ◌∙◌, ap, subst, ◌⊎◌, inl, inr, ℕ, ◌+◌, ◌<◌, ◌≤◌, arith, Bool, true, false, List, [], ◌∷◌, ◌++◌}
use Rattle.std.proofs.Common.{Option, Some, None, Result, Ok, Err}
use Rattle.std.specs.Prelude.{if◌then◌else◌, ◌==◌, Contains, is_ok, slice_get}
use Rattle.std.proofs.lemmas.Bool.{cases_lt, eqb-true, eq-eqb}
use Rattle.std.proofs.lemmas.List.{length-append}
use Rattle.fc_base.specs.declared.fault.Fault.{Fault}
use Rattle.fc_base.proofs.ListLemmas.{none_in, first_of, behind_one, first_or_behind}
use Rattle.job_file.specs.declared.job.Job.{Job}
use Rattle.engine.specs.History as window
use Rattle.engine.specs.History.{issued}
use Rattle.engine.specs.declared.issue.Ticket.{Ticket}
use Rattle.engine.specs.declared.issue.Issue.{Issue as Issued}
use Rattle.engine.specs.declared.issue.Issue.TheVariants as issuing
use Rattle.engine.specs.declared.issue.Issue.TheVariants.{Write}
use Rattle.engine.specs.Legal.{has_failed}
use Rattle.engine.specs.Running.{Origin}
use Rattle.engine.specs.Answers.{ticket_of, answer_to, ticket_answer}
use Rattle.disk_model.specs.declared.save_outcome.SaveOutcome.{SaveOutcome}
use Rattle.disk_model.specs.declared.save_outcome.SaveOutcome.TheVariants.{NoSave, Saved, LostNew, LostOld}
use Rattle.disk_model.specs.SaveOutcome.{saved_for}
use Rattle.messages.specs.Hearing.{Happens, with_entry}
use Rattle.server_core.specs.Inputs.{PacketInput}
use Rattle.server_core.specs.declared.input.Input.TheVariants as inputs
use Rattle.server_core.specs.declared.input.WriteEnd.{WriteEnd}
use Rattle.server_core.specs.declared.input.WriteEnd.TheVariants as ends
use Rattle.server_core.specs.History.{Entry, Met, Cut, Restart}
use Rattle.server_core.specs.Request.{Request, ToStage, ToStart, ToTrigger, ToMark, ToStop, ToVerify, ToHold, ToPassFully, ToIssue, ToEnd, ToReport, ToNobody}
use Rattle.server_core.specs.Request.{request_of}
use Rattle.server_core.specs.Run.{Work, is_halted, origin_of, with_issue, with_ticket, with_request, history, goes_on}
use Rattle.server_core.specs.Words.{Staged, boot, last_run, last_run_after, work, work_after, due}
use Rattle.server_core.specs.Answers.{refusal, issue_of_job, issue_of}
use Rattle.server_core.specs.DueStart.{DueIsStart}
use Rattle.server_core.specs.Laws.{NumbersGrow}
use Rattle.net_world.specs.declared.told.Told.{Told}
use Rattle.net_world.specs.declared.told.WorldAnswer.TheVariants as answers
use Rattle.net_world.specs.Setup.{Setup}
use Rattle.net_world.specs.Happenings.{Happening, Issue}
use Rattle.net_world.specs.Trace.{opening_of}
use Rattle.net_world.specs.Frames.{OfServer, frames_sent}
use Rattle.net_world.specs.Changes.{steps, trace}
use Rattle.net_world.specs.Barred.{barring_fault}
use Rattle.net_world.specs.Outcomes.{Outcome, outcome_of_step, unless_fault, unless_barred, met_by_server, outcome}
use Rattle.net_world.specs.World as worlds
use Rattle.net_world.specs.World.{world, told_by, told_of_happening}
use Rattle.seen.specs.Observations.{Observation}
use Rattle.seen.specs.Takings.{IsGiven}
use Rattle.seen.specs.Watching.{observation}
use Rattle.seen.proofs.EntryLemmas.{step_in, entry_by, same_entry}
use Rattle.seen.proofs.MakeLemmas.{makes}
use Rattle.seen.proofs.PlaceLemmas.{list_at, entry_now, one_more, seen_since}
use Rattle.seen.proofs.DoneLemmas.{last_more, last_since, same_event, ok_by, own_entry}
use Rattle.seen.proofs.QuietLemmas.{told_answer}
use Rattle.seen.proofs.HistoryLemmas.{is_next}
use Rattle.seen.proofs.GivenLemmas.{asks_issue, issue_happens, same_answer}

-- The laws on which this rests.
pub record IssuedLaws : Type 0 where
  pub grow : NumbersGrow
  pub due : DueIsStart

-- ---- what a request issues

-- With a request no write of the job is issued, or the next one.
data Goes (origin : Origin) (stopped : Bool) (x : Request) (h new : List window.Event) : Type 0 where
  Stays : issued new ≡ issued h → ((t : Ticket) → x ≡ ToIssue origin.key.job → answer_to origin stopped h ≡ Write t → ⊥) → Goes origin stopped x h new
  Adds : issued new ≡ issued h + 1 → x ≡ ToIssue origin.key.job → answer_to origin stopped h ≡ Write (ticket_of origin (issued h))
      → Goes origin stopped x h new

issue_goes : (origin : Origin) (stopped : Bool) (job : ℕ) (h : List window.Event) (b : Bool) (a : Issued) → (job == origin.key.job) ≡ b
    → answer_to origin stopped h ≡ a → Goes origin stopped (ToIssue job) h (if b then with_issue a h else h)
issue_goes origin stopped job h false a this is =
    Stays refl
    (λ t asks gives. let same : job ≡ origin.key.job = cc in let both : true ≡ false = sym (eq-eqb job origin.key.job same) ∙ this in absurd cc)
issue_goes origin stopped job h true (Write t) this is =
    Adds (length-append (window.issues h) (t.seq ∷ [])) (ap ToIssue (eqb-true job origin.key.job this))
    (is ∙ ap Write (is_next origin stopped (has_failed h) (issued h) (window.in_flight h) t is))
issue_goes origin stopped job h true issuing.Full this is = Stays refl (λ t asks gives. absurd cc)
issue_goes origin stopped job h true issuing.Held this is = Stays refl (λ t asks gives. absurd cc)
issue_goes origin stopped job h true issuing.Overlap this is = Stays refl (λ t asks gives. absurd cc)
issue_goes origin stopped job h true issuing.Finished this is = Stays refl (λ t asks gives. absurd cc)
issue_goes origin stopped job h true issuing.Stopped this is = Stays refl (λ t asks gives. absurd cc)

end_issues_none : (x : Result (Unit {0}) Fault) (end : WriteEnd) (k : ℕ) (h : List window.Event) → issued (with_ticket x end k h) ≡ issued h
end_issues_none (Ok u) ends.Done k h = refl
end_issues_none (Ok u) ends.Failed k h = refl
end_issues_none (Err fault) end k h = refl

request_goes : (origin : Origin) (stopped : Bool) (x : Request) (h : List window.Event) → Goes origin stopped x h (with_request origin stopped x h)
request_goes origin stopped (ToIssue job) h = issue_goes origin stopped job h (job == origin.key.job) (answer_to origin stopped h) refl refl
request_goes origin stopped (ToEnd ticket end) h =
    Stays (end_issues_none (ticket_answer origin (window.open_writes h) ticket) end ticket.seq h) (λ t asks gives. absurd cc)
request_goes origin stopped (ToStage r text) h = Stays refl (λ t asks gives. absurd cc)
request_goes origin stopped (ToStart r) h = Stays refl (λ t asks gives. absurd cc)
request_goes origin stopped (ToTrigger r act) h = Stays refl (λ t asks gives. absurd cc)
request_goes origin stopped (ToMark r j) h = Stays refl (λ t asks gives. absurd cc)
request_goes origin stopped (ToStop r) h = Stays refl (λ t asks gives. absurd cc)
request_goes origin stopped (ToVerify r a text) h = Stays refl (λ t asks gives. absurd cc)
request_goes origin stopped (ToHold a state) h = Stays refl (λ t asks gives. absurd cc)
request_goes origin stopped (ToPassFully a j) h = Stays refl (λ t asks gives. absurd cc)
request_goes origin stopped (ToReport b a j report) h = Stays refl (λ t asks gives. absurd cc)
request_goes origin stopped ToNobody h = Stays refl (λ t asks gives. absurd cc)

-- ---- the run before an entry

-- The run before a request with which it has gone on.
record Before (x : Request) (now : Option Work) (v : Work) : Type 0 where
  pub at : Work
  pub is : now ≡ Some at
  pub goes : v ≡ record at { since = x ∷ at.since }

went_on : (x : Request) (now : Option Work) (v : Work) → goes_on x now ≡ Some v → Before x now v
went_on x None v h = absurd cc
went_on x (Some at) v h = record { at = at; is = refl; goes = cc }

-- A run that is there behind an entry was there before it, unless it has begun with it, which makes it the last.
met_before : (left : SaveOutcome) (d : Option Staged) (me now_boot last : ℕ) (x : Request) (now : Option Work) (v : Work)
    → ((r : Staged) → d ≡ Some r → last < r.run) → last_run_after left d last ≡ last → work_after left d me now_boot x now ≡ Some v → Before x now v
met_before NoSave d me now_boot last x now v above same h = went_on x now v h
met_before Saved None me now_boot last x now v above same h = went_on x now v h
met_before Saved (Some r) me now_boot last x now v above same h = let more = above r refl in absurd (omega (arith, more, same))
met_before LostNew d me now_boot last x now v above same h = absurd cc
met_before LostOld d me now_boot last x now v above same h = absurd cc

-- ---- what is seen of an event

-- A worker that asks for a write of job j is given write k.
record Gives (o : Observation) (s j k : ℕ) : Type 0 where
  pub event : o.event ≡ Issue s j
  pub answer : Told
  pub told : o.told ≡ Ok answer
  pub ticket : Ticket
  pub write : answer.answer ≡ answers.Issued (Write ticket)
  pub number : ticket.seq ≡ k

-- What isn't refused is heard.
heard_if : (w : Setup) (s : ℕ) (events : List Happening) (e : Happening) (x : PacketInput) (left : SaveOutcome) (fault : Option Fault)
    → outcome w (world w events) e ≡ outcome_of_step (unless_fault fault (Ok (OfServer s (Happens (Met x left)))))
    → is_ok (told_by w (world w events) e (outcome_of_step (unless_fault fault (Ok (OfServer s (Happens (Met x left))))))) ≡ true
    → entry_now w s events e ≡ Some (Met x left)
heard_if w s events e x left None is ok =
    ap (λ (r : Outcome). entry_by s (steps (world w events)) (step_in r)) is ∙ own_entry s (Met x left) (steps (world w events))
heard_if w s events e x left (Some fault) is ok = absurd cc

-- A request for a write that isn't refused.
issue_heard : (w : Setup) (s : ℕ) (events : List Happening) (j : ℕ) → is_ok (told_of_happening w (world w events) (Issue s j)) ≡ true
    → (left : SaveOutcome) × (entry_now w s events (Issue s j) ≡ Some (Met (inputs.Issue j) left))
issue_heard w s events j ok =
    let past = world w events in
    let x = inputs.Issue j in
    let r = outcome_of_step (met_by_server (trace w past) s x) in
    let free = ok_by w past (Issue s j) (barring_fault w (trace w past) (frames_sent w (steps past)) (Issue s j)) r ok in
    let fault = refusal (opening_of s) (list_at w s events) x in
    let left = saved_for (due (opening_of s) (list_at w s events) x) in
    (left, heard_if w s events (Issue s j) x left fault (ap (λ y. unless_barred y r) free.0) free.1)

-- The server has met the request with which a write is seen to be given.
meets : (w : Setup) (s : ℕ) (events : List Happening) (e : Happening) (j k : ℕ) → (g : Gives (observation w events e) s j k)
    → (left : SaveOutcome) × (entry_now w s events e ≡ Some (Met (inputs.Issue j) left)) × (issue_of j (work (opening_of s) (list_at w s events)) ≡ Write g.ticket)
meets w s events e j k g =
    let past = world w events in
    let told : told_of_happening w past e ≡ Ok g.answer = g.told in
    let m = issue_heard w s events j (subst (λ (y : Happening). is_ok (told_of_happening w past y) ≡ true) g.event (ap is_ok told)) in
    let answer : worlds.answer w past (Issue s j) ≡ answers.Issued (Write g.ticket) =
    ap (worlds.answer w past) (sym g.event) ∙ sym (told_answer w past e (outcome w past e) g.answer told) ∙ g.write in (
      m.0,
      subst (λ (y : Happening). entry_now w s events y ≡ Some (Met (inputs.Issue j) m.0)) (sym g.event) m.1,
      same_answer (issue_of j (work (opening_of s) (list_at w s events))) g.ticket answer,
    )

-- A request that the server answers with a write is seen to give it.
gives : (w : Setup) (s j : ℕ) (events : List Happening) (e : Happening) (x : PacketInput) (left : SaveOutcome) (t : Ticket)
    → entry_now w s events e ≡ Some (Met x left) → request_of s x ≡ ToIssue j → issue_of j (work (opening_of s) (list_at w s events)) ≡ Write t
    → Gives (observation w events e) s j t.seq
gives w s j events e x left t is asks answer =
    let past = world w events in
    let entry : entry_now w s events e ≡ Some (Met (inputs.Issue j) left) = is ∙ ap (λ (y : PacketInput). Some (Met y left)) (asks_issue s j x asks) in
    let m = issue_happens w past s e (outcome w past e) j left (makes w past s e (Met (inputs.Issue j) left) entry) in
    let write : worlds.answer w past e ≡ answers.Issued (Write t) = ap (worlds.answer w past) m.0 ∙ ap answers.Issued answer in
    record { event = m.0; answer = _; told = ap (told_by w past e) m.2; ticket = t; write = write; number = refl }

-- ---- what is seen of all

-- Of the writes of job j, exactly those below n are seen to be given.
pub record AreGiven (among : List Observation) (s j n : ℕ) : Type 0 where
  pub each : (k : ℕ) → k < n → IsGiven among s j k
  pub no_other : (k : ℕ) → IsGiven among s j k → k < n

given_by : (o : Observation) (among : List Observation) (s j k : ℕ) → Contains among o → Gives o s j k → IsGiven among s j k
given_by o among s j k i g =
    record { given = o; there = i; event = g.event; answer = g.answer; told = g.told; ticket = g.ticket; write = g.write; number = g.number }

gives_it : (among : List Observation) (s j k : ℕ) → (g : IsGiven among s j k) → Gives g.given s j k
gives_it among s j k g = record { event = g.event; answer = g.answer; told = g.told; ticket = g.ticket; write = g.write; number = g.number }

-- Behind one more, those are given that were given before, and what it gives.
given_before : (o : Observation) (among : List Observation) (s j k : ℕ) → IsGiven among s j k → IsGiven (o ∷ among) s j k
given_before o among s j k g = given_by g.given (o ∷ among) s j k (behind_one o among g.given g.there) (gives_it among s j k g)

given_behind : (o : Observation) (among : List Observation) (s j k : ℕ) → IsGiven (o ∷ among) s j k → Gives o s j k ⊎ IsGiven among s j k
given_behind o among s j k g =
    let it = gives_it (o ∷ among) s j k g in
    elim (first_or_behind o among g.given g.there) [
      | inl here ↦ inl (subst (λ x. Gives x s j k) (sym here) it)
      | inr there ↦ inr (given_by g.given among s j k there it)
    ]

-- Where it gives none.
still_given : (o : Observation) (among : List Observation) (s j n : ℕ) → AreGiven among s j n → ((k : ℕ) → Gives o s j k → ⊥) → AreGiven (o ∷ among) s j n
still_given o among s j n a none =
    record {
      each = λ k l. given_before o among s j k (a.each k l);
      no_other = λ k h. elim (given_behind o among s j k h) [ inl now ↦ absurd (none k now) | inr before ↦ a.no_other k before ];
    }

same_given : (x : Result Told Fault) (a b : Told) (t u : Ticket) → x ≡ Ok a → x ≡ Ok b → a.answer ≡ answers.Issued (Write t)
    → b.answer ≡ answers.Issued (Write u) → t.seq ≡ u.seq
same_given x a b t u to_a to_b of_a of_b = cc

-- Where it gives the next one.
next_given : (o : Observation) (among : List Observation) (s j n : ℕ) → AreGiven among s j n → Gives o s j n → AreGiven (o ∷ among) s j (n + 1)
next_given o among s j n a g =
    record {
      each = λ k l. by k l (cases_lt k n);
      no_other = λ k h. elim (given_behind o among s j k h) [
        | inl now ↦ let same = same_given o.told g.answer now.answer g.ticket now.ticket g.told now.told g.write now.write in
            let is : n ≡ k = sym g.number ∙ same ∙ now.number in
            omega (arith, is)
        | inr before ↦ let l = a.no_other k before in omega (arith, l)
      ];
    }
  where
    by : (k : ℕ) → k < n + 1 → (k < n) ⊎ (n ≤ k) → IsGiven (o ∷ among) s j k
    by k l (inl below) = given_before o among s j k (a.each k below)
    by k l (inr above) = let is : n ≡ k = omega (arith, l, above) in given_by o (o ∷ among) s j k (first_of o among) (subst (Gives o s j) is g)

-- ---- event by event

met_is_seen : (w : Setup) (s j : ℕ) (events : List Happening) (e : Happening) (among : List Observation) (x : PacketInput) (left : SaveOutcome) (at : Work) (job : Job)
    → entry_now w s events e ≡ Some (Met x left) → work (opening_of s) (list_at w s events) ≡ Some at → slice_get at.jobs j ≡ Some job
    → AreGiven among s j (issued (history (origin_of at j job) at.since))
    → AreGiven (observation w events e ∷ among) s j (issued (history (origin_of at j job) (request_of s x ∷ at.since)))
met_is_seen w s j events e among x left at job is works has a =
    let origin = origin_of at j job in
    let h = history origin at.since in
    let o = observation w events e in
    let answer : issue_of j (work (opening_of s) (list_at w s events)) ≡ answer_to origin (is_halted at) h =
    ap (issue_of j) works ∙ ap (issue_of_job at j) has in
    elim (request_goes origin (is_halted at) (request_of s x) h) [
      | Stays same none ↦ subst (AreGiven (o ∷ among) s j) (sym same)
          (still_given o among s j (issued h) a
          (λ k g. let m = meets w s events e j k g in
          let entry = same_entry (Met x left) (Met (inputs.Issue j) m.0) (sym is ∙ m.1) in
          none g.ticket (ap (request_of s) (same_event x (inputs.Issue j) left m.0 entry)) (sym answer ∙ m.2)))
      | Adds more asks next ↦ subst (AreGiven (o ∷ among) s j) (sym more)
          (next_given o among s j (issued h) a (gives w s j events e x left (ticket_of origin (issued h)) is asks (answer ∙ next)))
    ]

step : DueIsStart → (w : Setup) (s j : ℕ) (events : List Happening) (e : Happening) (among : List Observation) (v : Work) (job : Job) (n : Option Entry)
    → entry_now w s events e ≡ n → last_run (opening_of s) (with_entry n (list_at w s events)) ≡ last_run (opening_of s) (list_at w s events)
    → work (opening_of s) (with_entry n (list_at w s events)) ≡ Some v → slice_get v.jobs j ≡ Some job
    → ((at : Work) → work (opening_of s) (list_at w s events) ≡ Some at → slice_get at.jobs j ≡ Some job
    → AreGiven among s j (issued (history (origin_of at j job) at.since)))
    → AreGiven (observation w events e ∷ among) s j (issued (history (origin_of v j job) v.since))
step law w s j events e among v job None is last now has f =
    still_given (observation w events e) among s j (issued (history (origin_of v j job) v.since)) (f v now has)
    (λ k g. let m = meets w s events e j k g in let no : None ≡ Some (Met (inputs.Issue j) m.0) = sym is ∙ m.1 in absurd cc)
step law w s j events e among v job (Some (Met x left)) is last now has f =
    let o = opening_of s in
    let list = list_at w s events in
    let b = met_before left (due o list x) s (boot o list) (last_run o list) (request_of s x) (work o list) v (λ r d. (law o list x r d).above) last now in
    let has_it : slice_get b.at.jobs j ≡ Some job = ap (λ (z : Work). slice_get z.jobs j) (sym b.goes) ∙ has in
    subst (λ (z : Work). AreGiven (observation w events e ∷ among) s j (issued (history (origin_of z j job) z.since))) (sym b.goes)
    (met_is_seen w s j events e among x left b.at job is b.is has_it (f b.at b.is has_it))
step law w s j events e among v job (Some Cut) is last now has f = absurd cc
step law w s j events e among v job (Some (Restart left)) is last now has f = absurd cc

-- Of the writes of a job, exactly those that were issued are seen to be given since the run began, while it is the last one.
pub are_given : IssuedLaws → (w : Setup) (s run j : ℕ) (mid base : List Happening) (u v : Work) (job : Job)
    → work (opening_of s) (list_at w s base) ≡ Some u → u.since ≡ []
    → last_run (opening_of s) (list_at w s base) ≡ run → last_run (opening_of s) (list_at w s (mid ++ base)) ≡ run
    → work (opening_of s) (list_at w s (mid ++ base)) ≡ Some v → slice_get v.jobs j ≡ Some job
    → AreGiven (seen_since w mid base) s j (issued (history (origin_of v j job) v.since))
are_given laws w s run j [] base u v job first new below last now has =
    let same : u ≡ v = cc in
    let none : v.since ≡ [] = ap (λ (z : Work). z.since) (sym same) ∙ new in
    subst (λ l. AreGiven [] s j (issued (history (origin_of v j job) l))) (sym none)
    (record { each = λ k l. absurd (omega (arith, l)); no_other = λ k g. absurd (none_in g.given g.there) })
are_given laws w s run j (e ∷ mid) base u v job first new below last now has =
    let o = opening_of s in
    let events = mid ++ base in
    let a = last_since laws.grow w s mid base in
    let b = last_more laws.grow w s events e in
    let before : last_run o (list_at w s events) ≡ run = omega (arith, a, b, below, last) in
    let list = one_more w s events e in
    step laws.due w s j events e (seen_since w mid base) v job (entry_now w s events e) refl (ap (last_run o) (sym list) ∙ last ∙ sym before)
    (ap (work o) (sym list) ∙ now) has
    (λ at is has_it. are_given laws w s run j mid base u at job first new below before is has_it)

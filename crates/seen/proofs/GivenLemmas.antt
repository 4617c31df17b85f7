-- Each open write was given, as it is seen, by the newest Issue that was answered with its number.
use Rattle.std.proofs.Common.{◌≡◌, refl, sym, ◌∙◌, ap, subst, ◌⊎◌, inl, inr, ℕ, Bool, true, false, List, [], ◌∷◌}
use Rattle.std.proofs.Common.{Option, Some, None, Result, Ok, Err}
use Rattle.std.specs.Prelude.{if◌then◌else◌, ◌&&◌, ◌==◌}
use Rattle.std.specs.Option.{option_or}
use Rattle.std.proofs.lemmas.Bool.{and_parts, and_from, eqb-true, eq-eqb}
use Rattle.fc_base.specs.declared.fault.Fault.{Fault}
use Rattle.engine.specs.History.{issued, in_flight}
use Rattle.engine.specs.declared.issue.Ticket.{Ticket}
use Rattle.engine.specs.declared.issue.Issue.{Issue as Issued}
use Rattle.engine.specs.declared.issue.Issue.TheVariants as issuing
use Rattle.engine.specs.declared.issue.Issue.TheVariants.{Write}
use Rattle.engine.specs.Legal.{has_failed}
use Rattle.engine.specs.Running.{Origin}
use Rattle.engine.specs.Answers.{ticket_of, answer_to}
use Rattle.disk_model.specs.declared.save_outcome.SaveOutcome.{SaveOutcome}
use Rattle.messages.specs.Nodes.{is_client, is_server}
use Rattle.messages.specs.declared.body.Body.{Body}
use Rattle.messages.specs.declared.body.Body.TheVariants as bodies
use Rattle.messages.specs.Hearing.{with_entry}
use Rattle.server_core.specs.Inputs.{PacketInput}
use Rattle.server_core.specs.declared.input.Input.TheVariants as inputs
use Rattle.server_core.specs.History.{Entry, Met, Cut, Restart}
use Rattle.server_core.specs.Request.{ToIssue, ToNobody}
use Rattle.server_core.specs.Request.{request_in, request_of}
use Rattle.server_core.specs.Run.{Work, is_halted, history}
use Rattle.server_core.specs.OpenWrites.{open_origin}
use Rattle.server_core.specs.Words.{work, due}
use Rattle.server_core.specs.Answers.{issue_of_job, issue_of}
use Rattle.net_world.specs.declared.told.Told.{Told}
use Rattle.net_world.specs.declared.told.WorldAnswer.{WorldAnswer}
use Rattle.net_world.specs.declared.told.WorldAnswer.TheVariants as answers
use Rattle.net_world.specs.Setup.{Setup}
use Rattle.net_world.specs.Happenings.{Happening, Begin, Trigger, StopRun, Verify, Tick, Deliver, Issue, Land, Done, Fail, Rot, LoseNote, Renew, CutIn}
use Rattle.net_world.specs.Happenings as happenings
use Rattle.net_world.specs.Contents.{is_file}
use Rattle.net_world.specs.Trace.{of_server, opening_of}
use Rattle.net_world.specs.Changes.{Change, trace}
use Rattle.net_world.specs.Writes.{open_at}
use Rattle.net_world.specs.Outcomes.{Outcome, Does, outcome}
use Rattle.net_world.specs.World as worlds
use Rattle.net_world.specs.World.{world, told_by, told_of_happening}
use Rattle.seen.specs.Files.{ticket_in, ticket_with, given_write}
use Rattle.seen.specs.Watching.{observations}
use Rattle.seen.proofs.EntryLemmas.{Makes, ByFrame, ByLoss, ByWorker, ByEnd, ByCheck, ByCut, ByRestart}
use Rattle.seen.proofs.MakeLemmas.{makes}
use Rattle.seen.proofs.PlaceLemmas.{list_at, entry_now, one_more}
use Rattle.seen.proofs.DoneLemmas.{same_event}
use Rattle.seen.proofs.QuietLemmas.{told_answer}
use Rattle.seen.proofs.HistoryLemmas.{of_origin, IsNew, Opened, opened, from_met}

no_issue_in : (b : Body) (j : ℕ) → request_in b ≡ ToIssue j → ⊥
no_issue_in (bodies.Start q) j h = cc
no_issue_in (bodies.Jobs q text) j h = cc
no_issue_in (bodies.Trigger q act) j h = cc
no_issue_in (bodies.StateAck q job) j h = cc
no_issue_in (bodies.Stop q) j h = cc
no_issue_in (bodies.Verify q a text) j h = cc
no_issue_in (bodies.Saved a state) j h = cc
no_issue_in (bodies.NoSaved q a job) j h = cc
no_issue_in (bodies.JobsOk q n) j h = cc
no_issue_in (bodies.Started q) j h = cc
no_issue_in (bodies.State n state) j h = cc
no_issue_in (bodies.NoState q job n) j h = cc
no_issue_in (bodies.Stopped q) j h = cc
no_issue_in (bodies.WantState q a job) j h = cc
no_issue_in (bodies.Report q a job n report) j h = cc
no_issue_in (bodies.Refused refusal) j h = cc
no_issue_in (bodies.Copy state) j h = cc
no_issue_in (bodies.CopyOk q server job) j h = cc
no_issue_in (bodies.Fetch g) j h = cc
no_issue_in (bodies.Granted g) j h = cc

no_issue_by : (b : Bool) (body : Body) (j : ℕ) → (if b then request_in body else ToNobody) ≡ ToIssue j → ⊥
no_issue_by true body j h = no_issue_in body j h
no_issue_by false body j h = cc

-- Only a worker asks for a write.
pub asks_issue : (me j : ℕ) (x : PacketInput) → request_of me x ≡ ToIssue j → x ≡ inputs.Issue j
asks_issue me j (inputs.Deliver p) h = absurd (no_issue_by (is_client p.from && is_server me p.to) p.body j h)
asks_issue me j (inputs.Issue i) h = cc
asks_issue me j (inputs.WriteDone ticket end) h = absurd cc
asks_issue me j (inputs.CheckDone boot a i report) h = absurd cc

-- The happening of a request for a write.
pub issue_happens : (w : Setup) (past : List Change) (s : ℕ) (e : Happening) (r : Outcome) (j : ℕ) (left : SaveOutcome)
    → Makes w past s e r (Met (inputs.Issue j) left) → (e ≡ Issue s j) × (c : Change) × (r ≡ Does c)
issue_happens w past s e r j left (ByFrame i f p l event there to says free saved is does) = absurd cc
issue_happens w past s e r j left (ByLoss x l is lost d due_is) =
    let same = same_event (inputs.Issue j) x left l is in
    let none : None ≡ Some d = subst (λ (y : PacketInput). due (opening_of s) (of_server s (trace w past)) y ≡ Some d) (sym same) due_is in
    absurd cc
issue_happens w past s e r j left (ByWorker i l event saved is c does) =
    let same : i ≡ j = cc in
    (event ∙ ap (Issue s) same, c, does)
issue_happens w past s e r j left (ByEnd end i k origin l event there free saved is c does) = absurd cc
issue_happens w past s e r j left (ByCheck boot a i report l event end saved is c does) = absurd cc
issue_happens w past s e r j left (ByCut is) = absurd cc
issue_happens w past s e r j left (ByRestart l is) = absurd cc

-- ---- what is seen of it

-- This gives write k of job j at server s.
record Gives (s j k : ℕ) (e : Happening) (x : Result Told Fault) : Type 0 where
  pub event : e ≡ Issue s j
  pub told : Told
  pub told_is : x ≡ Ok told
  pub ticket : Ticket
  pub answer : told.answer ≡ answers.Issued (Write ticket)
  pub seq : ticket.seq ≡ k
  pub given : ticket_with s j k e x ≡ Some ticket

given_in : (k : ℕ) (a : WorldAnswer) → (ticket_in k a ≡ None) ⊎ ((t : Ticket) × (a ≡ answers.Issued (Write t)) × (t.seq ≡ k) × (ticket_in k a ≡ Some t))
given_in k answers.Plain = inl refl
given_in k (answers.Run r) = inl refl
given_in k (answers.Attempt r) = inl refl
given_in k (answers.Issued (Write t)) = by (t.seq == k) (eqb-true t.seq k)
  where
    by : (b : Bool) → (b ≡ true → t.seq ≡ k) → ((if b then Some t else None) ≡ None)
        ⊎ ((u : Ticket) × (answers.Issued (Write t) ≡ answers.Issued (Write u)) × (u.seq ≡ k) × ((if b then Some t else None) ≡ Some u))
    by true is = inr (t, refl, is refl, refl)
    by false is = inl refl
given_in k (answers.Issued issuing.Full) = inl refl
given_in k (answers.Issued issuing.Held) = inl refl
given_in k (answers.Issued issuing.Overlap) = inl refl
given_in k (answers.Issued issuing.Finished) = inl refl
given_in k (answers.Issued issuing.Stopped) = inl refl
given_in k (answers.Checked report) = inl refl

file_is : (t i s j : ℕ) → is_file t i s j ≡ true → (t ≡ s) × (i ≡ j)
file_is t i s j h =
    let p = and_parts (t == s) (i == j) h in
    (eqb-true t s p.0, eqb-true i j p.1)

given_by : (s j k t i : ℕ) (told : Told) (b : Bool) → is_file t i s j ≡ b
    → (ticket_with s j k (Issue t i) (Ok told) ≡ None) ⊎ Gives s j k (Issue t i) (Ok told)
given_by s j k t i told false is = inl (ap (λ b. if b then ticket_in k told.answer else None) is)
given_by s j k t i told true is = elim (given_in k told.answer) [
  | inl none ↦ inl (ap (λ b. if b then ticket_in k told.answer else None) is ∙ none)
  | inr some ↦ let f = file_is t i s j is in
      inr (record {
        event = ap (λ n. Issue n i) f.0 ∙ ap (Issue s) f.1;
        told = told;
        told_is = refl;
        ticket = some.0;
        answer = some.1;
        seq = some.2;
        given = ap (λ b. if b then ticket_in k told.answer else None) is ∙ some.3;
      })
]

gives_or_not : (s j k : ℕ) (e : Happening) (x : Result Told Fault) → (ticket_with s j k e x ≡ None) ⊎ Gives s j k e x
gives_or_not s j k (Issue t i) (Ok told) = given_by s j k t i told (is_file t i s j) refl
gives_or_not s j k (Issue t i) (Err fault) = inl refl
gives_or_not s j k (Begin text) x = inl refl
gives_or_not s j k (Trigger run act) x = inl refl
gives_or_not s j k (StopRun run) x = inl refl
gives_or_not s j k (Verify run text) x = inl refl
gives_or_not s j k Tick x = inl refl
gives_or_not s j k (Deliver i) x = inl refl
gives_or_not s j k (Land r i n mask) x = inl refl
gives_or_not s j k (Done r i n) x = inl refl
gives_or_not s j k (Fail r i n) x = inl refl
gives_or_not s j k (Rot r i sector bytes) x = inl refl
gives_or_not s j k (happenings.Check r i) x = inl refl
gives_or_not s j k (happenings.Cut node) x = inl refl
gives_or_not s j k (happenings.Restart node) x = inl refl
gives_or_not s j k LoseNote x = inl refl
gives_or_not s j k (Renew g) x = inl refl
gives_or_not s j k (CutIn landed inner) x = inl refl

-- What is answered in a run to a request for a write.
answered : (now : Option Work) (j : ℕ) (origin : Origin) (f : Opened now j origin)
    → issue_of j now ≡ answer_to origin (is_halted f.at) (history origin f.at.since)
answered now j origin f =
    ap (issue_of j) f.is ∙ ap (issue_of_job f.at j) f.has_job
    ∙ ap (λ (z : Origin). answer_to z (is_halted f.at) (history z f.at.since)) (sym f.origin_is)

pub same_answer : (x : Issued) (t : Ticket) → answers.Issued x ≡ answers.Issued (Write t) → x ≡ Write t
same_answer x t h = cc

-- A write that is given in the run of an origin is given with its ticket.
given_of : (w : Setup) (s j k : ℕ) (events : List Happening) (e : Happening) (origin : Origin) → Opened (work (opening_of s) (list_at w s events)) j origin
    → (g : Gives s j k e (told_of_happening w (world w events) e)) → g.ticket ≡ ticket_of origin k
given_of w s j k events e origin f g =
    let past = world w events in
    let now = work (opening_of s) (list_at w s events) in
    let answer : answers.Issued (issue_of j now) ≡ answers.Issued (Write g.ticket) =
    ap (worlds.answer w past) (sym g.event) ∙ sym (told_answer w past e (outcome w past e) g.told g.told_is) ∙ g.answer in
    let h = history origin f.at.since in
    let gives : answer_to origin (is_halted f.at) h ≡ Write g.ticket = sym (answered now j origin f) ∙ same_answer (issue_of j now) g.ticket answer in
    of_origin origin (is_halted f.at) (has_failed h) (issued h) (in_flight h) g.ticket gives ∙ ap (ticket_of origin) g.seq

-- A write that is new is seen to be given.
new_is_seen : (s j k : ℕ) (ticket : Ticket) (a : WorldAnswer) → ticket.seq ≡ k → a ≡ answers.Issued (Write ticket)
    → (if is_file s j s j then ticket_in k a else None) ≡ Some ticket
new_is_seen s j k ticket a seq is =
    ap (λ b. if b then ticket_in k a else None) (and_from (s == s) (j == j) (eq-eqb s s refl) (eq-eqb j j refl))
    ∙ ap (ticket_in k) is ∙ ap (λ b. if b then Some ticket else None) (eq-eqb ticket.seq k seq)

seen_new : (w : Setup) (s j k : ℕ) (events : List Happening) (e : Happening) (origin : Origin) (x : PacketInput) (left : SaveOutcome)
    → (f : Opened (work (opening_of s) (list_at w s events)) j origin) → entry_now w s events e ≡ Some (Met x left)
    → IsNew origin (is_halted f.at) (request_of s x) (history origin f.at.since) k
    → ticket_with s j k e (told_of_happening w (world w events) e) ≡ Some (ticket_of origin k)
seen_new w s j k events e origin x left f is new =
    let past = world w events in
    let now = work (opening_of s) (list_at w s events) in
    let job : origin.key.job ≡ j = ap (λ (z : Origin). z.key.job) f.origin_is in
    let asks : x ≡ inputs.Issue j = asks_issue s j x (new.asks ∙ ap ToIssue job) in
    let entry : entry_now w s events e ≡ Some (Met (inputs.Issue j) left) = is ∙ ap (λ (y : PacketInput). Some (Met y left)) asks in
    let m = issue_happens w past s e (outcome w past e) j left (makes w past s e (Met (inputs.Issue j) left) entry) in
    let answer : worlds.answer w past e ≡ answers.Issued (Write (ticket_of origin k)) =
    ap (worlds.answer w past) m.0 ∙ ap answers.Issued (answered now j origin f ∙ new.gives) in
    ap (λ (y : Happening). ticket_with s j k y (told_of_happening w past e)) m.0
    ∙ ap (λ (r : Outcome). ticket_with s j k (Issue s j) (told_by w past e r)) m.2
    ∙ new_is_seen s j k (ticket_of origin k) (worlds.answer w past e) refl answer

-- ---- event by event

-- An open write behind one more event is seen to be given with it, or was open before.
step : (w : Setup) (s j k : ℕ) (events : List Happening) (e : Happening) (origin : Origin) (n : Option Entry) → entry_now w s events e ≡ n
    → open_origin (work (opening_of s) (with_entry n (list_at w s events))) j k ≡ Some origin
    → (ticket_with s j k e (told_of_happening w (world w events) e) ≡ Some (ticket_of origin k))
    ⊎ (Opened (work (opening_of s) (list_at w s events)) j origin × (open_origin (work (opening_of s) (list_at w s events)) j k ≡ Some origin))
step w s j k events e origin None is h = inr (opened (work (opening_of s) (list_at w s events)) j k origin h, h)
step w s j k events e origin (Some (Met x left)) is h =
    let o = opening_of s in
    let list = list_at w s events in
    let f = from_met left (due o list x) s _ (request_of s x) (work o list) j k origin h in
    elim f.how [
      | inl before ↦ inr (f.of, before)
      | inr new ↦ inl (seen_new w s j k events e origin x left f.of is new)
    ]
step w s j k events e origin (Some Cut) is h = absurd cc
step w s j k events e origin (Some (Restart left)) is h = absurd cc

-- Each open write was given, with just its ticket, by the newest request for a write of its job at its server that was told its number.
pub open_was_given : (w : Setup) (s : ℕ) (events : List Happening) (j k : ℕ) (origin : Origin)
    → open_at (trace w (world w events)) s j k ≡ Some origin
    → given_write s j k (observations w events) ≡ Some (ticket_of origin k)
open_was_given w s [] j k origin h = absurd cc
open_was_given w s (e ∷ events) j k origin h =
    let told = told_of_happening w (world w events) e in
    let older = given_write s j k (observations w events) in
    elim (step w s j k events e origin (entry_now w s events e) refl
    (subst (λ l. open_origin (work (opening_of s) l) j k ≡ Some origin) (one_more w s events e) h)) [
      | inl now ↦ ap (λ x. option_or x older) now
      | inr before ↦ elim (gives_or_not s j k e told) [
        | inl none ↦ ap (λ x. option_or x older) none ∙ open_was_given w s events j k origin before.1
        | inr g ↦ ap (λ x. option_or x older) g.given ∙ ap Some (given_of w s j k events e origin before.0 g)
      ]
    ]

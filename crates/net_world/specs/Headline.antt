-- The headline: what is claimed of each trace, and of each world.
use Rattle.std.specs.Prelude.{◌≡◌, ℕ, ◌≤◌, List, [], ◌∷◌, ◌++◌, length, Contains, Ok, Err, Some, IsTrue}
use Rattle.fc_base.specs.declared.fault.Fault.TheVariants.{Conflict}
use Rattle.fc_base.specs.declared.numbers.Key.{Key}
use Rattle.fc_base.specs.declared.report.ReportParts.{ReportParts}
use Rattle.fc_base.specs.Counted.{is_distinct}
use Rattle.job_file.specs.declared.job.Job.{Job}
use Rattle.verify_state.specs.State.{State}
use Rattle.messages.specs.declared.packet.PacketParts.{PacketParts}
use Rattle.messages.specs.declared.body.Body.TheVariants as bodies
use Rattle.messages.specs.declared.refusal.Act.TheVariants as acts
use Rattle.disk_model.specs.declared.save_outcome.SaveOutcome.{SaveOutcome}
use Rattle.server_core.specs.Inputs.{PacketInput}
use Rattle.server_core.specs.History.{Met}
use Rattle.server_core.specs.Run.{Work}
use Rattle.server_core.specs.Words.{work}
use Rattle.server_core.specs.Answers.{act}
use Rattle.server_core.specs.Accepted.{IsTaking}
use Rattle.server_core.specs.Check.{Check, With, progress}
use Rattle.client_core.specs.Life.{life, deeds_done}
use Rattle.client_core.specs.Requests.{Served, trigger_at}
use Rattle.client_core.specs.Words.{kept_state}
use Rattle.client_core.specs.Numbering.{runs_in, attempts_in}
use Rattle.client_core.specs.declared.received.Received.{Received}
use Rattle.client_core.specs.Reports.{reports}
use Rattle.net_world.specs.declared.told.WorldAnswer.TheVariants.{Checked}
use Rattle.net_world.specs.declared.told.Told.{Told}
use Rattle.net_world.specs.Setup.{Setup}
use Rattle.net_world.specs.Trace.{Step, AtServer, opening_of, of_server, of_client, client_opening, sent_packets}
use Rattle.net_world.specs.Holders.{Holds, taken_of, key_at}
use Rattle.net_world.specs.Passes.{WasKept}
use Rattle.net_world.specs.Reported.{WasReported}
use Rattle.net_world.specs.Started.{started_runs}
use Rattle.net_world.specs.Frames.{FrameStep, trace_heard}
use Rattle.net_world.specs.FrameLaws.{PiecesHold}
use Rattle.net_world.specs.Happenings.{Happening}
use Rattle.net_world.specs.Happenings as happenings
use Rattle.net_world.specs.Changes.{Change}
use Rattle.net_world.specs.World.{told_of_happening}
use Rattle.net_world.specs.Exact.{IsBased, IsExact}
use Rattle.net_world.specs.Honest.{AreHonest, AreWhole, IsCheckedWith, IsFaulty, WasInFlight}

-- Of a job of a run one state is taken at most.
abbrev pub OneTaking : Setup → List Step → Type 0
OneTaking w t = (key : Key) → length (taken_of key t) ≤ 1

-- Whoever holds a state of a job of a run holds the one that was taken.
abbrev pub HeldIsTheTaken : Setup → List Step → Type 0
HeldIsTheTaken w t = (key : Key) (state : State) → Holds w t key state → taken_of key t ≡ state ∷ []

-- Pieces that were sent, and together hold a state of a job of a run, hold the one that was taken.
abbrev pub PiecesHoldTheTaken : Setup → List FrameStep → Type 0
PiecesHoldTheTaken w t =
    (key : Key) (state : State) → PiecesHold w t key state
    → taken_of key (trace_heard w t) ≡ state ∷ []

-- A state that is held was taken at its server, by a Trigger behind the accepted Start of its run,
-- and counts exactly the writes that were completed between the two.
abbrev pub CountsTheCompleted : Setup → List Step → Type 0
CountsTheCompleted w t =
    (key : Key) (state : State) → Holds w t key state →
    IsTaking (opening_of key.server) key.run key.job (of_server key.server t) state

-- A state with which a job is checked was taken at this server, which has issued no write since.
abbrev pub QuietUntilTheCheck : Setup → List Step → Type 0
QuietUntilTheCheck w t =
    (s j : ℕ) (state : State) → progress (opening_of s) (of_server s t) j ≡ Some (With state) →
    IsBased s j (of_server s t) state

-- A check that isn't refused answers the exact report.
abbrev pub ExactReports : Setup → List Change → Type 0
ExactReports w past =
    (s j : ℕ) (t : Told) → told_of_happening w past (happenings.Check s j) ≡ Ok t →
    (r : ReportParts) × (t.answer ≡ Checked r) × IsExact w past s j r

-- On an honest disk a check with a state faults only blocks to which a write was in flight at the
-- taking: whatever other disks have done.
abbrev pub FewFaults : Setup → List Change → Type 0
FewFaults w past =
    (s j : ℕ) (c : Check) (job : Job) (state : State) (block : ℕ) →
    AreHonest w s j past → IsCheckedWith w past s j c job state
    → IsFaulty w past s j c job state block → WasInFlight state block

-- Where writes to it are whole besides, it faults none.
abbrev pub NoFaults : Setup → List Change → Type 0
NoFaults w past =
    (s j : ℕ) (c : Check) (job : Job) (state : State) (block : ℕ) →
    AreHonest w s j past → AreWhole w s j past → IsCheckedWith w past s j c job state
    → IsFaulty w past s j c job state block → ⊥

-- Nothing that happens is refused as another state of a kept key.
abbrev pub NoConflict : Setup → List Change → Type 0
NoConflict w past = (e : Happening) → told_of_happening w past e ≡ Err Conflict → ⊥

-- Two State packets of one key are equal, and so are their bytes.
abbrev pub StatePacketsAreEqual : Setup → List Step → Type 0
StatePacketsAreEqual w t =
    (p q : PacketParts) (jobs more : ℕ) (a b : State) →
    Contains (sent_packets w t) p → p.body ≡ bodies.State jobs a →
    Contains (sent_packets w t) q → q.body ≡ bodies.State more b → a.key ≡ b.key → p ≡ q

-- Where a trigger has ended well at a server, each state that this server took in the run is kept.
abbrev pub KeptWhereServed : Setup → List Step → Type 0
KeptWhereServed w t =
    (key : Key) (state : State) →
    trigger_at key.run key.server (life (client_opening w) (of_client w t)) ≡ Served →
    Contains (taken_of key t) state → kept_state (client_opening w) (of_client w t) key ≡ Some state

-- Where a server asked for the cut, each state that it took in its run was kept by then: a note can
-- be lost since.
abbrev pub KeptWhereCut : Setup → List Step → Type 0
KeptWhereCut w t =
    (later earlier : List Step) (s : ℕ) (e : PacketInput) (left : SaveOutcome) (now : Work) (j : ℕ)
    (state : State) →
    t ≡ later ++ AtServer s (Met e left) ∷ earlier
    → work (opening_of s) (of_server s earlier) ≡ Some now
    → act (opening_of s) (of_server s earlier) e ≡ acts.Cut
    → Contains (taken_of (key_at now.run s j) earlier) state
    → WasKept w earlier (key_at now.run s j) state

-- Each report that the client holds is one that a check of its server was done with.
abbrev pub HeldReportsWereMade : Setup → List Step → Type 0
HeldReportsWereMade w t =
    (r : Received) → Contains (reports (life (client_opening w) (of_client w t))) r
    → WasReported t r.server r.run r.attempt r.job r.report

-- No run is given twice, whatever was cut and lost.
abbrev pub RunsAreGivenOnce : Setup → List Step → Type 0
RunsAreGivenOnce w t =
    IsTrue (is_distinct (runs_in (deeds_done (client_opening w) (of_client w t))))

-- No attempt is given twice.
abbrev pub AttemptsAreGivenOnce : Setup → List Step → Type 0
AttemptsAreGivenOnce w t =
    IsTrue (is_distinct (attempts_in (deeds_done (client_opening w) (of_client w t))))

-- A server accepts a Start of a run once.
abbrev pub StartsAreAcceptedOnce : Setup → List Step → Type 0
StartsAreAcceptedOnce w t =
    (s : ℕ) → IsTrue (is_distinct (started_runs (opening_of s) (of_server s t)))

-- All Jobs packets of a run carry one text, to whichever servers they go.
abbrev pub OneTextOfEachRun : Setup → List Step → Type 0
OneTextOfEachRun w t =
    (p q : PacketParts) (run : ℕ) (text other : List ℕ) →
    Contains (sent_packets w t) p → p.body ≡ bodies.Jobs run text →
    Contains (sent_packets w t) q → q.body ≡ bodies.Jobs run other → text ≡ other

-- All Verify packets of an attempt carry one run and text.
abbrev pub OneTextOfEachAttempt : Setup → List Step → Type 0
OneTextOfEachAttempt w t =
    (p q : PacketParts) (attempt run run_there : ℕ) (text other : List ℕ) →
    Contains (sent_packets w t) p → p.body ≡ bodies.Verify run attempt text →
    Contains (sent_packets w t) q → q.body ≡ bodies.Verify run_there attempt other →
    (run ≡ run_there) × (text ≡ other)

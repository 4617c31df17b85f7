-- What is claimed of all that is seen of a world, at each moment of it.
use Rattle.std.specs.Prelude.{◌≡◌, ℕ, true, List, ◌∷◌, ◌++◌, Some, None, Ok, Err}
use Rattle.fc_base.specs.declared.fault.Fault.{Fault}
use Rattle.fc_base.specs.declared.report.ReportParts.{ReportParts}
use Rattle.verify_state.specs.State.{State}
use Rattle.messages.specs.declared.refusal.Act.TheVariants.{Cut}
use Rattle.messages.specs.declared.body.Body.TheVariants.{NoSaved, Report, StateAck, State as StateBody}
use Rattle.net_world.specs.declared.told.Told.{Told}
use Rattle.net_world.specs.declared.told.WorldAnswer.TheVariants.{Checked}
use Rattle.net_world.specs.Happenings.{Check}
use Rattle.net_world.specs.Holders.{key_at}
use Rattle.seen.specs.Observations.{Observation}
use Rattle.seen.specs.Sightings.{Comes, IsAmong, IsSeen, from_server, to_server}
use Rattle.seen.specs.Texts.{Asked, text_with, text_of, asked_with, asked_of}
use Rattle.seen.specs.Refusals.{ChangesNothing, IsOfNone}
use Rattle.seen.specs.Takings.{IsTaken}
use Rattle.seen.specs.Reports.{IsExact, WasTold}
use Rattle.seen.specs.Cuts.{IsAcknowledged, IsKeptOrNone}
use Rattle.seen.specs.Kept.{is_answer, keeps_note, StaysKept, EndedWell}

-- An event that is refused changes nothing of what is seen.
abbrev pub RefusalsChangeNothing : List Observation → Type 0
RefusalsChangeNothing seen =
    (newer older : List Observation) (o : Observation) (fault : Fault) →
    seen ≡ newer ++ o ∷ older → o.told ≡ Err fault → ChangesNothing older o

-- An event is refused that is of a frame which wasn't sent, or of a write which wasn't given.
abbrev pub UnknownIsRefused : List Observation → Type 0
UnknownIsRefused seen =
    (newer older : List Observation) (o : Observation) →
    seen ≡ newer ++ o ∷ older → IsOfNone older o.event → (fault : Fault) × (o.told ≡ Err fault)

-- Two states of one key that are seen, wherever and whenever, are the same.
abbrev pub OneState : List Observation → Type 0
OneState seen = (a b : State) → IsSeen seen a → IsSeen seen b → a.key ≡ b.key → a ≡ b

-- A state that is seen was taken by its server, at a Trigger of its run; it counts exactly the
-- writes that were done by then, and between the taking and any report of a check of that run no
-- further write was given there.
abbrev pub EachIsTaken : List Observation → Type 0
EachIsTaken seen = (state : State) → IsSeen seen state → IsTaken seen state

-- A check that isn't refused is told the exact report. Where it is made by a state, that blames an
-- honest disk only for blocks to which a write was in flight at the taking.
abbrev pub EachReportIsExact : List Observation → Type 0
EachReportIsExact seen =
    (newer older : List Observation) (o : Observation) (s j : ℕ) (t : Told) (r : ReportParts) →
    seen ≡ newer ++ o ∷ older → o.event ≡ Check s j → o.told ≡ Ok t → t.answer ≡ Checked r
    → IsExact older o s j r

-- Each Report that a server sends, for the first time or again, is of a check that was told it: of
-- that run, attempt and job, and with that report.
abbrev pub EachReportWasTold : List Observation → Type 0
EachReportWasTold seen =
    (newer older : List Observation) (o : Observation) (s run attempt j jobs : ℕ) (r : ReportParts) →
    seen ≡ newer ++ o ∷ older
    → IsAmong o.frames (from_server s (Report run attempt j jobs r))
    → WasTold (o ∷ older) s run attempt j r

-- The client tells a check that there is no state only where its note shows none of that key.
abbrev pub NoSavedIsOfNone : List Observation → Type 0
NoSavedIsOfNone seen =
    (newer older : List Observation) (o : Observation) (s run attempt job : ℕ) →
    seen ≡ newer ++ o ∷ older → IsAmong o.frames (to_server s (NoSaved run attempt job))
    → o.saved (key_at run s job) ≡ None

-- A server asks for its cut only where a Trigger of the run ordered it, and once each of its states
-- is acknowledged.
abbrev pub CutsAreBehindAcks : List Observation → Type 0
CutsAreBehindAcks seen =
    (newer older : List Observation) (o : Observation) (t : Told) →
    seen ≡ newer ++ o ∷ older → o.told ≡ Ok t → t.act ≡ Cut → IsAcknowledged older o

-- The client acknowledges what its note shows then, or a job that has no state.
abbrev pub AcksAreOfKept : List Observation → Type 0
AcksAreOfKept seen =
    (newer older : List Observation) (o : Observation) (s run job : ℕ) →
    seen ≡ newer ++ o ∷ older → IsAmong o.frames (to_server s (StateAck run job))
    → IsKeptOrNone older o s run job

-- A State that has come to the client stays in its note, until this is lost.
abbrev pub WhatComesIsKept : List Observation → Type 0
WhatComesIsKept seen =
    (newer older : List Observation) (came : Observation) (s jobs : ℕ) (state : State) →
    seen ≡ newer ++ came ∷ older → Comes older came (from_server s (StateBody jobs state))
    → StaysKept newer came state

-- Where a State or a NoState has come of each job, as when a trigger ends well at a server, and the
-- client's note wasn't lost from the first of these on, the note shows each state that is seen of
-- the run and server, behind each call that the client answers.
abbrev pub EndedIsKept : List Observation → Type 0
EndedIsKept seen =
    (newer recent old : List Observation) (o : Observation) (s run : ℕ) (state : State) →
    seen ≡ newer ++ o ∷ (recent ++ old) → EndedWell recent old s run → keeps_note recent ≡ true
    → is_answer o ≡ true → IsSeen (recent ++ old) state → state.key.run ≡ run
    → state.key.server ≡ s → o.saved state.key ≡ Some state

-- No Begin is told a number of a run that one before was told: so a run has one job file.
abbrev pub RunsAreGivenOnce : List Observation → Type 0
RunsAreGivenOnce seen =
    (newer older : List Observation) (o : Observation) (run : ℕ) (text : List ℕ) →
    seen ≡ newer ++ o ∷ older → text_with run o.event o.told ≡ Some text → text_of run older ≡ None

-- No Verify is told a number of an attempt that one before was told: so an attempt has one run and
-- job file.
abbrev pub AttemptsAreGivenOnce : List Observation → Type 0
AttemptsAreGivenOnce seen =
    (newer older : List Observation) (o : Observation) (attempt : ℕ) (asked : Asked) →
    seen ≡ newer ++ o ∷ older → asked_with attempt o.event o.told ≡ Some asked
    → asked_of attempt older ≡ None

-- Numbers of runs and of attempts are given once.
abbrev pub NumbersAreGivenOnce : List Observation → Type 0
NumbersAreGivenOnce seen = RunsAreGivenOnce seen × AttemptsAreGivenOnce seen

-- What holds of all fleets of filters, at each moment: all that happened up to some step is what
-- happened to a fleet.
use Rattle.std.specs.Prelude.{◌≡◌, ◌≤◌, ◌<◌, ℕ, List, map, IsTrue}
use Rattle.fc_base.specs.declared.limits.TheConstants.{MAX_SERVERS}
use Rattle.server_core.specs.declared.note.ServerNote.{ServerNote}
use Rattle.messages.specs.Ranges.{is_generation}
use Rattle.server_core.specs.Hearing.{coming_of as server_coming, packets_heard as server_heard}
use Rattle.client_core.specs.Hearing.{coming_of as client_coming, packets_heard as client_heard}
use Rattle.client_core.specs.Note.{Says}
use Rattle.mirror_core.specs.Note.{Says as MirrorSays, blank as mirror_blank}
use Rattle.net_world.specs.Setup.{Setup}
use Rattle.net_world.specs.Trace.{opening_of, client_opening}
use Rattle.net_world.specs.Trace as packets
use Rattle.net_world.specs.Frames.{FrameStep, of_server, of_client, of_mirror, frames_sent, trace_heard, IsFrameTrace}
use Rattle.net_world.specs.InRange.{FitsFrames}
use Rattle.net_world.specs.Headline.{OneTaking, HeldIsTheTaken, CountsTheCompleted, QuietUntilTheCheck, HeldReportsWereMade, KeptWhereServed, KeptWhereCut, StatePacketsAreEqual, RunsAreGivenOnce, AttemptsAreGivenOnce, StartsAreAcceptedOnce, OneTextOfEachRun, OneTextOfEachAttempt}
use Rattle.filter_traces.specs.Fleets.{FleetAt, FleetStep, FleetBegins, Ran}
use Rattle.filter_traces.specs.Begins.{BeginsEmpty, first_note}
use Rattle.filter_traces.specs.Again.{BeginsAgain, CanBeDrawn, IsOlder}

-- One trace of frames of such a world, in which just this comes to each node, and just these frames
-- are sent.
pub record IsTraceOf (w : Setup) (at : FleetAt) (t : List FrameStep) : Type 0 where
  pub legal : IsFrameTrace w t
  pub fits : FitsFrames w t
  pub servers_are : (s : ℕ) → of_server s t ≡ map server_coming (at.servers s).list
  pub client_is : of_client w t ≡ map client_coming at.client.list
  pub mirror_is : of_mirror t ≡ at.mirror.list
  pub sent_are : frames_sent w t ≡ at.sent

-- The trace of packets that is heard in it has just what each node hears, and of each job of a run
-- one state was taken at most; whoever holds one holds that; it counts exactly the writes that were
-- completed by then; and since it was taken no write was issued there before a check with it. Each
-- report that the client holds is one that a check of its server was done with.
pub record HoldsOneState (w : Setup) (at : FleetAt) (t : List FrameStep) : Type 0 where
  pub servers_are : (s : ℕ) → packets.of_server s (trace_heard w t)
      ≡ server_heard (opening_of s) (at.servers s).list
  pub client_is : packets.of_client w (trace_heard w t)
      ≡ client_heard (client_opening w) at.client.list
  pub mirror_is : packets.of_mirror (trace_heard w t) ≡ at.mirror.list
  pub once : OneTaking w (trace_heard w t)
  pub held : HeldIsTheTaken w (trace_heard w t)
  pub counted : CountsTheCompleted w (trace_heard w t)
  pub quiet : QuietUntilTheCheck w (trace_heard w t)
  pub reports : HeldReportsWereMade w (trace_heard w t)
  pub served : KeptWhereServed w (trace_heard w t)
  pub cut : KeptWhereCut w (trace_heard w t)
  pub equal : StatePacketsAreEqual w (trace_heard w t)
  pub runs : RunsAreGivenOnce w (trace_heard w t)
  pub attempts : AttemptsAreGivenOnce w (trace_heard w t)
  pub starts : StartsAreAcceptedOnce w (trace_heard w t)
  pub run_texts : OneTextOfEachRun w (trace_heard w t)
  pub attempt_texts : OneTextOfEachAttempt w (trace_heard w t)

-- Whatever happened to a fleet is one trace, and its nodes hold one state of each job.
pub record IsOneTrace (w : Setup) (at : FleetAt) : Type 0 where
  pub trace : List FrameStep
  pub is : IsTraceOf w at trace
  pub holds : HoldsOneState w at trace

abbrev pub FleetsAreTraces : Type 0
FleetsAreTraces =
    (w : Setup) (first now : FleetAt) (steps : List FleetStep) →
    FleetBegins w first → Ran w first steps now → IsOneTrace w now

-- Each fleet can begin over empty notes: one of as many servers as there may be, with a mirror and
-- without one; with a mirror its client begins anew, in any generation.
abbrev pub FleetsCanBegin : Type 0
FleetsCanBegin =
    (w : Setup) (g : ℕ) (note copies : List ℕ) → w.servers ≤ MAX_SERVERS → IsTrue (is_generation g) →
    Says note (first_note w.mirror g) → MirrorSays copies mirror_blank
    → (first : FleetAt) × BeginsEmpty w note copies first

-- Each fleet without a mirror can begin over drawn numbers, and over servers that have served
-- others before, with runs up to these numbers.
abbrev pub FleetsCanBeginAgain : Type 0
FleetsCanBeginAgain =
    (n runs attempts : ℕ) (said : ℕ → ServerNote) → n ≤ MAX_SERVERS →
    CanBeDrawn runs attempts → ((s : ℕ) → s < n → IsOlder runs (said s)) →
    (first : FleetAt) × BeginsAgain n runs attempts said first

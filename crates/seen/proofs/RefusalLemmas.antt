-- What is refused is seen to change nothing.
use Rattle.std.proofs.Common.{◌≡◌, refl, ◌∙◌, ap, subst, ℕ, Bool, true, false, List, [], ◌∷◌, Option, Some, None, Result, Ok, Err}
use Rattle.std.specs.Prelude.{if◌then◌else◌, map}
use Rattle.std.specs.Option.{option_map}
use Rattle.fc_base.specs.declared.fault.Fault.{Fault}
use Rattle.fc_base.specs.declared.numbers.Key.{Key}
use Rattle.disk_model.specs.declared.save_outcome.SaveOutcome.TheVariants as lefts
use Rattle.messages.specs.declared.frame.Frame.{Frame}
use Rattle.messages.specs.FrameBytes.{frame_spelling}
use Rattle.messages.specs.declared.node.Node.{Node}
use Rattle.messages.specs.declared.node.Node.TheVariants.{Server, Client, Mirror}
use Rattle.messages.specs.Hearing.{Meaning, Says, Waits, Spoils, Strays, heard_by, frames_by, with_entry, heard}
use Rattle.server_core.specs.Answers as servers
use Rattle.client_core.specs.Packets as clients
use Rattle.client_core.specs.Words.{kept_state}
use Rattle.net_world.specs.Setup.{Setup}
use Rattle.net_world.specs.Happenings.{Happening, Begin, Trigger, StopRun, Verify, Tick, Deliver, Issue}
use Rattle.net_world.specs.Happenings.{Land, Done, Fail, Rot, Cut, Restart, LoseNote, Renew, CutIn}
use Rattle.net_world.specs.Happenings as happenings
use Rattle.net_world.specs.Trace.{AtServer, AtClient, of_client, opening_of, client_opening}
use Rattle.net_world.specs.Frames as frames
use Rattle.net_world.specs.Frames.{FrameStep, at_server, at_client, frames_sent, frames_of_step, step_heard, to_of, trace_heard}
use Rattle.net_world.specs.Barred.{barring_fault, is_on}
use Rattle.net_world.specs.Changes.{Change, steps, trace}
use Rattle.net_world.specs.Outcomes.{Outcome, Does, Refuses, Drops, outcome_of_step, comes_to_server, comes_to_client, comes_to}
use Rattle.net_world.specs.Outcomes.{said_to_server, said_to_client, delivery, brings, unless_barred, outcome}
use Rattle.net_world.specs.World.{world, and_outcome, saved_state, told_by, told_of_happening}
use Rattle.seen.specs.Observations.{Observation}
use Rattle.seen.specs.Refusals.{saved_before, ChangesNothing}
use Rattle.seen.specs.Claims.{RefusalsChangeNothing}
use Rattle.seen.specs.Watching.{observation, observations, OfAllThatIsSeen}
use Rattle.seen.proofs.EntryLemmas.{step_in}
use Rattle.seen.proofs.PlaceLemmas.{seen_in}
use Rattle.seen.proofs.FrameLemmas.{frames_by_step, frames_now}

-- ---- a tag that is dropped is heard by nobody

-- Where a tag is dropped, nothing is sent and nothing is heard.
Silent : Setup → List Change → Outcome → Type 0
Silent w past (Does change) = Unit {0}
Silent w past (Refuses fault) = Unit {0}
Silent w past (Drops step) = (frames_of_step w (steps past) step ≡ []) × (step_heard w (steps past) step ≡ None)

silent_step : (w : Setup) (past : List Change) (r : Result FrameStep Fault) → Silent w past (outcome_of_step r)
unfolding Silent
silent_step w past (Ok step) = tt
silent_step w past (Err fault) = tt

to_server : (w : Setup) (past : List Change) (s : ℕ) (f : Frame) (m : Meaning) → said_to_server (steps past) s f ≡ m
    → Silent w past (comes_to_server (trace w past) s f m)
unfolding Silent
to_server w past s f (Says p) is = silent_step w past _
to_server w past s f Waits is = tt
to_server w past s f Spoils is =
    let r = at_server s in
    let h = heard r (frames.of_server s (steps past)) in (
      ap (λ m. frames_by (servers.packets (opening_of s)) h.entries (heard_by r lefts.NoSave m)) is,
      ap (λ m. option_map (AtServer s) (heard_by r lefts.NoSave m)) is,
    )
to_server w past s f Strays is = tt

to_client : (w : Setup) (past : List Change) (f : Frame) (m : Meaning) → said_to_client w (steps past) f ≡ m
    → Silent w past (comes_to_client w (trace w past) f m)
unfolding Silent
to_client w past f (Says p) is = silent_step w past _
to_client w past f Waits is = tt
to_client w past f Spoils is =
    let r = at_client w in
    let h = heard r (frames.of_client w (steps past)) in (
      ap (λ m. frames_by (clients.packets (client_opening w)) h.entries (heard_by r lefts.NoSave m)) is,
      ap (λ m. option_map AtClient (heard_by r lefts.NoSave m)) is,
    )
to_client w past f Strays is = tt

to_node : (w : Setup) (past : List Change) (node : Node) (f : Frame) → Silent w past (comes_to w past node f)
to_node w past (Server s) f = to_server w past s f (said_to_server (steps past) s f) refl
to_node w past Client f = to_client w past f (said_to_client w (steps past) f) refl
to_node w past Mirror f = silent_step w past _

delivered : (w : Setup) (past : List Change) (x : Option Frame) → Silent w past (delivery w past x)
unfolding Silent
delivered w past None = tt
delivered w past (Some f) = to_node w past (to_of f) f

brought : (w : Setup) (past : List Change) (e : Happening) → Silent w past (brings w past e)
unfolding Silent
brought w past (Begin text) = silent_step w past _
brought w past (Trigger run act) = silent_step w past _
brought w past (StopRun run) = silent_step w past _
brought w past (Verify run text) = silent_step w past _
brought w past Tick = silent_step w past _
brought w past (Deliver i) = delivered w past _
brought w past (Issue s j) = silent_step w past _
brought w past (Land s j k mask) = tt
brought w past (Done s j k) = silent_step w past _
brought w past (Fail s j k) = silent_step w past _
brought w past (Rot s j sector bytes) = tt
brought w past (happenings.Check s j) = silent_step w past _
brought w past (Cut node) = silent_step w past _
brought w past (Restart node) = silent_step w past _
brought w past LoseNote = tt
brought w past (Renew g) = silent_step w past _
brought w past (CutIn landed e) = silent_step w past _

unbarred : (w : Setup) (past : List Change) (x : Option Fault) (r : Outcome) → Silent w past r → Silent w past (unless_barred x r)
unfolding Silent
unbarred w past None r h = h
unbarred w past (Some fault) r h = tt

silent : (w : Setup) (past : List Change) (e : Happening) → Silent w past (outcome w past e)
silent w past e = unbarred w past (barring_fault w (trace w past) (frames_sent w (steps past)) e) (brings w past e) (brought w past e)

-- ---- so a refusal changes nothing

record Same (w : Setup) (past : List Change) (r : Outcome) : Type 0 where
  pub sends : frames_by_step w (steps past) (step_in r) ≡ []
  pub trace_is : trace w (and_outcome r past) ≡ trace w past

same : (w : Setup) (past : List Change) (e : Happening) (r : Outcome) (fault : Fault) → Silent w past r → told_by w past e r ≡ Err fault → Same w past r
unfolding Silent
same w past e (Does change) fault h told = absurd cc
same w past e (Refuses f) fault h told = record { sends = refl; trace_is = refl }
same w past e (Drops step) fault h told =
    record { sends = h.0; trace_is = ap (λ x. with_entry x (trace_heard w (steps past))) h.1 }

-- Before anything has happened the client keeps no state.
none_at_first : (w : Setup) (key : Key) (b : Bool) → w.mirror ≡ b → saved_state w [] key ≡ None
none_at_first w key true is = rw is refl
none_at_first w key false is = rw is refl

saved_is : (w : Setup) (evs : List Happening) (key : Key) → saved_state w (world w evs) key ≡ saved_before key (observations w evs)
saved_is w [] key = none_at_first w key w.mirror refl
saved_is w (e ∷ evs) key = refl

nothing_here : (w : Setup) (evs : List Happening) (e : Happening) (fault : Fault) → told_of_happening w (world w evs) e ≡ Err fault
    → ChangesNothing (observations w evs) (observation w evs e)
nothing_here w evs e fault told =
    let past = world w evs in
    let k = same w past e (outcome w past e) fault (silent w past e) told in
    record {
      sends = frames_now w evs e ∙ ap (map frame_spelling) k.sends;
      shows = λ key.
          ap (λ t. if is_on w t Client then kept_state (client_opening w) (of_client w t) key else None) k.trace_is ∙ saved_is w evs key;
    }

pub refusals_change_nothing : OfAllThatIsSeen RefusalsChangeNothing
refusals_change_nothing w events few newer older o fault split told =
    let k = seen_in w events newer o older split in
    let told_here : told_of_happening w (world w k.earlier) k.event ≡ Err fault = ap (λ (x : Observation). x.told) k.here ∙ told in
    subst (λ l. ChangesNothing l o) k.before
    (subst (ChangesNothing (observations w k.earlier)) k.here (nothing_here w k.earlier k.event fault told_here))

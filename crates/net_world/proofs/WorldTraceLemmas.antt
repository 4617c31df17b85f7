-- What happens in a world is a step of a trace of frames.
use Rattle.std.proofs.Common.{◌≡◌, refl, List, [], ◌∷◌, Option, Some, None}
use Rattle.std.specs.Prelude.{slice_get}
use Rattle.fc_base.specs.declared.fault.Fault.{Fault}
use Rattle.fc_base.specs.declared.fault.Fault.TheVariants.{BadNote}
use Rattle.disk_model.specs.declared.save_outcome.SaveOutcome.TheVariants as lefts
use Rattle.server_core.specs.declared.input.Input.TheVariants as server_inputs
use Rattle.server_core.specs.declared.input.WriteEnd.TheVariants as ends
use Rattle.server_core.specs.Check.{check}
use Rattle.client_core.specs.Inputs as client_inputs
use Rattle.net_world.specs.Setup.{Setup}
use Rattle.net_world.specs.Happenings.{Happening, Begin, Trigger, StopRun, Verify, Tick, Deliver, Issue}
use Rattle.net_world.specs.Happenings.{Land, Done, Fail, Rot, Cut, Restart, LoseNote, Renew, CutIn}
use Rattle.net_world.specs.Happenings as happenings
use Rattle.net_world.specs.Trace.{of_server, opening_of}
use Rattle.net_world.specs.Frames.{FrameStep, frames_sent, IsFrameTrace, trace_heard}
use Rattle.net_world.specs.Changes.{Change, Met, Landed, Rotted, steps, trace}
use Rattle.net_world.specs.Writes.{open_at}
use Rattle.net_world.specs.Contents.{content}
use Rattle.net_world.specs.Barred.{barring_fault}
use Rattle.net_world.specs.Outcomes.{Outcome, Does, Refuses, Drops}
use Rattle.net_world.specs.Outcomes.{brings, unless_barred, outcome}
use Rattle.net_world.specs.World.{and_outcome, world}
use Rattle.net_world.specs.WorldLaws.{EachWorldIsAFrameTrace}
use Rattle.net_world.proofs.StartedLemmas.{loss_fits}
use Rattle.net_world.proofs.WorldLemmas.{Goes, MayBe, MayCome, may_step, may_server, may_client, may_end, may_check}
use Rattle.net_world.proofs.WorldLemmas.{may_cut, may_restart, may_renew, sent_at, may_deliver, may_cut_in}

may_bring : (w : Setup) (past : List Change) (e : Happening) → IsFrameTrace w (steps past)
    → barring_fault w (trace w past) (frames_sent w (steps past)) e ≡ None → MayCome w (steps past) (brings w past e)
unfolding MayBe MayCome Goes
may_bring w past (Begin text) so h = may_step w (steps past) _ (may_client w (steps past) (trace w past) (client_inputs.Begin text) (λ left. refl))
may_bring w past (Trigger run act) so h = may_step w (steps past) _ (may_client w (steps past) (trace w past) (client_inputs.Trigger run act) (λ left. refl))
may_bring w past (StopRun run) so h = may_step w (steps past) _ (may_client w (steps past) (trace w past) (client_inputs.Stop run) (λ left. refl))
may_bring w past (Verify run text) so h = may_step w (steps past) _ (may_client w (steps past) (trace w past) (client_inputs.Verify run text) (λ left. refl))
may_bring w past Tick so h = may_step w (steps past) _ (may_client w (steps past) (trace w past) client_inputs.Tick (λ left. refl))
may_bring w past (Deliver i) so h = may_deliver w past (slice_get (frames_sent w (steps past)) i) h (sent_at (frames_sent w (steps past)) i)
may_bring w past (Issue s j) so h = may_step w (steps past) _ (may_server w (steps past) (trace w past) s (server_inputs.Issue j) refl)
may_bring w past (Land s j k mask) so h = tt
may_bring w past (Done s j k) so h = may_step w (steps past) _ (may_end w (steps past) (trace w past) s k ends.Done (open_at (trace w past) s j k))
may_bring w past (Fail s j k) so h = may_step w (steps past) _ (may_end w (steps past) (trace w past) s k ends.Failed (open_at (trace w past) s j k))
may_bring w past (Rot s j sector bytes) so h = tt
may_bring w past (happenings.Check s j) so h =
    may_step w (steps past) _ (may_check w (steps past) (trace w past) s (check (opening_of s) (of_server s (trace w past))) j (content w past s j))
may_bring w past (Cut node) so h = may_step w (steps past) _ (may_cut w (steps past) (trace w past) node h)
may_bring w past (Restart node) so h = may_step w (steps past) _ (may_restart w (steps past) node so h)
may_bring w past LoseNote so h = (refl, loss_fits w (trace w past) h)
may_bring w past (Renew g) so h = may_step w (steps past) _ (may_renew w (steps past) g lefts.Saved BadNote h)
may_bring w past (CutIn landed e) so h = may_step w (steps past) _ (may_cut_in w past landed e h)

may_pass : (w : Setup) (ps : List FrameStep) (x : Option Fault) (r : Outcome) → (x ≡ None → MayCome w ps r) → MayCome w ps (unless_barred x r)
unfolding MayCome
may_pass w ps None r m = m refl
may_pass w ps (Some fault) r m = tt

and_one : (w : Setup) (past : List Change) (r : Outcome) → IsFrameTrace w (steps past) → MayCome w (steps past) r → IsFrameTrace w (steps (and_outcome r past))
unfolding MayCome Goes
and_one w past (Does (Met step)) h m = (h, m.0, m.1)
and_one w past (Does (Landed s j k mask)) h m = h
and_one w past (Does (Rotted s j sector bytes)) h m = h
and_one w past (Refuses fault) h m = h
and_one w past (Drops step) h m = (h, m.0, m.1)

pub each_world_is_a_frame_trace : EachWorldIsAFrameTrace
each_world_is_a_frame_trace w [] = tt
each_world_is_a_frame_trace w (e ∷ events) =
    let past = world w events in
    let so = each_world_is_a_frame_trace w events in
    and_one w past (outcome w past e) so
    (may_pass w (steps past) (barring_fault w (trace_heard w (steps past)) (frames_sent w (steps past)) e) (brings w past e) (λ h. may_bring w past e so h))

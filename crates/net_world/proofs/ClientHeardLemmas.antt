-- The client's list of frames says what the client hears in the trace.
use Rattle.std.proofs.Common.{◌≡◌, refl, sym, ◌∙◌, ap, List, [], ◌∷◌}
use Rattle.std.specs.Prelude.{map}
use Rattle.messages.specs.Hearing.{Heard, Coming, Comes, Happens, entry_of, rows_of, with_entry, heard, frames_by}
use Rattle.disk_model.specs.declared.save_outcome.SaveOutcome.{SaveOutcome}
use Rattle.client_core.specs.Inputs as inputs
use Rattle.client_core.specs.History as client
use Rattle.client_core.specs.Hearing as hearing
use Rattle.client_core.specs.Hearing.{FrameEntry, coming_of, packets_heard}
use Rattle.client_core.specs.FrameAnswers as answers
use Rattle.client_core.specs.Packets as packets
use Rattle.net_world.specs.Setup.{Setup}
use Rattle.net_world.specs.Trace as traces
use Rattle.net_world.specs.Trace.{client_opening}
use Rattle.net_world.specs.Frames.{FrameStep, OfClient, of_client, at_client, frames_of_step, client_frame_entry, client_entries}
use Rattle.net_world.specs.Changes.{Change, steps, trace}
use Rattle.net_world.proofs.HearingLemmas.{nodes_hear_their_own}

-- What is heard with one more.
next : Setup → Heard client.Entry → Coming client.Entry SaveOutcome → Heard client.Entry
next w h c = record { entries = with_entry (entry_of (at_client w) h c) h.entries; rows = rows_of (at_client w) h c }

entry_same : (w : Setup) (h : Heard client.Entry) (c : Coming client.Entry SaveOutcome)
    → entry_of (at_client w) h (coming_of (client_frame_entry c)) ≡ entry_of (at_client w) h c
entry_same w h (Comes f left) = refl
entry_same w h (Happens (client.Met (inputs.Begin text) left)) = refl
entry_same w h (Happens (client.Met (inputs.Trigger run act) left)) = refl
entry_same w h (Happens (client.Met (inputs.Stop run) left)) = refl
entry_same w h (Happens (client.Met (inputs.Verify run text) left)) = refl
entry_same w h (Happens (client.Met (inputs.Deliver p) left)) = refl
entry_same w h (Happens (client.Met inputs.Tick left)) = refl
entry_same w h (Happens client.Cut) = refl
entry_same w h (Happens (client.Restart mirror)) = refl
entry_same w h (Happens (client.Renew g left)) = refl
entry_same w h (Happens client.Lose) = refl

next_same : (w : Setup) (h : Heard client.Entry) (c : Coming client.Entry SaveOutcome) → next w h (coming_of (client_frame_entry c)) ≡ next w h c
unfolding next
next_same w h (Comes f left) = refl
next_same w h (Happens (client.Met (inputs.Begin text) left)) = refl
next_same w h (Happens (client.Met (inputs.Trigger run act) left)) = refl
next_same w h (Happens (client.Met (inputs.Stop run) left)) = refl
next_same w h (Happens (client.Met (inputs.Verify run text) left)) = refl
next_same w h (Happens (client.Met (inputs.Deliver p) left)) = refl
next_same w h (Happens (client.Met inputs.Tick left)) = refl
next_same w h (Happens client.Cut) = refl
next_same w h (Happens (client.Restart mirror)) = refl
next_same w h (Happens (client.Renew g left)) = refl
next_same w h (Happens client.Lose) = refl

pub hears_same : (w : Setup) (list : List (Coming client.Entry SaveOutcome))
    → heard (at_client w) (map coming_of (map client_frame_entry list)) ≡ heard (at_client w) list
unfolding next
hears_same w [] = refl
hears_same w (c ∷ past) = ap (λ h. next w h (coming_of (client_frame_entry c))) (hears_same w past) ∙ next_same w (heard (at_client w) past) c

-- The packets that the client hears are its own in the trace.
pub heard_is : (w : Setup) (past : List Change) → packets_heard (client_opening w) (client_entries w (steps past)) ≡ traces.of_client w (trace w past)
heard_is w past =
    ap (λ (h : Heard client.Entry). h.entries) (hears_same w (of_client w (steps past))) ∙ sym (nodes_hear_their_own w (steps past)).client

-- The frames of what happens are those of its step.
sends_same : (w : Setup) (t : List FrameStep) (c : Coming client.Entry SaveOutcome)
    → answers.frames (client_opening w) (client_entries w t) (client_frame_entry c) ≡ frames_of_step w t (OfClient c)
sends_same w t c =
    let same = hears_same w (of_client w t) in
    let h = heard (at_client w) (of_client w t) in
    ap (λ (k : Heard client.Entry). frames_by (packets.packets (client_opening w)) k.entries (entry_of (at_client w) k (coming_of (client_frame_entry c)))) same
    ∙ ap (λ x. frames_by (packets.packets (client_opening w)) h.entries x) (entry_same w h c)

pub entry_again : (e : FrameEntry) → client_frame_entry (coming_of e) ≡ e
entry_again (hearing.Met (inputs.Begin text) left) = refl
entry_again (hearing.Met (inputs.Trigger run act) left) = refl
entry_again (hearing.Met (inputs.Stop run) left) = refl
entry_again (hearing.Met (inputs.Verify run text) left) = refl
entry_again (hearing.Met (inputs.Deliver f) left) = refl
entry_again (hearing.Met inputs.Tick left) = refl
entry_again hearing.Cut = refl
entry_again (hearing.Restart mirror) = refl
entry_again (hearing.Renew g left) = refl
entry_again hearing.Lose = refl

pub frames_are : (w : Setup) (past : List Change) (e : FrameEntry)
    → answers.frames (client_opening w) (client_entries w (steps past)) e ≡ frames_of_step w (steps past) (OfClient (coming_of e))
frames_are w past e =
    ap (answers.frames (client_opening w) (client_entries w (steps past))) (sym (entry_again e)) ∙ sends_same w (steps past) (coming_of e)

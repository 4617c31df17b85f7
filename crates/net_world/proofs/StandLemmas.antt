-- A server's list of frames says what the server hears in the trace.
use Rattle.std.proofs.Common.{◌≡◌, refl, ◌∙◌, ap, ℕ, List, [], ◌∷◌}
use Rattle.std.specs.Prelude.{map}
use Rattle.messages.specs.Hearing.{Heard, Coming, Comes, Happens, entry_of, rows_of, with_entry, heard, frames_by}
use Rattle.disk_model.specs.declared.save_outcome.SaveOutcome.{SaveOutcome}
use Rattle.server_core.specs.declared.input.Input.TheVariants as inputs
use Rattle.server_core.specs.History as server
use Rattle.server_core.specs.Hearing.{coming_of}
use Rattle.server_core.specs.Answers as answers
use Rattle.net_world.specs.Trace.{opening_of}
use Rattle.net_world.specs.Frames.{of_server, at_server, frame_entry}
use Rattle.net_world.specs.FrameLaws.{ServersStand}

-- What is heard with one more.
next : ℕ → Heard server.Entry → Coming server.Entry SaveOutcome → Heard server.Entry
next s h c = record { entries = with_entry (entry_of (at_server s) h c) h.entries; rows = rows_of (at_server s) h c }

entry_same : (s : ℕ) (h : Heard server.Entry) (c : Coming server.Entry SaveOutcome) → entry_of (at_server s) h (coming_of (frame_entry c)) ≡ entry_of (at_server s) h c
entry_same s h (Comes f left) = refl
entry_same s h (Happens (server.Met (inputs.Deliver p) left)) = refl
entry_same s h (Happens (server.Met (inputs.Issue j) left)) = refl
entry_same s h (Happens (server.Met (inputs.WriteDone ticket end) left)) = refl
entry_same s h (Happens (server.Met (inputs.CheckDone boot a j report) left)) = refl
entry_same s h (Happens server.Cut) = refl
entry_same s h (Happens (server.Restart left)) = refl

next_same : (s : ℕ) (h : Heard server.Entry) (c : Coming server.Entry SaveOutcome) → next s h (coming_of (frame_entry c)) ≡ next s h c
unfolding next
next_same s h (Comes f left) = refl
next_same s h (Happens (server.Met (inputs.Deliver p) left)) = refl
next_same s h (Happens (server.Met (inputs.Issue j) left)) = refl
next_same s h (Happens (server.Met (inputs.WriteDone ticket end) left)) = refl
next_same s h (Happens (server.Met (inputs.CheckDone boot a j report) left)) = refl
next_same s h (Happens server.Cut) = refl
next_same s h (Happens (server.Restart left)) = refl

hears_same : (s : ℕ) (list : List (Coming server.Entry SaveOutcome)) → heard (at_server s) (map coming_of (map frame_entry list)) ≡ heard (at_server s) list
unfolding next
hears_same s [] = refl
hears_same s (c ∷ past) = ap (λ h. next s h (coming_of (frame_entry c))) (hears_same s past) ∙ next_same s (heard (at_server s) past) c

pub servers_stand : ServersStand
servers_stand w s t =
    let h = heard (at_server s) (of_server s t) in
    let same = hears_same s (of_server s t) in
    record {
      hears = same;
      sends = λ c.
          ap (λ (k : Heard server.Entry). frames_by (answers.packets (opening_of s)) k.entries (entry_of (at_server s) k (coming_of (frame_entry c)))) same
          ∙ ap (λ x. frames_by (answers.packets (opening_of s)) h.entries x) (entry_same s h c);
    }

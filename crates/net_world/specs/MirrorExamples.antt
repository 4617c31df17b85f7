-- Worlds with a mirror that can be followed by hand, and what is told in them. All lists have the
-- newest first.
use Rattle.std.specs.Prelude.{◌≡◌, ℕ, Bool, true, false, List, [], ◌∷◌, map, Some, Result, Err}
use Rattle.std.specs.Option.{option_map}
use Rattle.fc_base.specs.declared.fault.Fault.{Fault}
use Rattle.fc_base.specs.declared.fault.Fault.TheVariants as faults
use Rattle.fc_base.specs.declared.numbers.Key.{Key}
use Rattle.messages.specs.declared.kind.PacketKind.{PacketKind}
use Rattle.messages.specs.declared.kind.PacketKind.TheVariants as kinds
use Rattle.messages.specs.declared.node.Node.TheVariants.{Client, Mirror}
use Rattle.messages.specs.declared.refusal.Act.TheVariants as acts
use Rattle.net_world.specs.declared.told.WorldAnswer.TheVariants as answers
use Rattle.net_world.specs.declared.told.Told.{Told}
use Rattle.net_world.specs.Setup.{Setup}
use Rattle.net_world.specs.Happenings.{Happening, Begin, Trigger, Tick, Deliver, Issue, Land, Done, Cut, Restart, LoseNote, Renew, CutIn}
use Rattle.net_world.specs.Frames.{frames_sent}
use Rattle.net_world.specs.Changes.{steps}
use Rattle.net_world.specs.World.{world, saved_state, told_of_happening}
use Rattle.net_world.specs.Examples.{Shown, shown_frame, asks, replies, writing_text, says, one}

-- A world with one server and a mirror.
abbrev pub with_mirror : Setup
with_mirror = record { servers = 1; mirror = true }

-- The frames that were sent in it once these things have happened, and what is told of one more.
abbrev pub mirrored_frames : List Happening → List Shown
mirrored_frames events =
    map shown_frame (frames_sent with_mirror (steps (world with_mirror events)))

-- What is told of the next happening.
abbrev pub told_next : List Happening → Happening → Result Told Fault
told_next events e = told_of_happening with_mirror (world with_mirror events) e

-- A frame of the client to the mirror, and one of the mirror to the client.
abbrev pub to_mirror : PacketKind → ℕ → Shown
to_mirror kind bytes = record { from = Client; to = Mirror; kind = Some kind; bytes = bytes }

-- A frame of the mirror to the client, as it is shown.
abbrev pub to_client : PacketKind → ℕ → Shown
to_client kind bytes = record { from = Mirror; to = Client; kind = Some kind; bytes = bytes }

-- The client is granted its generation; a job is begun, its first write is done, and its state is
-- taken.
abbrev pub after_grant : List Happening
after_grant = Deliver 1 ∷ Deliver 0 ∷ Tick ∷ []

-- A job is begun, staged and started, and its first write is done.
abbrev pub after_write : List Happening
after_write =
    Done 0 0 0 ∷ Land 0 0 0 1 ∷ Issue 0 0
    ∷ Deliver 5 ∷ Deliver 4 ∷ Deliver 3 ∷ Deliver 2 ∷ Begin writing_text ∷ after_grant

-- The run is triggered, and its state is taken.
abbrev pub after_trigger : List Happening
after_trigger = Deliver 6 ∷ Trigger 4294967297 acts.Cut ∷ after_write

-- The client keeps the state, and so does the mirror; then the client's note is lost.
abbrev pub after_copy : List Happening
after_copy = Deliver 9 ∷ Deliver 7 ∷ after_trigger

-- The client is cut, and its note is lost.
abbrev pub after_loss : List Happening
after_loss = LoseNote ∷ Cut Client ∷ after_copy

-- The client is begun anew, and asks the mirror for what it keeps.
abbrev pub after_fetch : List Happening
after_fetch = Deliver 13 ∷ Deliver 12 ∷ Deliver 11 ∷ Tick ∷ Renew 2 ∷ after_loss

-- The key under which the state is kept.
abbrev pub key_there : Key
key_there = record { run = 4294967297; server = 0; job = 0 }

-- No run is begun before the mirror has granted the generation; the state is copied, lost, and kept
-- again; the numbers of the next generation are above those that were given.
pub record FetchesWhatWasLost : Type 0 where
  pub waits : told_next [] (Begin writing_text) ≡ Err faults.NumbersSpent
  pub begins : told_next after_grant (Begin writing_text)
      ≡ says (answers.Run 4294967297) 2 1 acts.None
  pub copies : told_next after_trigger (Deliver 7) ≡ says answers.Plain 8 2 acts.None
  pub empty : told_next after_loss (Restart Client) ≡ Err faults.BadNote
  pub used : told_next after_loss (Renew 1) ≡ Err faults.UsedGeneration
  pub counts :
      option_map (λ state. state.counted)
      (saved_state with_mirror (world with_mirror after_fetch) key_there) ≡ Some (0 ∷ [])
  pub begins_anew : told_next after_fetch (Begin writing_text)
      ≡ says (answers.Run 8589934593) 14 1 acts.None
  pub frames :
      mirrored_frames after_fetch
      ≡ to_mirror kinds.Fetch 24 ∷ to_client kinds.Granted 24
      ∷ asks kinds.Jobs 62 ∷ replies kinds.JobsOk 28 ∷ asks kinds.Start 24
      ∷ replies kinds.Started 24
      ∷ asks kinds.Trigger 25 ∷ replies kinds.State 156 ∷ asks kinds.StateAck 28
      ∷ to_mirror kinds.Copy 152 ∷ to_client kinds.CopyOk 32
      ∷ to_mirror kinds.Fetch 24 ∷ to_client kinds.Granted 24 ∷ to_client kinds.Copy 152 ∷ []

-- Where there is no mirror, nothing is of one; a note isn't lost, nor a client renewed, while the
-- client is on; a generation has its numbers, and a renewal wants a note that says nothing.
pub record RefusesOfAMirror : Type 0 where
  pub no_loss : told_of_happening one (world one (Cut Client ∷ [])) LoseNote ≡ Err faults.NoMirror
  pub no_renewal : told_of_happening one (world one []) (Renew 0) ≡ Err faults.NoMirror
  pub no_cut : told_of_happening one (world one []) (Cut Mirror) ≡ Err faults.NoMirror
  pub no_restart : told_of_happening one (world one []) (CutIn true (Restart Mirror))
      ≡ Err faults.NoMirror
  pub on : told_next [] LoseNote ≡ Err faults.NodeOn
  pub still_on : told_next [] (Renew 0) ≡ Err faults.NodeOn
  pub mirror_on : told_next [] (Restart Mirror) ≡ Err faults.NodeOn
  pub mirror_off : told_next (Cut Mirror ∷ Tick ∷ []) (Deliver 0) ≡ Err faults.NodeOff
  pub bad : told_next (Cut Client ∷ []) (Renew 0) ≡ Err faults.BadGeneration
  pub used : told_next (Cut Client ∷ []) (Renew 1) ≡ Err faults.UsedGeneration
  pub written : told_next (Cut Client ∷ []) (Renew 2) ≡ Err faults.BadNote
  pub no_save : told_next (Cut Client ∷ []) (CutIn true (Renew 2)) ≡ Err faults.NoSave

-- A client that is stopped within its renewal, before or behind the save.
abbrev pub after_cut_in_renewal : Bool → List Happening
after_cut_in_renewal landed = CutIn landed (Renew 2) ∷ LoseNote ∷ Cut Client ∷ []

-- A client that is stopped within its renewal has used its generation up either way: where the save
-- was made it is restarted, else it is renewed with the next.
pub record StopsWithinARenewal : Type 0 where
  pub old_used : told_next (after_cut_in_renewal false) (Renew 2) ≡ Err faults.UsedGeneration
  pub old_empty : told_next (after_cut_in_renewal false) (Restart Client) ≡ Err faults.BadNote
  pub old_goes_on : told_next (after_cut_in_renewal false) (Renew 3)
      ≡ says answers.Plain 0 0 acts.None
  pub new_used : told_next (after_cut_in_renewal true) (Renew 2) ≡ Err faults.UsedGeneration
  pub new_written : told_next (after_cut_in_renewal true) (Renew 3) ≡ Err faults.BadNote
  pub new_goes_on : told_next (after_cut_in_renewal true) (Restart Client)
      ≡ says answers.Plain 0 0 acts.None

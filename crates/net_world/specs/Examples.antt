-- What is told, and which frames are sent, in a few worlds that can be followed by hand.
use Rattle.std.specs.Prelude.{Option, None, ◌≡◌, ℕ, true, false, List, [], ◌∷◌, ◌++◌, codes, map, length, replicate, Some, Result, Ok, Err}
use Rattle.std.specs.Option.{option_map}
use Rattle.fc_base.specs.declared.fault.Fault.{Fault}
use Rattle.fc_base.specs.declared.fault.Fault.TheVariants as faults
use Rattle.fc_base.specs.declared.numbers.Key.{Key}
use Rattle.fc_base.specs.declared.report.ReportEnd.TheVariants.{Whole}
use Rattle.engine.specs.declared.issue.Issue.TheVariants.{Write, Stopped}
use Rattle.messages.specs.declared.node.Node.{Node}
use Rattle.messages.specs.declared.node.Node.TheVariants.{Server, Client}
use Rattle.messages.specs.declared.frame.Frame.{Frame}
use Rattle.messages.specs.declared.frame.Frame.TheVariants.{Whole, Piece}
use Rattle.messages.specs.declared.kind.PacketKind.{PacketKind}
use Rattle.messages.specs.declared.kind.PacketKind.TheVariants as kinds
use Rattle.messages.specs.declared.refusal.Act.{Act}
use Rattle.messages.specs.declared.refusal.Act.TheVariants as acts
use Rattle.messages.specs.Bodies.{kind_of}
use Rattle.messages.specs.FrameBytes.{frame_spelling}
use Rattle.net_world.specs.declared.told.WorldAnswer.{WorldAnswer}
use Rattle.net_world.specs.declared.told.WorldAnswer.TheVariants as answers
use Rattle.net_world.specs.declared.told.Told.{Told}
use Rattle.net_world.specs.Setup.{Setup, without_mirror}
use Rattle.net_world.specs.Happenings.{Happening, Begin, Trigger, Verify, Tick, Deliver, Issue, Land, Done, Rot, Check, Cut, Restart, CutIn}
use Rattle.net_world.specs.Frames.{frames_sent}
use Rattle.net_world.specs.Changes.{steps}
use Rattle.net_world.specs.World.{world, saved_state, told_of_happening}
use Rattle.net_world.specs.Honest.{AreHonest, AreWhole}

-- A frame as it is shown: from whom to whom, the kind of its packet, where it isn't a piece, and
-- how many bytes it has.
pub record Shown : Type 0 where
  pub from : Node
  pub to : Node
  pub kind : Option PacketKind
  pub bytes : ℕ

-- A frame as it is shown.
abbrev pub shown_frame : Frame → Shown
shown_frame (Whole p) = record {
  from = p.from;
  to = p.to;
  kind = Some (kind_of p.body);
  bytes = length (frame_spelling (Whole p));
}
shown_frame (Piece q) = record {
  from = q.from;
  to = q.to;
  kind = None;
  bytes = length (frame_spelling (Piece q));
}

-- A world with one server.
abbrev pub one : Setup
one = without_mirror 1

-- The frames that were sent in a world with one server, once these things have happened.
abbrev pub frames_of : List Happening → List Shown
frames_of events = map shown_frame (frames_sent one (steps (world one events)))

-- What is told of one more.
abbrev pub told_next : List Happening → Happening → Result Told Fault
told_next events e = told_of_happening one (world one events) e

-- A happening is told with this answer and act, and with this many frames from the first on.
abbrev pub says : WorldAnswer → ℕ → ℕ → Act → Result Told Fault
says answer first sent act = Ok (record { answer = answer; first = first; sent = sent; act = act })

-- A frame of the client to server 0, and one of server 0 to the client.
abbrev pub asks : PacketKind → ℕ → Shown
asks kind bytes = record { from = Client; to = Server 0; kind = Some kind; bytes = bytes }

-- A frame of server 0 to the client, as it is shown.
abbrev pub replies : PacketKind → ℕ → Shown
replies kind bytes = record { from = Server 0; to = Client; kind = Some kind; bytes = bytes }

-- A job of two blocks of 512 bytes, with two writes in flight at most.
abbrev pub writing_text : List ℕ
writing_text = codes "[a]\nrw=write\nbs=512\nsize=1k\niodepth=2\n"

-- The jobs that check it: by its state, and in a full pass.
abbrev pub reading_text : List ℕ
reading_text = codes "[a]\nrw=read\nbs=512\nsize=1k\nverify_state_load=1\n"

-- A job that checks without a state, in a full pass.
abbrev pub full_reading_text : List ℕ
full_reading_text = codes "[a]\nrw=read\nbs=512\nsize=1k\n"

-- The job is staged, and its Start is on the way; it is started; write 0 is done, and write 1 is
-- open. All lists have the newest first.
abbrev pub after_stage : List Happening
after_stage = Deliver 1 ∷ Deliver 0 ∷ Begin writing_text ∷ []

-- The Start has come to the server, and the answer to it has come to the client.
abbrev pub after_start : List Happening
after_start = Deliver 3 ∷ Deliver 2 ∷ after_stage

-- Two writes were issued; of write 0 all has landed, and it is done.
abbrev pub after_writes : List Happening
after_writes = Done 0 0 0 ∷ Land 0 0 0 1 ∷ Issue 0 0 ∷ Issue 0 0 ∷ after_start

-- The states are taken, for the cut, and sent; the client keeps them; the server is cut and
-- restarted.
abbrev pub after_trigger : List Happening
after_trigger = Deliver 4 ∷ Trigger 1 acts.Cut ∷ after_writes

-- The state has come to the client.
abbrev pub after_keep : List Happening
after_keep = Deliver 5 ∷ after_trigger

-- The acknowledgment has come; then the server is cut, and restarted.
abbrev pub after_restart : List Happening
after_restart = Restart (Server 0) ∷ Cut (Server 0) ∷ Deliver 6 ∷ after_keep

-- The job is checked by its state.
abbrev pub after_verify : List Happening
after_verify = Deliver 9 ∷ Deliver 8 ∷ Deliver 7 ∷ Verify 1 reading_text ∷ after_restart

-- The frames up to the Started.
abbrev pub first_frames : List Shown
first_frames =
    asks kinds.Jobs 62 ∷ replies kinds.JobsOk 28 ∷ asks kinds.Start 24 ∷ replies kinds.Started 24 ∷
    []

-- The frames of the trigger: the request, the state, and its acknowledgment.
abbrev pub trigger_frames : List Shown
trigger_frames = asks kinds.Trigger 25 ∷ replies kinds.State 156 ∷ asks kinds.StateAck 28 ∷ []

-- A report of so many checked blocks, of which these are faulty.
abbrev pub report : ℕ → List ℕ → WorldAnswer
report checked faulty =
    answers.Checked (record {
      checked = checked;
      faults = length faulty;
      first = faulty;
      end = Whole;
    })

-- The first write of job 0, and the key under which its state is kept.
abbrev pub key : Key
key = record { run = 1; server = 0; job = 0 }

-- The answer to the first request for a write.
abbrev pub first_write : WorldAnswer
first_write = answers.Issued (Write (record { boot = 1; key = key; seq = 0; block = 0 }))

-- A job is staged, started and written; its state is taken, kept and acknowledged, for which the
-- server asks for the cut; behind the restart it is checked by that state. The write that was done
-- is there; the one that was open isn't looked at. Where its sector rots, the check finds it.
pub record ChecksByItsState : Type 0 where
  pub begins : told_next [] (Begin writing_text) ≡ says (answers.Run 1) 0 1 acts.None
  pub writes : told_next after_start (Issue 0 0) ≡ says first_write 4 0 acts.None
  pub cuts : told_next after_keep (Deliver 6) ≡ says answers.Plain 7 0 acts.Cut
  pub counts : option_map (λ state. state.counted) (saved_state one (world one after_keep) key)
      ≡ Some (0 ∷ [])
  pub verifies : told_next after_restart (Verify 1 reading_text)
      ≡ says (answers.Attempt 1) 7 1 acts.None
  pub sound : told_next after_verify (Check 0 0) ≡ says (report 1 []) 10 1 acts.None
  pub rotten :
      told_next (Rot 0 0 0 (replicate 512 7) ∷ after_verify) (Check 0 0)
      ≡ says (report 1 (0 ∷ [])) 10 1 acts.None
  pub frames :
      frames_of (Check 0 0 ∷ after_verify)
      ≡ first_frames ++ (trigger_frames ++ asks kinds.Verify 79 ∷ replies kinds.WantState 36
      ∷ asks kinds.Saved 160 ∷ replies kinds.Report 57 ∷ [])

-- The disk of that world was honest, and the writes to it whole.
pub record IsHonestlyMade : Type 0 where
  pub honest : AreHonest one 0 0 (world one after_verify)
  pub whole : AreWhole one 0 0 (world one after_verify)

-- Behind a cut and a restart the Start of the run is old, and nothing is written any more.
pub record StartsOnceAfterACut : Type 0 where
  pub frames :
      frames_of (Deliver 2 ∷ Restart (Server 0) ∷ Cut (Server 0) ∷ Deliver 2 ∷ after_stage)
      ≡ first_frames ++ replies kinds.Refused 50 ∷ []
  pub stopped :
      told_next (Deliver 2 ∷ Restart (Server 0) ∷ Cut (Server 0) ∷ Deliver 2 ∷ after_stage)
      (Issue 0 0)
      ≡ says (answers.Issued Stopped) 5 0 acts.None

-- A client that is cut within the save of a state, before or behind it, sends nothing; restarted,
-- it acknowledges the same frame, and keeps the state either way.
pub record KeepsBehindACut : Type 0 where
  pub down : told_next (CutIn false (Deliver 5) ∷ after_trigger) (Deliver 5) ≡ Err faults.NodeOff
  pub before :
      frames_of (Deliver 5 ∷ Restart Client ∷ CutIn false (Deliver 5) ∷ after_trigger)
      ≡ first_frames ++ trigger_frames
  pub behind :
      frames_of (Deliver 5 ∷ Restart Client ∷ CutIn true (Deliver 5) ∷ after_trigger)
      ≡ first_frames ++ trigger_frames
  pub kept_before :
      option_map (λ state. state.counted)
      (saved_state one (world one (Deliver 5 ∷ Restart Client ∷ CutIn false (Deliver 5)
      ∷ after_trigger)) key)
      ≡ Some (0 ∷ [])
  pub kept_behind :
      option_map (λ state. state.counted)
      (saved_state one (world one (Restart Client ∷ CutIn true (Deliver 5) ∷ after_trigger))
      key)
      ≡ Some (0 ∷ [])

-- A full pass checks both blocks, and finds the write that never landed.
abbrev pub full : List Happening
full = Deliver 4 ∷ Verify 1 full_reading_text ∷ Restart (Server 0) ∷ Cut (Server 0) ∷ after_writes

-- Without a state both blocks are checked, and block 1 is faulty.
pub record ChecksInAFullPass : Type 0 where
  pub faulty : told_next full (Check 0 0) ≡ says (report 2 (1 ∷ [])) 5 1 acts.None
  pub frames :
      frames_of (Check 0 0 ∷ full) ≡ first_frames
      ++ (asks kinds.Verify 59 ∷ replies kinds.Report 61 ∷ [])

-- What a world refuses.
pub record RefusesByNumber : Type 0 where
  pub no_frame : told_next [] (Deliver 0) ≡ Err faults.NoFrame
  pub no_write : told_next (Begin writing_text ∷ []) (Land 0 0 5 1) ≡ Err faults.NoWrite
  pub no_save : told_next (Begin writing_text ∷ []) (CutIn false (Deliver 0)) ≡ Err faults.NoSave
  pub no_cut_again : told_next [] (CutIn false (CutIn false (Deliver 0))) ≡ Err faults.NoSave
  pub stopped : told_next [] (Issue 0 0) ≡ says (answers.Issued Stopped) 0 0 acts.None
  pub off : told_next (Cut (Server 0) ∷ []) (Issue 0 0) ≡ Err faults.NodeOff
  pub on : told_next [] (Restart Client) ≡ Err faults.NodeOn
  pub no_server : told_next [] (Check 1 0) ≡ Err faults.NoServer
  pub no_file : told_next (Cut (Server 0) ∷ []) (Rot 0 16 0 []) ≡ Err faults.NoWrite
  pub not_ready : told_next [] (Check 0 0) ≡ Err faults.NotInFlight
  pub no_run : told_next [] (Trigger 1 acts.None) ≡ Err faults.NoSuchRun
  pub restarts : told_next (Cut (Server 0) ∷ []) (CutIn true (Restart (Server 0)))
      ≡ says answers.Plain 0 0 acts.None

-- A job file of 2,000 bytes, most of them a comment: its packet goes in two pieces.
abbrev pub long : List ℕ
long = writing_text ++ (codes "#" ++ (replicate 1960 120 ++ codes "\n"))

-- A piece of the client for server 0.
abbrev pub piece : ℕ → Shown
piece bytes = record { from = Client; to = Server 0; kind = None; bytes = bytes }

-- The pieces come in another order, and one of them twice; or one of each of two sendings. Either
-- way the last that lacked gives the packet, and it is answered.
pub record ComesTogether : Type 0 where
  pub begins : told_next [] (Begin long) ≡ says (answers.Run 1) 0 2 acts.None
  pub waits : told_next (Deliver 1 ∷ Begin long ∷ []) (Deliver 1) ≡ says answers.Plain 2 0 acts.None
  pub frames :
      frames_of (Deliver 0 ∷ Deliver 1 ∷ Deliver 1 ∷ Begin long ∷ [])
      ≡ piece 1073 ∷ piece 1033 ∷ replies kinds.JobsOk 28 ∷ []
  pub mixed :
      frames_of (Deliver 3 ∷ Deliver 0 ∷ Tick ∷ Begin long ∷ [])
      ≡ piece 1073 ∷ piece 1033 ∷ piece 1073 ∷ piece 1033 ∷ replies kinds.JobsOk 28 ∷ []

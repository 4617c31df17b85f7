-- A world that can be followed by hand, in which each claim is of something.
use Rattle.std.specs.Prelude.{◌≡◌, [], ◌∷◌, List, Some, None, Err}
use Rattle.fc_base.specs.declared.fault.Fault.{Fault}
use Rattle.fc_base.specs.declared.fault.Fault.TheVariants.{NodeOn}
use Rattle.fc_base.specs.declared.report.ReportParts.{ReportParts}
use Rattle.fc_base.specs.declared.report.ReportEnd.TheVariants.{Whole}
use Rattle.verify_state.specs.State.{State}
use Rattle.messages.specs.declared.body.Body.TheVariants.{NoSaved, StateAck, State as StateBody}
use Rattle.messages.specs.declared.node.Node.TheVariants.{Server, Client}
use Rattle.net_world.specs.Happenings.{Happening, Begin, Check, Cut, Deliver, Restart, Tick, Verify}
use Rattle.net_world.specs.Examples.{one, after_writes, after_trigger, after_keep, after_verify, key, writing_text, reading_text}
use Rattle.seen.specs.Sightings.{Comes, IsAmong, IsSeen, from_server, to_server}
use Rattle.seen.specs.Texts.{text_with, text_of}
use Rattle.seen.specs.Takings.{IsTaken}
use Rattle.seen.specs.Reports.{IsExact, WasTold}
use Rattle.seen.specs.Disks.{AreHonest, AreWhole}
use Rattle.seen.specs.Cuts.{IsAcknowledged, IsKeptOrNone}
use Rattle.seen.specs.Refusals.{ChangesNothing, IsOfNone}
use Rattle.seen.specs.Kept.{StaysKept, EndedWell}
use Rattle.seen.specs.Watching.{observation, observations}

-- Write 0 was done and write 1 was open when the run was triggered, and the client keeps the state:
-- it is seen, it was taken, and it counts write 0 alone.
pub record SeesAState : Type 0 where
  pub state : State
  pub key_is : state.key ≡ key
  pub seen : IsSeen (observations one after_keep) state
  pub counted : state.counted ≡ 0 ∷ []
  pub taken : IsTaken (observations one after_keep) state

-- One block was checked, and it is no fault.
abbrev pub one_sound : ReportParts
one_sound = record { checked = 1; faults = 0; first = []; end = Whole }

-- Behind the cut the job is checked by it, and the report of one block without a fault is exact; it
-- was sent, and is that of the check.
pub record SeesAReport : Type 0 where
  pub exact :
      IsExact (observations one after_verify) (observation one after_verify (Check 0 0)) 0 0
      one_sound
  pub told :
      WasTold (observations one (Check 0 0 ∷ after_verify)) 0 exact.run exact.attempt 0 one_sound

-- Up to then its disk was honest, and the writes to it whole.
pub record SeesHonestDisks : Type 0 where
  pub honest : AreHonest (observations one after_verify) 0 0
  pub whole : AreWhole (observations one after_verify) 0 0

-- The acknowledgement of the state came to the server, and this asked for its cut.
abbrev pub SeesACut : Type 0
SeesACut = IsAcknowledged (observations one after_keep) (observation one after_keep (Deliver 6))

-- The client had sent it when the state came, which its note showed then.
pub record SeesAnAck : Type 0 where
  pub sent : IsAmong (observation one after_trigger (Deliver 5)).frames (to_server 0 (StateAck 1 0))
  pub kept :
      IsKeptOrNone (observations one after_trigger) (observation one after_trigger (Deliver 5)) 0 1
      0

-- The state came in a State; so the trigger ended well, and behind a tick the note shows the state.
pub record SeesItKept : Type 0 where
  pub state : State
  pub comes :
      Comes (observations one after_trigger) (observation one after_trigger (Deliver 5))
      (from_server 0 (StateBody 1 state))
  pub stays :
      StaysKept (observation one after_keep Tick ∷ [])
      (observation one after_trigger (Deliver 5)) state
  pub ended :
      EndedWell (observation one after_trigger (Deliver 5) ∷ []) (observations one after_trigger)
      0 1
  pub shown : (observation one after_keep Tick).saved key ≡ Some state

-- A run of which no state was taken is checked by a job that loads one: the server wants it, and
-- the client says that there is none.
abbrev pub after_want : List Happening
after_want = Deliver 4 ∷ Verify 1 reading_text ∷ Restart (Server 0) ∷ Cut (Server 0) ∷ after_writes

-- The client sends a NoSaved, and its note shows no state of the job.
pub record SeesNoState : Type 0 where
  pub sent : IsAmong (observation one after_want (Deliver 5)).frames (to_server 0 (NoSaved 1 1 0))
  pub none : (observation one after_want (Deliver 5)).saved key ≡ None

-- A client that is on isn't restarted: that is refused, and changes nothing.
pub record SeesARefusal : Type 0 where
  pub refused : (observation one after_keep (Restart Client)).told ≡ Err NodeOn
  pub nothing :
      ChangesNothing (observations one after_keep) (observation one after_keep (Restart Client))

-- A frame that wasn't sent doesn't come.
pub record SeesNoFrame : Type 0 where
  pub of_none : IsOfNone (observations one after_keep) (Deliver 7)
  pub refused : (fault : Fault) × ((observation one after_keep (Deliver 7)).told ≡ Err fault)

-- A second Begin is told another number than the first.
pub record SeesTwoRuns : Type 0 where
  pub second :
      text_with 2 (Begin writing_text)
      (observation one (Begin writing_text ∷ []) (Begin writing_text)).told
      ≡ Some writing_text
  pub none_before : text_of 2 (observations one (Begin writing_text ∷ [])) ≡ None

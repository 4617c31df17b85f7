-- The bytes of a body: numbers, and behind them whatever else it holds.
use Rattle.std.specs.Prelude.{◌≡◌, ℕ, zero, suc, ◌+◌, Bool, true, ◌&&◌, ◌==◌, nat_le, if◌then◌else◌, List}
use Rattle.std.specs.Prelude.{[], ◌∷◌, ◌++◌, length, drop, slice_index, Option, Some, None, Result, Ok, Err}
use Rattle.std.specs.Option.{option_map, option_and_then}
use Rattle.std.specs.Int.{Width, w8, w32, w64}
use Rattle.fc_base.specs.declared.limits.TheConstants.{MAX_TEXT}
use Rattle.fc_base.specs.declared.fault.Fault.{Fault}
use Rattle.fc_base.specs.declared.fault.Fault.TheVariants.{FrameBadField, FrameNoMemory}
use Rattle.fc_base.specs.declared.report.ReportEnd.{ReportEnd}
use Rattle.fc_base.specs.declared.report.ReportEnd.TheVariants as ends
use Rattle.verify_state.specs.State.{State as SavedState}
use Rattle.verify_state.specs.Spelling.{spelling}
use Rattle.verify_state.specs.Reading.{faults_of, state_in}
use Rattle.messages.specs.declared.body.Body.{Body}
use Rattle.messages.specs.declared.body.Body.TheVariants.{Jobs, JobsOk, Start, Started, Trigger, State, NoState, StateAck, Stop, Stopped}
use Rattle.messages.specs.declared.body.Body.TheVariants.{Verify, WantState, Saved, NoSaved, Report, Refused, Copy, CopyOk, Fetch, Granted}
use Rattle.messages.specs.declared.kind.PacketKind.{PacketKind}
use Rattle.messages.specs.declared.kind.PacketKind.TheVariants as kinds
use Rattle.messages.specs.Choices.{act_number, act_numbered, asked_number, asked_numbered, reason_number, reason_numbered}
use Rattle.fc_base.specs.Layouts.{size, spelled, numbers, spelled_blocks, blocks_in}
use Rattle.messages.specs.declared.limits.TheConstants.{MAX_BODY, MAX_REPORT}
use Rattle.messages.specs.Ranges.{is_body}

-- The kind of a body.
abbrev pub kind_of : Body → PacketKind
kind_of (Jobs run text) = kinds.Jobs
kind_of (JobsOk run jobs) = kinds.JobsOk
kind_of (Start run) = kinds.Start
kind_of (Started run) = kinds.Started
kind_of (Trigger run act) = kinds.Trigger
kind_of (State jobs state) = kinds.State
kind_of (NoState run job jobs) = kinds.NoState
kind_of (StateAck run job) = kinds.StateAck
kind_of (Stop run) = kinds.Stop
kind_of (Stopped run) = kinds.Stopped
kind_of (Verify run attempt text) = kinds.Verify
kind_of (WantState run attempt job) = kinds.WantState
kind_of (Saved attempt state) = kinds.Saved
kind_of (NoSaved run attempt job) = kinds.NoSaved
kind_of (Report run attempt job jobs report) = kinds.Report
kind_of (Refused refusal) = kinds.Refused
kind_of (Copy state) = kinds.Copy
kind_of (CopyOk run server job) = kinds.CopyOk
kind_of (Fetch generation) = kinds.Fetch
kind_of (Granted generation) = kinds.Granted

-- How wide the numbers of each kind are.
abbrev pub layout : PacketKind → List Width
layout kinds.Jobs = w64 ∷ []
layout kinds.JobsOk = w64 ∷ w32 ∷ []
layout kinds.Start = w64 ∷ []
layout kinds.Started = w64 ∷ []
layout kinds.Trigger = w64 ∷ w8 ∷ []
layout kinds.State = w32 ∷ []
layout kinds.NoState = w64 ∷ w32 ∷ w32 ∷ []
layout kinds.StateAck = w64 ∷ w32 ∷ []
layout kinds.Stop = w64 ∷ []
layout kinds.Stopped = w64 ∷ []
layout kinds.Verify = w64 ∷ w64 ∷ []
layout kinds.WantState = w64 ∷ w64 ∷ w32 ∷ []
layout kinds.Saved = w64 ∷ []
layout kinds.NoSaved = w64 ∷ w64 ∷ w32 ∷ []
layout kinds.Report = w64 ∷ w64 ∷ w32 ∷ w32 ∷ w8 ∷ w32 ∷ w32 ∷ w32 ∷ w32 ∷ []
layout kinds.Refused = w8 ∷ w8 ∷ w32 ∷ w32 ∷ w64 ∷ w64 ∷ w64 ∷ []
layout kinds.Copy = []
layout kinds.CopyOk = w64 ∷ w32 ∷ w32 ∷ []
layout kinds.Fetch = w64 ∷ []
layout kinds.Granted = w64 ∷ []

-- How a check ended: 0 whole, 1 at a fault, 2 at a block that couldn't be read.
abbrev pub end_number : ReportEnd → ℕ
end_number ends.Whole = 0
end_number ends.AtFault = 1
end_number (ends.ReadFault b) = 2

-- The block that couldn't be read, else 0.
abbrev pub end_at : ReportEnd → ℕ
end_at ends.Whole = 0
end_at ends.AtFault = 0
end_at (ends.ReadFault b) = b

-- The end with this number, at this block.
abbrev pub end_numbered : ℕ → ℕ → Option ReportEnd
end_numbered zero at = if at == 0 then Some ends.Whole else None
end_numbered (suc zero) at = if at == 0 then Some ends.AtFault else None
end_numbered (suc (suc zero)) at = Some (ends.ReadFault at)
end_numbered (suc (suc (suc n))) at = None

-- The numbers of a body, in the order of its layout.
abbrev pub numbers_of : Body → List ℕ
numbers_of (Jobs run text) = run ∷ []
numbers_of (JobsOk run jobs) = run ∷ jobs ∷ []
numbers_of (Start run) = run ∷ []
numbers_of (Started run) = run ∷ []
numbers_of (Trigger run act) = run ∷ act_number act ∷ []
numbers_of (State jobs state) = jobs ∷ []
numbers_of (NoState run job jobs) = run ∷ job ∷ jobs ∷ []
numbers_of (StateAck run job) = run ∷ job ∷ []
numbers_of (Stop run) = run ∷ []
numbers_of (Stopped run) = run ∷ []
numbers_of (Verify run attempt text) = run ∷ attempt ∷ []
numbers_of (WantState run attempt job) = run ∷ attempt ∷ job ∷ []
numbers_of (Saved attempt state) = attempt ∷ []
numbers_of (NoSaved run attempt job) = run ∷ attempt ∷ job ∷ []
numbers_of (Report run attempt job jobs r) =
    run ∷ attempt ∷ job ∷ jobs ∷ end_number r.end ∷ end_at r.end ∷ r.checked ∷ r.faults
    ∷ length r.first ∷ []
numbers_of (Refused r) =
    asked_number r.asked ∷ reason_number r.reason ∷ r.job ∷ r.jobs ∷ r.run ∷ r.attempt ∷ r.value ∷
    []
numbers_of (Copy state) = []
numbers_of (CopyOk run server job) = run ∷ server ∷ job ∷ []
numbers_of (Fetch generation) = generation ∷ []
numbers_of (Granted generation) = generation ∷ []

-- The bytes of a verify state.
unfoldable pub spelled_state : SavedState → List ℕ
spelled_state state = spelling state

-- The verify state that the bytes say, where they have no fault.
abbrev pub without_faults : List Fault → SavedState → Option SavedState
without_faults [] state = Some state
without_faults (fault ∷ faults) state = None

unfoldable pub state_said : List ℕ → Option SavedState
state_said bytes = without_faults (faults_of bytes) (state_in bytes)

-- What stands behind the numbers of a body.
abbrev pub tail_of : Body → List ℕ
tail_of (Jobs run text) = text
tail_of (State jobs state) = spelled_state state
tail_of (Verify run attempt text) = text
tail_of (Saved attempt state) = spelled_state state
tail_of (Report run attempt job jobs r) = spelled_blocks r.first
tail_of (Copy state) = spelled_state state
tail_of _ = []

-- The bytes of a body.
abbrev pub spelled_body : Body → List ℕ
spelled_body b = spelled (layout (kind_of b)) (numbers_of b) ++ tail_of b

-- How many bytes a body has.
abbrev pub length_of : Body → ℕ
length_of b = size (layout (kind_of b)) + length (tail_of b)

-- What these numbers say in a body of this kind, with these bytes behind them.
abbrev pub body_of : PacketKind → List ℕ → List ℕ → Option Body
body_of kinds.Jobs ns tail = Some (Jobs (slice_index ns 0) tail)
body_of kinds.JobsOk ns tail = Some (JobsOk (slice_index ns 0) (slice_index ns 1))
body_of kinds.Start ns tail = Some (Start (slice_index ns 0))
body_of kinds.Started ns tail = Some (Started (slice_index ns 0))
body_of kinds.Trigger ns tail =
    option_map (Trigger (slice_index ns 0)) (act_numbered (slice_index ns 1))
body_of kinds.State ns tail = option_map (State (slice_index ns 0)) (state_said tail)
body_of kinds.NoState ns tail =
    Some (NoState (slice_index ns 0) (slice_index ns 1) (slice_index ns 2))
body_of kinds.StateAck ns tail = Some (StateAck (slice_index ns 0) (slice_index ns 1))
body_of kinds.Stop ns tail = Some (Stop (slice_index ns 0))
body_of kinds.Stopped ns tail = Some (Stopped (slice_index ns 0))
body_of kinds.Verify ns tail = Some (Verify (slice_index ns 0) (slice_index ns 1) tail)
body_of kinds.WantState ns tail =
    Some (WantState (slice_index ns 0) (slice_index ns 1) (slice_index ns 2))
body_of kinds.Saved ns tail = option_map (Saved (slice_index ns 0)) (state_said tail)
body_of kinds.NoSaved ns tail =
    Some (NoSaved (slice_index ns 0) (slice_index ns 1) (slice_index ns 2))
body_of kinds.Report ns tail =
    option_map (λ end. Report (slice_index ns 0) (slice_index ns 1) (slice_index ns 2)
    (slice_index ns 3)
    (record {
      checked = slice_index ns 6;
      faults = slice_index ns 7;
      first = blocks_in (slice_index ns 8) tail;
      end = end;
    }))
    (end_numbered (slice_index ns 4) (slice_index ns 5))
body_of kinds.Refused ns tail =
    option_and_then (λ asked. option_map (λ reason.
    Refused (record {
      asked = asked;
      reason = reason;
      job = slice_index ns 2;
      jobs = slice_index ns 3;
      run = slice_index ns 4;
      attempt = slice_index ns 5;
      value = slice_index ns 6;
    }))
    (reason_numbered (slice_index ns 1))) (asked_numbered (slice_index ns 0))
body_of kinds.Copy ns tail = option_map Copy (state_said tail)
body_of kinds.CopyOk ns tail =
    Some (CopyOk (slice_index ns 0) (slice_index ns 1) (slice_index ns 2))
body_of kinds.Fetch ns tail = Some (Fetch (slice_index ns 0))
body_of kinds.Granted ns tail = Some (Granted (slice_index ns 0))

-- A body takes all of so many bytes. A verify state, of either layout, tells itself where it ends.
abbrev pub takes_all : Body → ℕ → Bool
takes_all (State jobs state) len = nat_le 4 len
takes_all (Saved attempt state) len = nat_le 8 len
takes_all (Copy state) len = true
takes_all b len = length_of b == len

-- A body that takes all of the bytes, and keeps its ranges.
abbrev pub is_whole : List ℕ → Body → Bool
is_whole bytes b = takes_all b (length bytes) && is_body b

-- A body, if it takes all of the bytes and is within its ranges.
abbrev pub whole : List ℕ → Option Body → Option Body
whole bytes None = None
whole bytes (Some b) = if is_whole bytes b then Some b else None

-- The body of this kind that the bytes are, if they are one.
abbrev pub body_at : PacketKind → List ℕ → Option Body
body_at kind bytes =
    whole bytes (body_of kind (numbers (layout kind) bytes) (drop (size (layout kind)) bytes))

-- A reader gives what the bytes say, unless memory ran out, or a bad field where they say nothing.
abbrev pub Reads : {X : Type 0} → Result X Fault → Option X → Type 0
Reads (Ok x) said = said ≡ Some x
Reads (Err f) None = f ≡ FrameBadField
Reads (Err f) (Some x) = f ≡ FrameNoMemory

-- The most bytes that a body of each kind has.
abbrev pub length_limit : PacketKind → ℕ
length_limit kinds.Jobs = 8 + MAX_TEXT
length_limit kinds.JobsOk = 12
length_limit kinds.Start = 8
length_limit kinds.Started = 8
length_limit kinds.Trigger = 9
length_limit kinds.State = 140
length_limit kinds.NoState = 16
length_limit kinds.StateAck = 12
length_limit kinds.Stop = 8
length_limit kinds.Stopped = 8
length_limit kinds.Verify = MAX_BODY
length_limit kinds.WantState = 20
length_limit kinds.Saved = 144
length_limit kinds.NoSaved = 20
length_limit kinds.Report = MAX_REPORT
length_limit kinds.Refused = 34
length_limit kinds.Copy = 136
length_limit kinds.CopyOk = 16
length_limit kinds.Fetch = 8
length_limit kinds.Granted = 8

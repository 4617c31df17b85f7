-- The words of a server, each read from the list: whether it is on, its boot, its last run, what is
-- staged, the present run.
use Rattle.std.specs.Prelude.{ℕ, ◌+◌, ◌^◌, Bool, false, not, ◌&&◌, ◌==◌, nat_lt, List, [], ◌∷◌, Option, Some, None, Result, Ok, Err, if◌then◌else◌}
use Rattle.job_file.specs.declared.job.Job.{Job}
use Rattle.job_file.specs.declared.job.Phase.TheVariants.{Write}
use Rattle.server_core.specs.Inputs.{PacketInput}
use Rattle.server_core.specs.declared.note.ServerNote.{ServerNote}
use Rattle.disk_model.specs.declared.save_outcome.SaveOutcome.{SaveOutcome}
use Rattle.disk_model.specs.declared.save_outcome.SaveOutcome.TheVariants.{NoSave, Saved, LostNew, LostOld}
use Rattle.disk_model.specs.SaveOutcome.{has_new, is_lost, is_saved}
use Rattle.server_core.specs.History.{Opening, Entry, Met, Cut, Restart}
use Rattle.server_core.specs.Request.{Request, ToStage, ToStart, request_of}
use Rattle.server_core.specs.Texts.{jobs_for}
use Rattle.server_core.specs.Run.{Work, goes_on, is_open}

-- The server is on: a restart answered Ok, and since then came no cut and no failed save.
abbrev pub is_on : List Entry → Bool
is_on [] = false
is_on (Met e left ∷ past) = is_on past && not (is_lost left)
is_on (Cut ∷ past) = false
is_on (Restart left ∷ past) = is_saved left

-- The boot of the opening, and one more for each restart whose save left the new bytes.
abbrev pub boot : Opening → List Entry → ℕ
boot opening [] = opening.boot
boot opening (Met e left ∷ past) = boot opening past
boot opening (Cut ∷ past) = boot opening past
boot opening (Restart left ∷ past) =
    if has_new left then boot opening past + 1 else boot opening past

-- A boot of eight bytes is left above those that were used.
abbrev pub has_boot : Opening → List Entry → Bool
has_boot opening past = nat_lt (boot opening past + 1) (2 ^ 64)

-- A run, and the jobs that are staged for it.
pub record Staged : Type 0 where
  pub run : ℕ
  pub jobs : List Job

-- The jobs of a text that has no fault.
abbrev pub staged_by : ℕ → Result (List Job) ℕ → Option Staged
staged_by r (Ok js) = Some (record { run = r; jobs = js })
staged_by r (Err value) = None

-- What a request can stage: a set of writing jobs for a run above the last run, where no write is
-- open.
abbrev pub stages : Bool → ℕ → Option Work → Request → Option Staged
stages on last now (ToStage r text) =
    if on && (nat_lt last r && not (is_open now)) then staged_by r (jobs_for Write text) else None
stages on last now _ = None

-- What could be staged in this life, with one more. A failed save ends the life.
abbrev pub staged_after : SaveOutcome → Option Staged → List Staged → List Staged
staged_after NoSave None older = older
staged_after NoSave (Some s) older = s ∷ older
staged_after Saved None older = older
staged_after Saved (Some s) older = s ∷ older
staged_after LostNew new older = []
staged_after LostOld new older = []

-- The greater of two staged runs, the older where they are equal. A run up to the last is none.
abbrev pub greater : ℕ → Staged → Option Staged → Option Staged
greater last s None = if nat_lt last s.run then Some s else None
greater last s (Some older) = if nat_lt older.run s.run then Some s else Some older

-- The greatest of these runs above the last run, as it was staged first.
abbrev pub greatest : ℕ → List Staged → Option Staged
greatest last [] = None
greatest last (s ∷ older) = greater last s (greatest last older)

-- What is staged, where it is this run.
abbrev pub for_run : ℕ → Option Staged → Option Staged
for_run r None = None
for_run r (Some s) = if s.run == r then Some s else None

-- What a request is due to record: a Start of the staged run, above the last run, where no write is
-- open.
abbrev pub due_by : Bool → ℕ → Option Staged → Option Work → Request → Option Staged
due_by on last staged now (ToStart r) =
    if on && (nat_lt last r && not (is_open now)) then for_run r staged else None
due_by on last staged now _ = None

-- The last run, where what was due is recorded once the save left the new bytes.
abbrev pub last_run_after : SaveOutcome → Option Staged → ℕ → ℕ
last_run_after left None last = last
last_run_after left (Some s) last = if has_new left then s.run else last

-- The present run behind a request: one begins where what was due was saved; a failed save ends the
-- life; else the run goes on.
abbrev pub work_after : SaveOutcome → Option Staged → ℕ → ℕ → Request → Option Work → Option Work
work_after NoSave due me now_boot x w = goes_on x w
work_after Saved None me now_boot x w = goes_on x w
work_after Saved (Some s) me now_boot x w =
    Some (record { server = me; boot = now_boot; run = s.run; jobs = s.jobs; since = [] })
work_after LostNew due me now_boot x w = None
work_after LostOld due me now_boot x w = None

abbrev mutual
  -- The greatest recorded run, else that of the opening.
  pub last_run : Opening → List Entry → ℕ
  last_run opening [] = opening.last
  last_run opening (Met e left ∷ past) =
      last_run_after left
      (due_by (is_on past) (last_run opening past)
      (greatest (last_run opening past) (stagings opening past))
      (work opening past)
      (request_of opening.me e))
      (last_run opening past)
  last_run opening (Cut ∷ past) = last_run opening past
  last_run opening (Restart left ∷ past) = last_run opening past

  -- All that could be staged in this life, the newest first.
  pub stagings : Opening → List Entry → List Staged
  stagings opening [] = []
  stagings opening (Met e left ∷ past) =
      staged_after left (stages (is_on past) (last_run opening past) (work opening past)
      (request_of opening.me e))
      (stagings opening past)
  stagings opening (Cut ∷ past) = []
  stagings opening (Restart left ∷ past) = []

  -- The present run: that of the last accepted Start of this life.
  pub work : Opening → List Entry → Option Work
  work opening [] = None
  work opening (Met e left ∷ past) =
      work_after left
      (due_by (is_on past) (last_run opening past)
      (greatest (last_run opening past) (stagings opening past))
      (work opening past)
      (request_of opening.me e))
      opening.me (boot opening past) (request_of opening.me e) (work opening past)
  work opening (Cut ∷ past) = None
  work opening (Restart left ∷ past) = None

-- What the note says: the boot and the last run.
abbrev pub words_noted : Opening → List Entry → ServerNote
words_noted opening past = record { boot = boot opening past; last_run = last_run opening past }

-- The staged run: the greatest above the last run.
abbrev pub staged_run : Opening → List Entry → Option Staged
staged_run opening past = greatest (last_run opening past) (stagings opening past)

-- The run that an input is due to record.
abbrev pub due : Opening → List Entry → PacketInput → Option Staged
due opening past e =
    due_by (is_on past) (last_run opening past) (staged_run opening past) (work opening past)
    (request_of opening.me e)

-- The report of a check, as it is seen to be right.
use Rattle.std.specs.Prelude.{◌≡◌, ◌⊎◌, ℕ, false, List, ◌∷◌, ◌++◌, Option, Some, None, Ok}
use Rattle.fc_base.specs.declared.report.ReportParts.{ReportParts}
use Rattle.job_file.specs.declared.job.Job.{Job}
use Rattle.verify_state.specs.State.{State}
use Rattle.verify_state.specs.Misfit.{misfit}
use Rattle.messages.specs.declared.body.Body.TheVariants.{NoSaved, Report, Saved}
use Rattle.messages.specs.declared.packet.PacketParts.{PacketParts}
use Rattle.net_world.specs.declared.told.Told.{Told}
use Rattle.net_world.specs.declared.told.WorldAnswer.TheVariants.{Checked}
use Rattle.net_world.specs.Happenings.{Check}
use Rattle.net_world.specs.Checks.{report_of}
use Rattle.net_world.specs.Holders.{key_at}
use Rattle.net_world.specs.Honest.{WasInFlight}
use Rattle.seen.specs.Observations.{Observation}
use Rattle.seen.specs.Sightings.{Comes, IsAmong, from_server, to_server}
use Rattle.seen.specs.Texts.{asked_of, job_in}
use Rattle.seen.specs.Files.{held}
use Rattle.seen.specs.Disks.{AreHonest, AreWhole, IsFaulty}

-- The packet has come to its node, at some time.
pub record HasCome (seen : List Observation) (p : PacketParts) : Type 0 where
  pub newer : List Observation
  pub now : Observation
  pub older : List Observation
  pub split : seen ≡ newer ++ now ∷ older
  pub comes : Comes older now p

-- What job j of an attempt is checked with: a state of the run, of this server and job, that fits
-- the job and came to the server in a Saved of the attempt; or none, where the job doesn't load
-- one, or where a NoSaved of the attempt came.
abbrev pub IsMadeWith : List Observation → ℕ → ℕ → ℕ → ℕ → Job → Option State → Type 0
IsMadeWith seen s run attempt j job (Some state) =
    (state.key ≡ key_at run s j) × (misfit state state.key job.rec ≡ None)
    × HasCome seen (to_server s (Saved attempt state))
IsMadeWith seen s run attempt j job None =
    (job.load ≡ false) ⊎ ((r : ℕ) × HasCome seen (to_server s (NoSaved r attempt j)))

-- A report that server s makes of job j, behind these: it is sent, of the run and by the job file
-- that its attempt was asked for; and it is that of what the file holds, by the state that the job
-- is checked with, or in a full pass. By a state, an honest disk has faulty blocks only where a
-- write was in flight at the taking, and none where writes land whole besides; other disks may have
-- done anything.
pub record IsExact (seen : List Observation) (o : Observation) (s j : ℕ) (r : ReportParts)
    : Type 0 where
  pub run : ℕ
  pub attempt : ℕ
  pub jobs : ℕ
  pub sent : IsAmong o.frames (from_server s (Report run attempt j jobs r))
  pub text : List ℕ
  pub asked : asked_of attempt seen ≡ Some (record { run = run; text = text })
  pub job : Job
  pub has_job : job_in j text ≡ Some job
  pub state : Option State
  pub made : IsMadeWith seen s run attempt j job state
  pub report : r ≡ report_of (key_at run s j) job state (held seen s j)
  pub few_faults :
      (with_it : State) (block : ℕ) → state ≡ Some with_it → AreHonest seen s j
      → IsFaulty (key_at run s j) job with_it (held seen s j) block → WasInFlight with_it block
  pub no_faults :
      (with_it : State) (block : ℕ) → state ≡ Some with_it → AreHonest seen s j
      → AreWhole seen s j
      → IsFaulty (key_at run s j) job with_it (held seen s j) block → ⊥

-- A check at this server was told this report, of this run's attempt and this job; and it was the
-- exact one.
pub record WasTold (seen : List Observation) (s run attempt j : ℕ) (report : ReportParts)
    : Type 0 where
  pub newer : List Observation
  pub checked : Observation
  pub older : List Observation
  pub split : seen ≡ newer ++ checked ∷ older
  pub event : checked.event ≡ Check s j
  pub told : Told
  pub answered : checked.told ≡ Ok told
  pub answer : told.answer ≡ Checked report
  pub exact : IsExact older checked s j report
  pub of_run : exact.run ≡ run
  pub of_attempt : exact.attempt ≡ attempt

-- An honest disk, as it is seen: what was told done is in the file, and no sector changes by
-- itself.
use Rattle.std.specs.Prelude.{◌≡◌, ℕ, Bool, true, false, List, [], ◌∷◌, Some, is_ok}
use Rattle.fc_base.specs.declared.numbers.Key.{Key}
use Rattle.job_file.specs.declared.job.Job.{Job}
use Rattle.verify_state.specs.State.{State}
use Rattle.write_order.specs.Stamps.{bytes_of}
use Rattle.disk_model.specs.File.{block_bytes}
use Rattle.engine.specs.declared.issue.Ticket.{Ticket}
use Rattle.recheck.specs.Expected.{expected_by}
use Rattle.recheck.specs.Faults.{is_fault}
use Rattle.net_world.specs.Happenings.{Happening, Done, Land, Rot}
use Rattle.net_world.specs.Honest.{HasAllSectors}
use Rattle.seen.specs.Observations.{Observation}
use Rattle.seen.specs.Texts.{job_of}
use Rattle.seen.specs.Files.{is_file, given_write, held}

-- A write of job j at server s that is told done has all its bytes in its file, and no sector of it
-- changes by itself. Nothing is asked of other files.
abbrev pub IsHonest : List Observation → ℕ → ℕ → Happening → Bool → Type 0
IsHonest past s j (Done r i k) true =
    r ≡ s → i ≡ j →
    (ticket : Ticket) (job : Job) →
    given_write s j k past ≡ Some ticket → job_of ticket.key past ≡ Some job
    → block_bytes (held past s j) job.rec.bs ticket.block ≡ bytes_of ticket.key job.rec ticket.seq
IsHonest past s j (Rot r i sector bytes) true = is_file r i s j ≡ false
IsHonest past s j _ _ = Unit {0}

-- The disk was honest that has file j of server s.
abbrev pub AreHonest : List Observation → ℕ → ℕ → Type 0
AreHonest [] s j = Unit {0}
AreHonest (o ∷ past) s j = AreHonest past s j × IsHonest past s j o.event (is_ok o.told)

-- A write that lands in file j of server s does so with all its sectors.
abbrev pub IsWhole : List Observation → ℕ → ℕ → Happening → Bool → Type 0
IsWhole past s j (Land r i k mask) true =
    is_file r i s j ≡ true →
    (ticket : Ticket) (job : Job) →
    given_write r i k past ≡ Some ticket → job_of ticket.key past ≡ Some job
    → HasAllSectors mask job.rec
IsWhole past s j _ _ = Unit {0}

-- Writes to the file were whole.
abbrev pub AreWhole : List Observation → ℕ → ℕ → Type 0
AreWhole [] s j = Unit {0}
AreWhole (o ∷ past) s j = AreWhole past s j × IsWhole past s j o.event (is_ok o.told)

-- The block of a file that holds this is faulty, as a check by this state sees it.
abbrev pub IsFaulty : Key → Job → State → (ℕ → List ℕ) → ℕ → Type 0
IsFaulty key job state content block =
    is_fault (expected_by key job.rec (Some state)) (λ b. block_bytes content job.rec.bs b) block
    ≡ true

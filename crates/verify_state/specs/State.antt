-- What a verify state is, and when two are the same.
use Rattle.std.specs.Prelude.{◌≡◌, ℕ, ◌*◌, ◌^◌, ◌<◌, Bool, not, ◌&&◌, nat_le, List, ◌++◌, length, IsTrue}
use Rattle.std.specs.List.{AllByRecursion}
use Rattle.fc_base.specs.declared.limits.TheConstants.{MAX_WRITES}
use Rattle.fc_base.specs.declared.numbers.Key.{Key}
use Rattle.fc_base.specs.declared.record.JobParts.{JobParts}
use Rattle.fc_base.specs.declared.fault.Fault.{Fault}
use Rattle.fc_base.specs.declared.fault.Fault.TheVariants.{StateBadField, Impossible}
use Rattle.fc_base.specs.JobParts.{is_within_limits}
use Rattle.fc_base.specs.Keys.{is_key}
use Rattle.fc_base.specs.Counted.{has, counted, is_possible}
use Rattle.fc_base.specs.Marks.{floor_of, marks_of, counted_by, is_possible_by}
use Rattle.fc_base.specs.Faults.{when}

-- The key and the record of a job, the number of writes issued, the generator's place after them,
-- and the writes that had completed (ascending).
pub record State : Type 0 where
  pub key : Key
  pub job : JobParts
  pub issued : ℕ
  pub place : List ℕ
  pub counted : List ℕ

-- The state with this list of completions: it counts what the list and the number issued count.
abbrev pub state_of : Key → JobParts → ℕ → List ℕ → List ℕ → State
state_of key job issued place completions = record {
  key = key;
  job = job;
  issued = issued;
  place = place;
  counted = counted job.window issued completions;
}

-- The state with these marks: it counts all below the floor, and each number with a bit.
abbrev pub state_by : Key → JobParts → ℕ → List ℕ → List ℕ → State
state_by key job issued place marks = record {
  key = key;
  job = job;
  issued = issued;
  place = place;
  counted = counted_by job.window issued marks;
}

-- The first number of the last window of a state.
abbrev pub floor_in : State → ℕ
floor_in s = floor_of s.job.window s.issued

-- The marks of what a state counts.
abbrev pub marks_in : State → List ℕ
marks_in s = marks_of (has s.counted) (floor_in s)

-- Two states are the same where key, record, number issued, place and counted writes are equal.
pub record IsSame (a b : State) : Type 0 where
  pub key : a.key ≡ b.key
  pub job : a.job ≡ b.job
  pub issued : a.issued ≡ b.issued
  pub place : a.place ≡ b.place
  pub counted : a.counted ≡ b.counted

-- At most a million writes are issued, and a list has at most two windows of completions.
abbrev pub has_counts : ℕ → ℕ → ℕ → Bool
has_counts window issued count = nat_le issued MAX_WRITES && nat_le count (2 * window)

-- No more writes were issued than the job has, and some job can have come to this list.
unfoldable pub has_come : JobParts → ℕ → List ℕ → Bool
has_come job issued completions =
    nat_le issued job.total && is_possible job.depth job.window issued completions

-- No more writes were issued than the job has, and some job can have come to these marks.
unfoldable pub has_come_by : JobParts → ℕ → List ℕ → Bool
has_come_by job issued marks =
    nat_le issued job.total && is_possible_by job.depth job.window issued marks

-- What is wrong with a state of these fields and this list.
abbrev pub field_faults : Key → JobParts → ℕ → List ℕ → List Fault
field_faults key job issued completions =
    when (not (is_key key && has_counts job.window issued (length completions))) StateBadField
    ++ when (not (has_come job issued completions)) Impossible

-- What is wrong with a state of these fields and these marks.
abbrev pub field_faults_by : Key → JobParts → ℕ → List ℕ → List Fault
field_faults_by key job issued marks =
    when (not (is_key key && nat_le issued MAX_WRITES)) StateBadField
    ++ when (not (has_come_by job issued marks)) Impossible

-- What every state keeps.
pub record IsState (s : State) : Type 0 where
  pub key : IsTrue (is_key s.key)
  pub run : s.key.run < 2 ^ 64
  pub limits : IsTrue (is_within_limits s.job)
  pub seed : s.job.seed < 2 ^ 64
  pub pattern : s.job.pattern < 256
  pub words : length s.place ≡ 4
  pub word : AllByRecursion (λ word. word < 2 ^ 64) s.place
  pub come : IsTrue (has_come_by s.job s.issued (marks_in s))
  pub counted : s.counted ≡ counted_by s.job.window s.issued (marks_in s)

-- A job that is written elsewhere, step by step. Only the proofs go by these.
use Rattle.std.specs.Prelude.{◌≡◌, ◌⊎◌, ◌<◌, ◌+◌, ◌*◌, ◌-◌, ℕ, true, false, List, [], ◌∷◌, ◌++◌, length, map, Bool, Option, Some, None, IfSome, Result, Ok, Err}
use Rattle.std.specs.Io.KnownBytes.{Appends, Consumes, IsAtEnd, Keeps}
use Rattle.fc_base.specs.Counted.{has}
use Rattle.fc_base.specs.declared.fault.Fault.{Fault}
use Rattle.fc_base.specs.declared.fault.Fault.TheVariants as faults
use Rattle.engine.specs.History.{Event, issue, open_writes}
use Rattle.engine.specs.Running.{Origin, Running, StandsFor}
use Rattle.engine.specs.Answers.{answer_to, is_write}
use Rattle.engine.specs.Taken.{state_after}
use Rattle.targets.specs.declared.notice.Notice.{Notice}
use Rattle.targets.specs.declared.notice.Notice.TheVariants.{Done, Failed, Take}
use Rattle.targets.specs.declared.writing.RunEnd.{RunEnd}
use Rattle.targets.specs.declared.writing.RunEnd.TheVariants.{Taken, Refused}
use Rattle.targets.specs.Notices.{notice_bytes, told_bytes, NoticeFits, IsNoticeIn}
use Rattle.targets.specs.Orders.{orders, orders_behind}
use Rattle.targets.specs.Runs.{Follows, IsHistory, Runs}

-- The next notice of an input, or why there is none.
abbrev pub ReadsNotice : Option (List ℕ) → Option (List ℕ) → Result Notice Fault → Type 0
ReadsNotice old new (Ok n) = Consumes old new (notice_bytes n) × NoticeFits n
ReadsNotice old new (Err faults.BadNotice) =
    (bytes : List ℕ) × Consumes old new bytes × (length bytes ≡ 16) × IsNoticeIn bytes None
ReadsNotice old new (Err faults.EndOfInput) =
    (bytes : List ℕ) × Consumes old new bytes × (length bytes < 16) × IsAtEnd new
ReadsNotice old new (Err faults.ReadError) = Unit {0}
ReadsNotice old new (Err fault) = ⊥

-- Some writes are issued behind a history, and just their orders are written, each behind a head.
pub record OrdersSome (head : List ℕ) (origin : Origin) (before : List Event) (running : Running)
    (old new : Option (List ℕ)) : Type 0 where
  pub history : List Event
  pub writes : List ℕ
  pub bytes : List ℕ
  pub stands : StandsFor running history
  pub issued : history ≡ map issue writes ++ before
  pub written : Appends old new bytes
  pub ordered : orders_behind head origin.key origin.job history
      ≡ orders_behind head origin.key origin.job before ++ bytes

-- All writes that can be are issued behind a history, and just their orders are written.
abbrev pub OrdersAll : List ℕ → Origin → List Event → Running → Option (List ℕ) → Option (List ℕ)
    → Type 0
OrdersAll head origin before running old new =
    (some : OrdersSome head origin before running old new)
    × (is_write (answer_to origin false some.history) ≡ false)

-- What is left of a job: two for each write that is still to be issued, and one for each open
-- write.
abbrev pub steps_left : Running → ℕ
steps_left running =
    2 * (running.origin.job.total - running.kept.issued) + length running.kept.open_writes

-- A write has ended by this event, if it was open.
abbrev pub Ends : Event → ℕ → List Event → Running → Bool → Type 0
Ends event k h new true = StandsFor new (event ∷ h)
Ends event k h new false = has (open_writes h) k ≡ false

-- A notice names a write that isn't open.
abbrev pub EndsNothing : Notice → List Event → Type 0
EndsNothing (Done k) h = has (open_writes h) k ≡ false
EndsNothing (Failed k) h = has (open_writes h) k ≡ false
EndsNothing Take h = ⊥

-- The orders that follow from a notice behind a history are written, each behind a head.
pub record GoesOn (head : List ℕ) (h : List Event) (notice : Notice) (origin : Origin) (new : Running)
    (old_text text : Option (List ℕ)) : Type 0 where
  pub history : List Event
  pub bytes : List ℕ
  pub follows : Follows origin notice h history
  pub stands : StandsFor new history
  pub written : Appends old_text text bytes
  pub ordered : orders_behind head origin.key origin.job history
      ≡ orders_behind head origin.key origin.job h ++ bytes

-- What a notice leaves of a run whose history is h: it goes on, or it ends.
abbrev pub FollowsBy : List ℕ → Notice → List Event → Running → Running → Option (List ℕ)
    → Option (List ℕ) → Option RunEnd → Type 0
FollowsBy head n h old new old_text text None =
    (new.origin ≡ old.origin) × GoesOn head h n old.origin new old_text text
FollowsBy head n h old new old_text text (Some (Taken state)) =
    Keeps old_text text × (n ≡ Take) × (state ≡ state_after old.origin h)
FollowsBy head n h old new old_text text (Some (Refused faults.NotInFlight)) =
    Keeps old_text text × EndsNothing n h
FollowsBy head n h old new old_text text (Some (Refused fault)) = ⊥

-- A step reads a notice, and does what it says; or there is no notice.
abbrev pub Steps : List Event → Running → Running → Option (List ℕ) → Option (List ℕ)
    → Option (List ℕ) → Option (List ℕ) → Option RunEnd → Type 0
Steps h old new old_input input old_text text end =
    ((n : Notice) × Consumes old_input input (notice_bytes n) × NoticeFits n
    × FollowsBy [] n h old new old_text text end)
    ⊎ ((fault : Fault) × (end ≡ Some (Refused fault)) × Keeps old_text text
    × ReadsNotice old_input input (Err fault))

-- A run up to here: some notices were read and just the orders of their history are written, since
-- the input and the text were these.
pub record SoFar (running : Running)
    (first_input input first_text text : Option (List ℕ)) : Type 0 where
  pub notices : List Notice
  pub history : List Event
  pub stands : StandsFor running history
  pub is_history : IsHistory running.origin notices history
  pub told : Consumes first_input input (told_bytes notices)
  pub written : Appends first_text text (orders running.origin.key running.origin.job history)

-- A run that goes on from here ends as runs do.
abbrev pub RunsOn : Running → Option (List ℕ) → Option (List ℕ) → Option (List ℕ) → RunEnd → Type 0
RunsOn running input old new end =
    (first_input first_text : Option (List ℕ)) → SoFar running first_input input first_text old
    → IfSome first_input (λ whole. Runs running.origin whole first_text new end)

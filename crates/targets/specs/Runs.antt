-- What comes of a job whose writes are ordered and whose ends are told.
use Rattle.std.specs.Prelude.{◌≡◌, ◌⊎◌, ◌<◌, ◌≤◌, ◌^◌, ℕ, false, List, [], ◌∷◌, ◌++◌, length, take, map, ⊤, Option}
use Rattle.std.specs.Io.KnownBytes.{Appends, Keeps}
use Rattle.fc_base.specs.Counted.{has}
use Rattle.fc_base.specs.declared.fault.Fault.TheVariants as faults
use Rattle.engine.specs.History.{Event, issue, done, fail, open_writes}
use Rattle.engine.specs.Legal.{IsLegal}
use Rattle.engine.specs.Running.{Origin}
use Rattle.engine.specs.Answers.{answer_to, is_write}
use Rattle.engine.specs.Taken.{state_after}
use Rattle.targets.specs.declared.notice.Notice.{Notice}
use Rattle.targets.specs.declared.notice.Notice.TheVariants.{Done, Failed, Take}
use Rattle.targets.specs.declared.writing.RunEnd.{RunEnd}
use Rattle.targets.specs.declared.writing.RunEnd.TheVariants.{Taken, Refused}
use Rattle.targets.specs.Notices.{notice_bytes, told_bytes}
use Rattle.targets.specs.Orders.{orders}

-- Behind these events writes were issued until none can be, and all that is legal.
pub record Issues (origin : Origin) (before h : List Event) : Type 0 where
  pub writes : List ℕ
  pub events : h ≡ map issue writes ++ before
  pub legal : IsLegal origin.job h
  pub all : is_write (answer_to origin false h) ≡ false

-- A notice has come behind a history, and then all writes were issued that can be.
abbrev pub Follows : Origin → Notice → List Event → List Event → Type 0
Follows origin (Done k) before h = Issues origin (done k ∷ before) h
Follows origin (Failed k) before h = Issues origin (fail k ∷ before) h
Follows origin Take before h = ⊥

-- The history of a job by what was told of its writes, the last notice first: at the start, and
-- behind each notice, all writes are issued that can be.
abbrev pub IsHistory : Origin → List Notice → List Event → Type 0
IsHistory origin [] h = Issues origin [] h
IsHistory origin (n ∷ ns) h =
    (before : List Event) × IsHistory origin ns before × Follows origin n before h

-- Some notices were read, and just the orders of their history are written. `P` holds of what is
-- left of the input and of the history.
pub record HasRun (origin : Origin) (input : List ℕ) (old new : Option (List ℕ))
    (P : List ℕ → List Event → Type 0) : Type 0 where
  pub notices : List Notice
  pub history : List Event
  pub rest : List ℕ
  pub is_history : IsHistory origin notices history
  pub told : input ≡ told_bytes notices ++ rest
  pub written : Appends old new (orders origin.key origin.job history)
  pub ended : P rest history

-- A take is told next.
pub record TakesNext (bytes : List ℕ) : Type 0 where
  pub rest : List ℕ
  pub take : bytes ≡ notice_bytes Take ++ rest

-- A notice is told next of a write that isn't open, whose number has eight bytes.
pub record EndsNone (bytes : List ℕ) (h : List Event) : Type 0 where
  pub write : ℕ
  pub rest : List ℕ
  pub told : (bytes ≡ notice_bytes (Done write) ++ rest)
      ⊎ (bytes ≡ notice_bytes (Failed write) ++ rest)
  pub fits : write < 2 ^ 64
  pub none : has (open_writes h) write ≡ false

-- The next 16 bytes are no notice.
pub record IsNoNotice (bytes : List ℕ) : Type 0 where
  pub long : 16 ≤ length bytes
  pub none : (n : Notice) → take 16 bytes ≡ notice_bytes n → ⊥

-- How a run ends: at a take with the state of the history; or where a notice names no open write,
-- the next bytes are no notice, the input ends before a take or can't be read, or memory runs out.
abbrev pub Runs : Origin → List ℕ → Option (List ℕ) → Option (List ℕ) → RunEnd → Type 0
Runs origin input old new (Taken state) =
    HasRun origin input old new (λ rest h. TakesNext rest × (state ≡ state_after origin h))
Runs origin input old new (Refused faults.NotInFlight) = HasRun origin input old new EndsNone
Runs origin input old new (Refused faults.BadNotice) =
    HasRun origin input old new (λ rest h. IsNoNotice rest)
Runs origin input old new (Refused faults.EndOfInput) =
    HasRun origin input old new (λ rest h. length rest < 16)
Runs origin input old new (Refused faults.ReadError) = HasRun origin input old new (λ rest h. ⊤)
Runs origin input old new (Refused faults.NoMemory) = Keeps old new
Runs origin input old new (Refused fault) = ⊥

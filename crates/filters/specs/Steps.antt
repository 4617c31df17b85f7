-- The steps of a filter's run. Only the proofs go by these.
use Rattle.std.specs.Prelude.{◌≡◌, ◌≢◌, ◌⊎◌, ◌<◌, ◌≤◌, ◌++◌, ℕ, ⊤, List, [], length, IsTrue, Vec, Option, Some, None, IfSome, Result, Ok, Err}
use Rattle.std.specs.declared.alloc.Global.{Global}
use Rattle.std.specs.Io.KnownBytes.{Consumes, IsAtEnd}
use Rattle.fc_base.specs.declared.fault.Fault.{Fault}
use Rattle.fc_base.specs.declared.fault.Fault.TheVariants as faults
use Rattle.filters.specs.declared.kinds.InRecordKind.TheVariants.{Note}
use Rattle.filters.specs.declared.record.Head.{Head}
use Rattle.filters.specs.declared.record.Record.{Record}
use Rattle.filters.specs.declared.record.TheConstants.{MAX_BODY}
use Rattle.filters.specs.Kinds.{told_number}
use Rattle.filters.specs.Records.{head_bytes, record_bytes}
use Rattle.filters.specs.Written.{Written, Puts}
use Rattle.filters.specs.Lives.{RecordParts, Filter, HasNoRecord, HasNoNote, Lives, Closes, read_bytes}

-- What stands before the next body, if anything is left; or why it isn't there.
abbrev pub ReadsHead : Option (List ℕ) → Option (List ℕ) → Result (Option Head) Fault → Type 0
ReadsHead old new (Ok (Some head)) = Consumes old new (head_bytes head.kind head.length)
ReadsHead old new (Ok None) = IsAtEnd old
ReadsHead old new (Err fault) = IfSome old (λ input. HasNoRecord input fault)

-- A body of so many bytes, or why it isn't there.
abbrev pub ReadsBody : ℕ → Option (List ℕ) → Option (List ℕ) → Result (Vec ℕ Global) Fault → Type 0
ReadsBody told old new (Ok body) = Consumes old new body.items × (length body.items ≡ told)
ReadsBody told old new (Err faults.EndOfInput) =
    (told ≤ MAX_BODY) × IfSome old (λ behind. length behind < told)
ReadsBody told old new (Err faults.BadNotice) = MAX_BODY < told
ReadsBody told old new (Err faults.NoMemory) = told ≤ MAX_BODY
ReadsBody told old new (Err faults.ReadError) = ⊤
ReadsBody told old new (Err fault) = ⊥

-- The next record, if anything is left; or why it isn't there.
abbrev pub ReadsRecord : Option (List ℕ) → Option (List ℕ) → Result (Option Record) Fault → Type 0
ReadsRecord old new (Ok (Some r)) = Consumes old new (record_bytes r.kind r.body.items)
ReadsRecord old new (Ok None) = IsAtEnd old
ReadsRecord old new (Err fault) = IfSome old (λ input. HasNoRecord input fault)

-- The note that a record is; or it is another one.
abbrev pub IsNoteOf : Record → Result (Vec ℕ Global) Fault → Type 0
IsNoteOf r (Ok note) = (r.kind ≡ told_number Note) × (note ≡ r.body)
IsNoteOf r (Err fault) = (r.kind ≢ told_number Note) × (fault ≡ faults.BadNotice)

-- The note, or why it isn't there.
abbrev pub ReadsNote : Option (List ℕ) → Option (List ℕ) → Result (Vec ℕ Global) Fault → Type 0
ReadsNote old new (Ok note) = Consumes old new (record_bytes (told_number Note) note.items)
ReadsNote old new (Err fault) = IfSome old (λ input. HasNoNote input fault)

-- What was read as a record.
abbrev pub parts_of : Record → RecordParts
parts_of r = record { kind = r.kind; body = r.body.items }

-- Something was answered, as what comes to a node `Takes` it: the node was in any of these states,
-- and is in one of those.
pub record AnswersBy {O S : Type 0} (Takes : O → S → S → List ℕ → Type 0)
    (Before After : O → S → Type 0) (old new : Written) : Type 0 where
  pub answer : List ℕ
  pub written : Puts old new answer
  pub takes : (opening : O) (before : S) → Before opening before →
      (after : S) × After opening after × Takes opening before after answer

-- A record was answered.
abbrev pub AnswersRecord : {O S : Type 0} → (O → S → RecordParts → S → List ℕ → Type 0)
    → (O → S → Type 0) → (O → S → Type 0) → RecordParts → Written → Written → Type 0
AnswersRecord Takes Before After r old new =
    AnswersBy (λ opening before after answer.
    Takes opening before r after answer) Before After old new

-- A run ends: as its input has it, or since a write has failed; then nothing more is written.
abbrev pub Ends : Written → ℕ → List ℕ → List ℕ → ℕ → Type 0
Ends now count rest last status =
    Closes count rest last status ⊎ (IsTrue now.failed × (last ≡ []))

-- A step reads a record and answers it; or it ends the run with this status.
abbrev pub StepsBy : {O S : Type 0} → (O → S → RecordParts → S → List ℕ → Type 0)
    → (O → S → Type 0) → (O → S → Type 0) → Option (List ℕ) → Option (List ℕ) → Written → Written
    → Option ℕ → Type 0
StepsBy Takes Before After old_input input old new None =
    (r : RecordParts) × Consumes old_input input (record_bytes r.kind r.body)
    × AnswersRecord Takes Before After r old new
StepsBy Takes Before After old_input input old new (Some status) =
    (new.writer ≡ old.writer)
    × IfSome old_input (λ rest. (last : List ℕ) × Puts old new last
    × ((count : ℕ) → Ends new count rest last status))

-- A run over a front of the input: over all of it, and with this status; or a write has failed.
pub record Stops (Over : List ℕ → (List ℕ → Type 0) → ℕ → Type 0) (input : List ℕ)
    (old new : Written) (status : ℕ) : Type 0 where
  pub read : List ℕ
  pub rest : List ℕ
  pub end : ℕ
  pub input_is : input ≡ read ++ rest
  pub ran : Over read (Puts old new) end
  pub why : ((rest ≡ []) × (end ≡ status)) ⊎ IsTrue new.failed

-- A run stops over a front of its input, where that is known, and keeps its writer.
abbrev pub StopsBy : (List ℕ → (List ℕ → Type 0) → ℕ → Type 0) → Option (List ℕ) → Written → Written
    → ℕ → Type 0
StopsBy Over input old new status =
    (new.writer ≡ old.writer) × IfSome input (λ i. Stops Over i old new status)

-- A run up to here, of so many records: they were read and answered, since the input and the text
-- were these.
pub record SoFar {O S : Type 0} (Takes : O → S → RecordParts → S → List ℕ → Type 0)
    (Begins Now : O → S → Type 0) (first_input input : Option (List ℕ)) (old new : Written)
    (count : ℕ) : Type 0 where
  pub records : List RecordParts
  pub answers : List ℕ
  pub read : Consumes first_input input (read_bytes records)
  pub written : Puts old new answers
  pub lives : (opening : O) (first : S) → Begins opening first →
      (now : S) × Now opening now × Lives (Takes opening) first records now answers
  pub counted : length records ≡ count

-- A node is opened over a note: this says something, to which just that is answered, and the node is
-- where it begins.
pub record IsOpened {O S N : Type 0} (f : Filter O S N) (Now : O → S → Type 0)
    (note answered : List ℕ) : Type 0 where
  pub said : N
  pub says : f.Says note said
  pub answered_is : answered ≡ f.opening said
  pub begins : (opening : O) (first : S) → f.Begins note said opening first → Now opening first

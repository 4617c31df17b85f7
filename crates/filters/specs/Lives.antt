-- The run of a filter: the records that it reads, what is answered to each, and how it ends.
use Rattle.std.specs.Prelude.{◌≡◌, ◌≢◌, ◌⊎◌, ◌<◌, ◌≤◌, ◌-◌, ◌^◌, ℕ, List, [], ◌∷◌, ◌++◌, length, ⊤, Option, Err}
use Rattle.fc_base.specs.declared.fault.Fault.{Fault}
use Rattle.fc_base.specs.declared.fault.Fault.TheVariants as faults
use Rattle.filters.specs.declared.kinds.InRecordKind.TheVariants.{Note}
use Rattle.filters.specs.declared.record.TheConstants.{HEAD, MAX_BODY}
use Rattle.filters.specs.Kinds.{told_number}
use Rattle.filters.specs.Records.{head_bytes, record_bytes, end_bytes}
use Rattle.filters.specs.Written.{AppendsFront}

-- A record that is read: the number of its kind, which may be none's, and its body.
pub record RecordParts : Type 0 where
  pub kind : ℕ
  pub body : List ℕ

-- The bytes of records, one behind the other. In a list of them the last one stands first.
abbrev pub read_bytes : List RecordParts → List ℕ
read_bytes [] = []
read_bytes (r ∷ rs) = read_bytes rs ++ record_bytes r.kind r.body

-- What stands before a body is there, and `P` holds of how many bytes it says that the body has,
-- and of what stands behind it.
pub record HasHead (bytes : List ℕ) (P : ℕ → List ℕ → Type 0) : Type 0 where
  pub kind : ℕ
  pub told : ℕ
  pub behind : List ℕ
  pub head : bytes ≡ head_bytes kind told ++ behind
  pub holds : P told behind

-- The bytes end within a record.
abbrev pub EndsWithin : List ℕ → Type 0
EndsWithin bytes =
    ((0 < length bytes) × (length bytes < HEAD))
    ⊎ HasHead bytes (λ told behind. (told ≤ MAX_BODY) × (length behind < told))

-- Why no record is read: the input ends within it; its body is said to be longer than any that is
-- read; memory is wanting for its body; or a read has failed.
abbrev pub HasNoRecord : List ℕ → Fault → Type 0
HasNoRecord bytes faults.EndOfInput = EndsWithin bytes
HasNoRecord bytes faults.BadNotice = HasHead bytes (λ told behind. MAX_BODY < told)
HasNoRecord bytes faults.NoMemory = HasHead bytes (λ told behind. told ≤ MAX_BODY)
HasNoRecord bytes faults.ReadError = ⊤
HasNoRecord bytes fault = ⊥

-- Why a filter that has read so many records reads no more: the next one can't be read; or it has
-- read all that it may.
abbrev pub GoesNoFurther : ℕ → List ℕ → Fault → Type 0
GoesNoFurther count rest faults.TurnsSpent = count ≡ 2 ^ 64 - 1
GoesNoFurther count rest fault = HasNoRecord rest fault

-- What is written last, and the exit status: nothing and 0 where the input has ended; else an end
-- with the fault, and 2.
abbrev pub Closes : ℕ → List ℕ → List ℕ → ℕ → Type 0
Closes count rest last status =
    ((rest ≡ []) × (last ≡ []) × (status ≡ 0))
    ⊎ ((fault : Fault) × GoesNoFurther count rest fault × (last ≡ end_bytes (Err fault))
    × (status ≡ 2))

-- One thing more came behind this, and was answered.
pub record OneMore {S R : Type 0} (Takes : S → R → S → List ℕ → Type 0)
    (Lived : S → List ℕ → Type 0) (r : R) (now : S) (answers : List ℕ) : Type 0 where
  pub before : S
  pub earlier : List ℕ
  pub answer : List ℕ
  pub lived : Lived before earlier
  pub takes : Takes before r now answer
  pub all : answers ≡ earlier ++ answer

-- These came to a node, the last one stands first, and each was answered by what the node makes of
-- it behind those before. `Takes before one after answer` says what it makes of one. These are all
-- answers, in their order, and the node is left so.
abbrev pub Lives : {S R : Type 0} → (S → R → S → List ℕ → Type 0) → S → List R → S → List ℕ
    → Type 0
Lives Takes first [] now answers = (now ≡ first) × (answers ≡ [])
Lives Takes first (r ∷ rs) now answers =
    OneMore Takes (λ before earlier. Lives Takes first rs before earlier) r now answers

-- Some records were read, and what is written is `opening`, the answers to them, and what is
-- written last; for each opening of the node and each state in which it begins. `Wrote` says of
-- some bytes that they were written.
pub record HasRun {O S : Type 0} (Takes : O → S → RecordParts → S → List ℕ → Type 0)
    (Begins : O → S → Type 0) (opening input : List ℕ) (Wrote : List ℕ → Type 0)
    (status : ℕ) : Type 0 where
  pub records : List RecordParts
  pub rest : List ℕ
  pub answers : List ℕ
  pub last : List ℕ
  pub read : input ≡ read_bytes records ++ rest
  pub written : Wrote (opening ++ (answers ++ last))
  pub lives : (o : O) (first : S) → Begins o first →
      (now : S) × Lives (Takes o) first records now answers
  pub closes : Closes (length records) rest last status

-- Another record than a note comes first.
pub record BeginsWithOther (input : List ℕ) : Type 0 where
  pub kind : ℕ
  pub body : List ℕ
  pub behind : List ℕ
  pub first : input ≡ record_bytes kind body ++ behind
  pub other : kind ≢ told_number Note

-- Why an input has no note: nothing comes; the first record can't be read; or it is another one.
abbrev pub HasNoNote : List ℕ → Fault → Type 0
HasNoNote input fault =
    ((input ≡ []) × (fault ≡ faults.EndOfInput))
    ⊎ (HasNoRecord input fault ⊎ (BeginsWithOther input × (fault ≡ faults.BadNotice)))

-- A note comes first, and `P` holds of its bytes and of what stands behind it.
pub record BeginsWithNote (input : List ℕ) (P : List ℕ → List ℕ → Type 0) : Type 0 where
  pub note : List ℕ
  pub behind : List ℕ
  pub first : input ≡ record_bytes (told_number Note) note ++ behind
  pub holds : P note behind

-- A filter that doesn't begin writes just the fault, for this reason, and its status is 2.
pub record DoesNotBegin (Why : Fault → Type 0) (Wrote : List ℕ → Type 0) (status : ℕ) : Type 0 where
  pub fault : Fault
  pub why : Why fault
  pub written : Wrote (end_bytes (Err fault))
  pub refused : status ≡ 2

-- What has to be known of a node as a filter: O is what it is opened with, S where it is at some
-- moment, N what its note says.
pub record Filter (O S N : Type 0) : Type 1 where
  pub Says : List ℕ → N → Type 0  -- a note says this
  pub Begins : List ℕ → N → O → S → Type 0  -- over a note that says this the node begins so
  pub opening : N → List ℕ  -- what is answered to a note that says this
  pub Refuses : List ℕ → Fault → Type 0  -- why the node isn't opened over a note
  pub Takes : O → S → RecordParts → S → List ℕ → Type 0  -- what it makes of a record, and answers

-- What comes of a note: it says something, that is answered, and then the filter runs; or the node
-- isn't opened.
abbrev pub RunsOver : {O S N : Type 0} → Filter O S N → List ℕ → List ℕ → (List ℕ → Type 0) → ℕ
    → Type 0
RunsOver {O} {S} {N} f note behind Wrote status =
    ((said : N) × f.Says note said
    × HasRun f.Takes (f.Begins note said) (f.opening said) behind Wrote status)
    ⊎ DoesNotBegin (f.Refuses note) Wrote status

-- What comes of a filter: a note comes first; or it doesn't begin.
abbrev pub Runs : {O S N : Type 0} → Filter O S N → List ℕ → (List ℕ → Type 0) → ℕ → Type 0
Runs f input Wrote status =
    BeginsWithNote input (λ note behind. RunsOver f note behind Wrote status)
    ⊎ DoesNotBegin (HasNoNote input) Wrote status

-- What is left of a run of which a write has failed: what was written is a front of what the filter
-- writes where its input ends somewhere, with this input or before that.
pub record Breaks {O S N : Type 0} (f : Filter O S N) (input : List ℕ) (old new : Option (List ℕ))
    : Type 0 where
  pub read : List ℕ
  pub rest : List ℕ
  pub status : ℕ
  pub input_is : input ≡ read ++ rest
  pub runs : Runs f read (AppendsFront old new) status

-- The durable note of a mirror: what it says, and its bytes.
use Rattle.std.specs.Prelude.{◌≡◌, ◌⊎◌, ℕ, ◌≤◌, List, [], ◌++◌, length, take, drop, map, codes, Option, Some, None, IsTrue}
use Rattle.std.specs.List.{AllByRecursion}
use Rattle.std.specs.Int.{w32, w64}
use Rattle.fc_base.specs.Layouts.{bytes_of, number_in}
use Rattle.fc_base.specs.declared.limits.TheConstants.{MAX_GENERATION}
use Rattle.verify_state.specs.declared.table.TheConstants.{KEPT_LIMIT}
use Rattle.verify_state.specs.State.{IsState}
use Rattle.verify_state.specs.Spelling.{spelling as state_bytes}
use Rattle.verify_state.specs.TableBytes.{counted_states, SayStates}
use Rattle.verify_state.specs.StateTable.{has_distinct_keys}
use Rattle.verify_state.specs.TableReading.{HoldStates}
use Rattle.mirror_core.specs.declared.note.MirrorNote.{MirrorNote}

-- What a blank note says.
abbrev pub blank : MirrorNote
blank = record { generation = 0; kept = [] }

-- A note with these bytes of states: the magic, the generation, the number of states, and the
-- states in their order.
unfoldable pub note_of : ℕ → List (List ℕ) → List ℕ
note_of generation states =
    codes "FCM1" ++ (bytes_of w64 generation ++ counted_states states)

-- How a note is written: with each state in its one spelling.
abbrev pub spelling : MirrorNote → List ℕ
spelling n = note_of n.generation (map state_bytes n.kept)

-- What every note keeps: a generation that fits four bytes, and at most 1,024 states, all of
-- different keys.
pub record IsNoted (n : MirrorNote) : Type 0 where
  pub generation : n.generation ≤ MAX_GENERATION
  pub count : length n.kept ≤ KEPT_LIMIT
  pub states : AllByRecursion IsState n.kept
  pub keys : IsTrue (has_distinct_keys n.kept)

-- The bytes are a note, and their states are these.
pub record Spells (bytes : List ℕ) (n : MirrorNote) : Type 0 where
  pub parts : List (List ℕ)
  pub spelled : bytes ≡ note_of n.generation parts
  pub states : SayStates parts n.kept

-- The bytes say this note. No bytes at all are a blank one.
pub record Says (bytes : List ℕ) (n : MirrorNote) : Type 0 where
  pub note : IsNoted n
  pub spelled : Spells bytes n ⊎ ((bytes ≡ []) × (n ≡ blank))

-- A reader gives what the bytes say, and nothing where they say nothing.
abbrev pub Reads : List ℕ → Option MirrorNote → Type 0
Reads bytes (Some n) = Says bytes n
Reads bytes None = (n : MirrorNote) → Says bytes n → ⊥

-- The bytes begin as a note does that has 1 to 1,024 states, and hold as many sound ones as they
-- tell of.
pub record HasStates (bytes : List ℕ) : Type 0 where
  pub magic : take 4 bytes ≡ codes "FCM1"
  pub few : number_in w32 (drop 12 bytes) ≤ KEPT_LIMIT
  pub all : HoldStates (number_in w32 (drop 12 bytes)) (drop 16 bytes)

-- Bytes say one thing at most.
abbrev pub SaysOneThing : Type 0
SaysOneThing = (bytes : List ℕ) (n m : MirrorNote) → Says bytes n → Says bytes m → n ≡ m

-- What is written says what it was written of.
abbrev pub SaysWhatIsWritten : Type 0
SaysWhatIsWritten = (n : MirrorNote) → IsNoted n → Says (spelling n) n

-- The durable note of a client: what it says, and its bytes.
use Rattle.std.specs.Prelude.{◌≡◌, ◌⊎◌, ℕ, Bool, ◌&&◌, ◌==◌, ◌*◌, ◌^◌, ◌<◌, ◌≤◌, List, [], ◌++◌, length, take, drop, map, codes, Option, Some, None, IsTrue}
use Rattle.std.specs.List.{AllByRecursion}
use Rattle.std.specs.Int.{w32, w64}
use Rattle.fc_base.specs.declared.limits.TheConstants.{MAX_GENERATION}
use Rattle.fc_base.specs.Layouts.{bytes_of, number_in}
use Rattle.verify_state.specs.declared.table.TheConstants.{KEPT_LIMIT}
use Rattle.verify_state.specs.State.{IsState}
use Rattle.verify_state.specs.Spelling.{spelling as state_bytes}
use Rattle.verify_state.specs.TableBytes.{counted_states, SayStates}
use Rattle.verify_state.specs.StateTable.{has_distinct_keys}
use Rattle.verify_state.specs.TableReading.{HoldStates}
use Rattle.client_core.specs.declared.note.ClientNote.{ClientNote}

-- What a blank note says.
abbrev pub blank : ClientNote
blank = record { generation = 0; runs = 0; attempts = 0; kept = [] }

-- What a note says that begins anew: the numbers of each generation are above those of the ones
-- before.
abbrev pub new_note : ℕ → ClientNote
new_note g = record { generation = g; runs = g * 2 ^ 32; attempts = g * 2 ^ 32; kept = [] }

-- A note says what a blank one does.
abbrev pub is_blank : ClientNote → Bool
is_blank n =
    (n.generation == 0) && ((n.runs == 0) && ((n.attempts == 0) && (length n.kept == 0)))

-- What stands behind a note's generation, with these bytes of states: the runs, the attempts, the
-- number of states, and the states in their order.
unfoldable pub numbers_of : ℕ → ℕ → List (List ℕ) → List ℕ
numbers_of runs attempts states =
    bytes_of w64 runs ++ (bytes_of w64 attempts ++ counted_states states)

-- A note: the magic, the generation, and the rest.
unfoldable pub note_of : ℕ → ℕ → ℕ → List (List ℕ) → List ℕ
note_of generation runs attempts states =
    codes "FCC2" ++ (bytes_of w64 generation ++ numbers_of runs attempts states)

-- A note from before there were generations.
unfoldable pub old_note_of : ℕ → ℕ → List (List ℕ) → List ℕ
old_note_of runs attempts states = codes "FCC1" ++ numbers_of runs attempts states

-- How a note is written: with each state in its one spelling.
abbrev pub spelling : ClientNote → List ℕ
spelling n = note_of n.generation n.runs n.attempts (map state_bytes n.kept)

-- What every note keeps: a generation of four bytes, numbers of eight, and at most 1,024 states,
-- all of different keys.
pub record IsNoted (n : ClientNote) : Type 0 where
  pub generation : n.generation ≤ MAX_GENERATION
  pub runs : n.runs < 2 ^ 64
  pub attempts : n.attempts < 2 ^ 64
  pub count : length n.kept ≤ KEPT_LIMIT
  pub states : AllByRecursion IsState n.kept
  pub keys : IsTrue (has_distinct_keys n.kept)

-- The bytes are a note that says this, with these bytes of states. An old one says generation 0.
abbrev pub IsNote : List ℕ → ClientNote → List (List ℕ) → Type 0
IsNote bytes n parts =
    (bytes ≡ note_of n.generation n.runs n.attempts parts)
    ⊎ ((n.generation ≡ 0) × (bytes ≡ old_note_of n.runs n.attempts parts))

-- The bytes are a note, and their states are these.
pub record Spells (bytes : List ℕ) (n : ClientNote) : Type 0 where
  pub parts : List (List ℕ)
  pub spelled : IsNote bytes n parts
  pub states : SayStates parts n.kept

-- The bytes say this note. No bytes at all are a blank one.
pub record Says (bytes : List ℕ) (n : ClientNote) : Type 0 where
  pub note : IsNoted n
  pub spelled : Spells bytes n ⊎ ((bytes ≡ []) × (n ≡ blank))

-- The bytes are what stands behind a note's generation, where the note says this.
pub record Numbers (bytes : List ℕ) (n : ClientNote) : Type 0 where
  pub parts : List (List ℕ)
  pub spelled : bytes ≡ numbers_of n.runs n.attempts parts
  pub states : SayStates parts n.kept

-- A reader gives what the bytes say behind a generation, and nothing where they say nothing.
abbrev pub ReadsNumbers : ℕ → List ℕ → Option ClientNote → Type 0
ReadsNumbers generation bytes (Some n) = (n.generation ≡ generation) × IsNoted n × Numbers bytes n
ReadsNumbers generation bytes None = (n : ClientNote) → IsNoted n → Numbers bytes n → ⊥

-- A reader gives what the bytes say, and nothing where they say nothing.
abbrev pub Reads : List ℕ → Option ClientNote → Type 0
Reads bytes (Some n) = Says bytes n
Reads bytes None = (n : ClientNote) → Says bytes n → ⊥

-- What stands behind a note's generation tells of 1 to 1,024 states, and holds so many sound ones.
pub record TellsStates (bytes : List ℕ) : Type 0 where
  pub few : number_in w32 (drop 16 bytes) ≤ KEPT_LIMIT
  pub all : HoldStates (number_in w32 (drop 16 bytes)) (drop 20 bytes)

-- The bytes begin as a note does that has states, and hold as many sound ones as they tell of.
abbrev pub HasStates : List ℕ → Type 0
HasStates bytes =
    ((take 4 bytes ≡ codes "FCC2") × TellsStates (drop 12 bytes))
    ⊎ ((take 4 bytes ≡ codes "FCC1") × TellsStates (drop 4 bytes))

-- Bytes say one thing at most.
abbrev pub SaysOneThing : Type 0
SaysOneThing = (bytes : List ℕ) (n m : ClientNote) → Says bytes n → Says bytes m → n ≡ m

-- What is written says what it was written of.
abbrev pub SaysWhatIsWritten : Type 0
SaysWhatIsWritten = (n : ClientNote) → IsNoted n → Says (spelling n) n

-- What bytes say of a verify state, and what is wrong with them, in both layouts.
use Rattle.std.specs.Prelude.{◌≡◌, ℕ, ◌+◌, ◌*◌, Bool, not, ◌&&◌, ◌||◌, ◌==◌, nat_lt, nat_le, List, [], ◌++◌}
use Rattle.std.specs.Prelude.{length, map, drop, Result, Ok, Err, Some, codes, nat_eq, slice_get, if◌then◌else◌}
use Rattle.std.specs.List.{starts_with, range_with_len}
use Rattle.std.specs.Int.{Width, w8, w32, w64}
use Rattle.fc_base.specs.Layouts.{number_in}
use Rattle.fc_base.specs.declared.limits.TheConstants.{MAX_WRITES}
use Rattle.fc_base.specs.declared.numbers.Key.{Key}
use Rattle.fc_base.specs.declared.record.JobParts.{JobParts}
use Rattle.fc_base.specs.declared.fault.Fault.{Fault}
use Rattle.fc_base.specs.declared.fault.Fault.TheVariants.{StateShort, StateBadMagic, StateBadField, StateTrailing, Impossible}
use Rattle.fc_base.specs.JobParts.{is_within_limits}
use Rattle.fc_base.specs.Keys.{is_key}
use Rattle.fc_base.specs.Marks.{floor_of}
use Rattle.fc_base.specs.Faults.{when}
use Rattle.verify_state.specs.Codes.{kind_of, verify_of}
use Rattle.verify_state.specs.State.{State, state_of, state_by, has_come, has_come_by}

-- The number that stands at an offset, high byte first.
unfoldable pub field : Width → ℕ → List ℕ → ℕ
field width at bytes = number_in width (drop at bytes)

-- This many numbers of eight bytes from an offset on.
abbrev pub words_at : ℕ → ℕ → List ℕ → List ℕ
words_at n at bytes = map (λ i. field w64 (at + 8 * i) bytes) (range_with_len 0 n)

-- ---- what both layouts begin with

-- Layout 1 has a list of completions.
unfoldable pub is_layout_1 : List ℕ → Bool
is_layout_1 bytes = starts_with nat_eq bytes (codes "FCV1")

-- Layout 2 has marks.
unfoldable pub is_layout_2 : List ℕ → Bool
is_layout_2 bytes = starts_with nat_eq bytes (codes "FCV2")

-- The key that the bytes of a state say.
abbrev pub key_in : List ℕ → Key
key_in bytes =
    record { run = field w64 4 bytes; server = field w32 12 bytes; job = field w32 16 bytes }

-- The settings of a job that the bytes of a state say.
abbrev pub job_in : List ℕ → JobParts
job_in bytes = record {
  kind = kind_of (field w8 20 bytes);
  verify = verify_of (field w8 21 bytes);
  pattern = field w8 22 bytes;
  bs = field w32 24 bytes;
  blocks = field w32 28 bytes;
  total = field w64 32 bytes;
  seed = field w64 40 bytes;
  depth = field w32 48 bytes;
  window = field w32 52 bytes;
}

-- The number of writes issued that the bytes of a state say.
abbrev pub issued_in : List ℕ → ℕ
issued_in bytes = field w64 56 bytes

-- The four words of the generator's place in the bytes.
abbrev pub place_in : List ℕ → List ℕ
place_in bytes = words_at 4 64 bytes

-- The codes are known, and the byte behind the pattern is zero.
abbrev pub has_codes : List ℕ → Bool
has_codes bytes =
    nat_lt (field w8 20 bytes) 3 && nat_lt (field w8 21 bytes) 2 && field w8 23 bytes == 0

-- The codes are known, and the key and the number issued are in their ranges.
abbrev pub has_fields : List ℕ → Bool
has_fields bytes = has_codes bytes && is_key (key_in bytes) && nat_le (issued_in bytes) MAX_WRITES

-- Each field up to the place is in its range.
unfoldable pub has_ranges : List ℕ → Bool
has_ranges bytes = is_within_limits (job_in bytes) && has_fields bytes

-- What is wrong up to the place, in the order in which it is looked for.
abbrev pub front_faults : List ℕ → List Fault
front_faults bytes =
    when (nat_lt (length bytes) 100) StateShort
    ++ (when (not (is_layout_1 bytes || is_layout_2 bytes)) StateBadMagic
    ++ when (not (has_ranges bytes)) StateBadField)

-- ---- layout 1: a list of completions

-- The number of completions that layout 1 says.
abbrev pub count_in : List ℕ → ℕ
count_in bytes = field w32 96 bytes

-- The completions that layout 1 lists, oldest first.
abbrev pub completions_in : List ℕ → List ℕ
completions_in bytes = words_at (count_in bytes) 100 bytes

-- As many bytes as the number of completions asks for.
abbrev pub length_in : List ℕ → ℕ
length_in bytes = 100 + 8 * count_in bytes

-- What is wrong behind the place: more than two windows of completions, fewer or more bytes than
-- the list has, and at last that no job can have come to it.
abbrev pub list_faults : List ℕ → List Fault
list_faults bytes =
    when (not (nat_le (count_in bytes) (2 * field w32 52 bytes))) StateBadField
    ++ (when (nat_lt (length bytes) (length_in bytes)) StateShort
    ++ (when (nat_lt (length_in bytes) (length bytes)) StateTrailing
    ++ when (not (has_come (job_in bytes) (issued_in bytes) (completions_in bytes))) Impossible))

-- ---- layout 2: the floor and the marks

-- The floor that layout 2 says.
abbrev pub floor_at : List ℕ → ℕ
floor_at bytes = field w64 96 bytes

-- The four words of marks in the bytes, behind the floor.
abbrev pub marks_at : List ℕ → List ℕ
marks_at bytes = words_at 4 104 bytes

-- The floor is that of the window and the number issued, and some job can have come to the marks.
unfoldable pub has_marks : List ℕ → Bool
has_marks bytes =
    (floor_at bytes == floor_of (field w32 52 bytes) (issued_in bytes))
    && has_come_by (job_in bytes) (issued_in bytes) (marks_at bytes)

-- What is wrong behind the place: fewer or more bytes than layout 2 has, and at last that no job
-- can have come to the marks.
abbrev pub mark_faults : List ℕ → List Fault
mark_faults bytes =
    when (nat_lt (length bytes) 136) StateShort
    ++ (when (nat_lt 136 (length bytes)) StateTrailing ++ when (not (has_marks bytes)) Impossible)

-- ---- the whole

-- What is wrong with the bytes, in the order in which it is looked for.
abbrev pub faults_of : List ℕ → List Fault
faults_of bytes =
    front_faults bytes ++ (if is_layout_1 bytes then list_faults bytes else mark_faults bytes)

-- The state that the bytes of layout 1 say: it counts what the list and the number issued count.
abbrev pub state_listed : List ℕ → State
state_listed bytes =
    state_of (key_in bytes) (job_in bytes) (issued_in bytes) (place_in bytes) (completions_in bytes)

-- The state that the bytes of layout 2 say.
abbrev pub state_marked : List ℕ → State
state_marked bytes =
    state_by (key_in bytes) (job_in bytes) (issued_in bytes) (place_in bytes) (marks_at bytes)

-- The state that the bytes say.
abbrev pub state_in : List ℕ → State
state_in bytes = if is_layout_1 bytes then state_listed bytes else state_marked bytes

-- Bytes without a fault give their state, and any other their first fault.
abbrev pub Answers : Result State Fault → List ℕ → Type 0
Answers (Ok state) bytes = (faults_of bytes ≡ []) × (state ≡ state_in bytes)
Answers (Err fault) bytes = slice_get (faults_of bytes) 0 ≡ Some fault

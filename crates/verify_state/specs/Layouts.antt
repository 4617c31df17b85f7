-- What is read behind the place of a state, in each layout. No public contract cites this.
use Rattle.std.specs.Prelude.{◌≡◌, List, [], ℕ, Result, Ok, Err, Some, slice_get, IsTrue, if◌then◌else◌}
use Rattle.fc_base.specs.declared.fault.Fault.{Fault}
use Rattle.fc_base.specs.Counted.{has, counted}
use Rattle.fc_base.specs.Marks.{floor_of, marks_of}
use Rattle.verify_state.specs.State.{state_by, has_come_by}
use Rattle.verify_state.specs.Reading.{is_layout_1, key_in, job_in, issued_in, place_in, completions_in, marks_at, list_faults, mark_faults, state_in}

-- The marks of what the list of layout 1 counts.
abbrev pub marks_listed : List ℕ → List ℕ
marks_listed bytes =
    let window = (job_in bytes).window in
    let issued = issued_in bytes in
    marks_of (has (counted window issued (completions_in bytes))) (floor_of window issued)

-- A list without a fault gives its marks, and any other the first fault.
abbrev pub GivesListed : Result (List ℕ) Fault → List ℕ → Type 0
GivesListed (Ok marks) bytes = (list_faults bytes ≡ []) × (marks ≡ marks_listed bytes)
GivesListed (Err fault) bytes = slice_get (list_faults bytes) 0 ≡ Some fault

-- Marks without a fault are given, and of any other the first fault.
abbrev pub GivesMarked : Result (List ℕ) Fault → List ℕ → Type 0
GivesMarked (Ok marks) bytes = (mark_faults bytes ≡ []) × (marks ≡ marks_at bytes)
GivesMarked (Err fault) bytes = slice_get (mark_faults bytes) 0 ≡ Some fault

-- What is wrong behind the place.
abbrev pub faults_behind : List ℕ → List Fault
faults_behind bytes = if is_layout_1 bytes then list_faults bytes else mark_faults bytes

-- Bytes without a fault behind the place give marks to which some job can have come, and which make
-- the state that the bytes say. Of any other the first fault is given.
abbrev pub GivesMarks : Result (List ℕ) Fault → List ℕ → Type 0
GivesMarks (Ok marks) bytes =
    (faults_behind bytes ≡ [])
    × (state_in bytes ≡ state_by (key_in bytes) (job_in bytes) (issued_in bytes)
    (place_in bytes) marks)
    × IsTrue (has_come_by (job_in bytes) (issued_in bytes) marks)
GivesMarks (Err fault) bytes = slice_get (faults_behind bytes) 0 ≡ Some fault

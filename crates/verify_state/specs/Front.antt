-- What stands before the completions or the marks.
use Rattle.std.specs.Prelude.{◌≡◌, List, [], ℕ, Result, Ok, Err, Some, slice_get}
use Rattle.fc_base.specs.declared.fault.Fault.{Fault}
use Rattle.verify_state.specs.declared.reading.Front.{Front}
use Rattle.verify_state.specs.Reading.{key_in, job_in, issued_in, place_in, front_faults}

-- The fields that both layouts have.
abbrev pub front_in : List ℕ → Front
front_in bytes = record {
  key = key_in bytes;
  rec = job_in bytes;
  issued = issued_in bytes;
  place = place_in bytes;
}

-- Bytes that have no fault up to the place give these fields, and others the first fault.
abbrev pub Fronts : Result Front Fault → List ℕ → Type 0
Fronts (Ok front) bytes = (front_faults bytes ≡ []) × (front ≡ front_in bytes)
Fronts (Err fault) bytes = slice_get (front_faults bytes) 0 ≡ Some fault

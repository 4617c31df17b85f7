-- The bytes of records, which are all that a filter reads and writes.
use Rattle.std.specs.Prelude.{ℕ, List, [], ◌∷◌, ◌++◌, length, Result, Ok, Err}
use Rattle.std.specs.Int.{w64}
use Rattle.fc_base.specs.Layouts.{bytes_of}
use Rattle.fc_base.specs.Fault.{number_of}
use Rattle.fc_base.specs.declared.fault.Fault.{Fault}
use Rattle.filters.specs.declared.kinds.OutRecordKind.TheVariants.{End}
use Rattle.filters.specs.Kinds.{said_number}

-- What stands before a body: the kind, and in eight bytes the body's length.
abbrev pub head_bytes : ℕ → ℕ → List ℕ
head_bytes kind len = (kind ∷ []) ++ bytes_of w64 len

-- A record: its kind, the length of its body, and the body.
abbrev pub record_bytes : ℕ → List ℕ → List ℕ
record_bytes kind body = head_bytes kind (length body) ++ body

-- The number of an answer: 0, or that of the fault for which there is none.
abbrev pub end_number : Result (Unit {0}) Fault → ℕ
end_number (Ok _) = 0
end_number (Err fault) = number_of fault

-- The last record of each answer.
abbrev pub end_bytes : Result (Unit {0}) Fault → List ℕ
end_bytes answer = record_bytes (said_number End) (end_number answer ∷ [])

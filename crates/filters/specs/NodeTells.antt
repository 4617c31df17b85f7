-- How what a node answers is spelled, whichever node it is.
use Rattle.std.specs.Prelude.{ℕ, Bool, true, false, List, [], ◌++◌, Option, Some, None, Result, Ok, Err}
use Rattle.std.specs.List.{flat_map}
use Rattle.std.specs.Int.{w64}
use Rattle.fc_base.specs.Layouts.{bytes_of}
use Rattle.fc_base.specs.declared.fault.Fault.{Fault}
use Rattle.messages.specs.declared.refusal.Act.{Act}
use Rattle.messages.specs.declared.refusal.Act.TheVariants as acts
use Rattle.filters.specs.declared.kinds.OutRecordKind.TheVariants.{Save, Send, Number, Cut}
use Rattle.filters.specs.declared.node_step.NodeStep.{NodeStep}
use Rattle.filters.specs.Kinds.{said_number}
use Rattle.filters.specs.Records.{record_bytes, end_bytes}

-- The bytes of a save, where one is made, which leaves the note so.
abbrev pub save_bytes : Bool → List ℕ → List ℕ
save_bytes true note = record_bytes (said_number Save) note
save_bytes false note = []

-- The bytes of a number, where one is given.
abbrev pub number_bytes : Option ℕ → List ℕ
number_bytes (Some n) = record_bytes (said_number Number) (bytes_of w64 n)
number_bytes None = []

-- The bytes of frames to send.
abbrev pub send_bytes : List (List ℕ) → List ℕ
send_bytes frames = flat_map (record_bytes (said_number Send)) frames

-- The bytes that ask the caller for the cut, where there is to be one.
abbrev pub act_bytes : Act → List ℕ
act_bytes acts.Cut = record_bytes (said_number Cut) []
act_bytes acts.None = []

-- What is written for an answer over a note: the save first, then the number, the frames, and the
-- cut.
abbrev pub answer_bytes : List ℕ → NodeStep → List ℕ
answer_bytes note a =
    save_bytes a.saves note
    ++ (number_bytes a.number ++ (send_bytes a.frames ++ act_bytes a.act))

-- What is written where there is an answer, and where there is none.
abbrev pub result_bytes : List ℕ → Result NodeStep Fault → List ℕ
result_bytes note (Ok a) = answer_bytes note a ++ end_bytes (Ok tt)
result_bytes note (Err fault) = end_bytes (Err fault)

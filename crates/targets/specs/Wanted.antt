-- Which blocks of a target a check by its ledger has to read.
use Rattle.std.specs.Prelude.{◌⊎◌, ℕ, ◌+◌, ◌*◌, ◌/◌, Bool, List, length, map, Option}
use Rattle.std.specs.List.{range_with_len}
use Rattle.std.specs.Simd.Lanes.{mask_l}
use Rattle.fc_base.specs.declared.numbers.Key.{Key}
use Rattle.job_file.specs.declared.job.Job.{Job}
use Rattle.verify_state.specs.State.{State}
use Rattle.ledger.specs.Places.{Place, is_checked}
use Rattle.program_io.specs.Words.{Finishes}
use Rattle.recheck.specs.Expected.{expected_by}
use Rattle.targets.specs.declared.command.Since.{Since}
use Rattle.targets.specs.declared.ledger_refusal.LedgerRefusal.{LedgerRefusal}
use Rattle.targets.specs.LedgerInput.{BeginsLedger, BeginsNoLedger, place_since}
use Rattle.targets.specs.Ledgers.{RefusesBy}

-- The byte of this number, whose binary digits, the lowest first, say which of its eight blocks
-- pass: block b has digit b % 8 of byte b / 8.
abbrev pub byte_of : (ℕ → Bool) → ℕ → ℕ
byte_of passes number = mask_l (map passes (range_with_len (8 * number) 8))

-- How many bytes have a digit for each of so many blocks.
abbrev pub bytes_to : ℕ → ℕ
bytes_to blocks = (blocks + 7) / 8

-- A digit for each block of a place, which is 1 where its entry asks for something. Behind the last
-- block there is no entry, and the digits are 0.
abbrev pub wanted_bytes : Place → List ℕ
wanted_bytes place =
    map (byte_of (is_checked place)) (range_with_len 0 (bytes_to (length place.entries)))

-- An input begins as that of a check by a ledger does, and the blocks that the check has to read are
-- told, by what is known of the place behind what has happened since the ledger was made.
pub record WantsInput (key : Key) (since : Since) (input : List ℕ) (old new : Option (List ℕ))
    (status : ℕ) : Type 0 where
  pub job : Job
  pub state : Option State
  pub target : List ℕ
  pub known : Place
  pub begins : BeginsLedger key since input target job state known
  pub tells : Finishes (wanted_bytes (place_since since (expected_by key job.rec state) known)) 0
      old new status

-- What is answered: the blocks are told, or why there is no check.
abbrev pub WantsByLedger : Key → Since → List ℕ → Option (List ℕ) → Option (List ℕ) → ℕ → Type 0
WantsByLedger key since input old new status =
    WantsInput key since input old new status
    ⊎ ((refusal : LedgerRefusal) × BeginsNoLedger key since input refusal
    × RefusesBy refusal old new status)

-- What `drive` answers where a target is to be checked by its ledger.
use Rattle.std.specs.Prelude.{◌≡◌, ◌⊎◌, ℕ, List, Option}
use Rattle.fc_base.specs.declared.numbers.Key.{Key}
use Rattle.job_file.specs.declared.job.Job.{Job}
use Rattle.verify_state.specs.State.{State}
use Rattle.ledger.specs.Places.{Place}
use Rattle.recheck.specs.Expected.{expected_by}
use Rattle.targets.specs.declared.command.Since.{Since}
use Rattle.targets.specs.declared.ledger_refusal.LedgerRefusal.{LedgerRefusal}
use Rattle.targets.specs.LedgerInput.{BeginsLedger, BeginsNoLedger, place_since}
use Rattle.targets.specs.Ledgers.{ChecksTarget, RefusesBy}

-- The target of an input is checked by what is known of it behind what has happened since its
-- ledger was made.
pub record ChecksInput (key : Key) (since : Since) (input : List ℕ) (old new : Option (List ℕ))
    (status : ℕ) : Type 0 where
  pub job : Job
  pub state : Option State
  pub target : List ℕ
  pub known : Place
  pub begins : BeginsLedger key since input target job state known
  pub checks : ChecksTarget since (expected_by key job.rec state)
      (place_since since (expected_by key job.rec state) known) target old new status

-- What is answered: its target is checked, or it says why there is none.
abbrev pub ChecksByLedger : Key → Since → List ℕ → Option (List ℕ) → Option (List ℕ) → ℕ → Type 0
ChecksByLedger key since input old new status =
    ChecksInput key since input old new status
    ⊎ ((refusal : LedgerRefusal) × BeginsNoLedger key since input refusal
    × RefusesBy refusal old new status)

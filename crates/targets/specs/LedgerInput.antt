-- The front of an input by which a target is checked by its ledger: a job file, the state of its
-- run where there is one, and the ledger; the blocks of the target stand behind.
use Rattle.std.specs.Prelude.{◌≡◌, ◌⊎◌, ◌<◌, ◌≤◌, ℕ, IsTrue, List, [], ◌∷◌, length, Option, Some, None, Ok, Err}
use Rattle.fc_base.specs.declared.fault.Fault.{Fault}
use Rattle.fc_base.specs.declared.fault.Fault.TheVariants as plain_faults
use Rattle.fc_base.specs.declared.numbers.Key.{Key}
use Rattle.fc_base.specs.declared.record.JobParts.{JobParts}
use Rattle.job_file.specs.declared.job.Job.{Job}
use Rattle.verify_state.specs.State.{State}
use Rattle.program_io.specs.declared.refusal.PrintedRefusal.{PrintedRefusal}
use Rattle.program_io.specs.Refusals.{plain}
use Rattle.recheck.specs.Expected.{Expected}
use Rattle.recheck.specs.Check.{FitsIfAny}
use Rattle.ledger.specs.declared.fault.LedgerFault.{LedgerFault}
use Rattle.ledger.specs.declared.fault.LedgerFault.TheVariants as faults
use Rattle.ledger.specs.Places.{Place, empty, after_run, after_lost_run}
use Rattle.ledger.specs.Possible.{is_possible}
use Rattle.ledger.specs.Ranges.{IsRangedPlace}
use Rattle.ledger.specs.Spelling.{spelling}
use Rattle.targets.specs.declared.command.Since.{Since}
use Rattle.targets.specs.declared.command.Since.TheVariants as sinces
use Rattle.targets.specs.declared.ledger_input.TheConstants.{MAX_LEDGER}
use Rattle.targets.specs.declared.ledger_refusal.LedgerRefusal.{LedgerRefusal}
use Rattle.targets.specs.declared.ledger_refusal.LedgerRefusal.TheVariants as refusals
use Rattle.targets.specs.Jobs.{BeginsWithJob, GivesNoJob}
use Rattle.targets.specs.Reports.{HasNoState, IsStateIn}
use Rattle.targets.specs.Texts.{IsText, HasNoText}

-- A state comes only behind a run whose state was kept.
abbrev pub IsStateSince : Since → Option (List ℕ) → Option (List ℕ) → Option State → Type 0
IsStateSince sinces.Run old new state = IsStateIn old new state
IsStateSince sinces.LostRun old new state = (new ≡ old) × (state ≡ None)
IsStateSince sinces.Rest old new state = (new ≡ old) × (state ≡ None)

-- Bytes spell this ledger, which there can be, and no other one whose numbers have their widths.
pub record Spells (bytes : List ℕ) (place : Place) : Type 0 where
  pub spelled : bytes ≡ spelling place
  pub possible : IsTrue (is_possible place)
  pub only : (other : Place) → IsRangedPlace other → IsTrue (is_possible other)
      → bytes ≡ spelling other → place ≡ other

-- Bytes tell what is known of a job's place: none, that nothing is asked; or they are the ledger's,
-- of as many blocks of that size.
abbrev pub Tells : JobParts → List ℕ → Place → Type 0
Tells job [] place = place ≡ empty job.bs job.blocks
Tells job (b ∷ bs) place =
    (length (b ∷ bs) ≤ MAX_LEDGER) × Spells (b ∷ bs) place
    × (place.bs ≡ job.bs) × (length place.entries ≡ job.blocks)

-- Bytes that tell what is known of a job's place come behind their length.
abbrev pub IsLedgerIn : JobParts → Option (List ℕ) → Option (List ℕ) → Place → Type 0
IsLedgerIn job old new place =
    (bytes : List ℕ) × IsText MAX_LEDGER old new bytes × Tells job bytes place

-- Bytes spell no ledger that there can be, unless memory has run out.
abbrev pub SpellsNone : List ℕ → LedgerFault → Type 0
SpellsNone bytes fault =
    (place : Place) → IsRangedPlace place → IsTrue (is_possible place) → bytes ≡ spelling place
    → fault ≡ faults.NoMemory

-- Bytes spell a ledger of blocks of another size or number.
abbrev pub IsOfOtherPlace : JobParts → List ℕ → Type 0
IsOfOtherPlace job bytes =
    (place : Place) × Spells bytes place
    × (place.bs ≡ job.bs → length place.entries ≡ job.blocks → ⊥)

-- Why bytes are no ledger of a job's place: there are too many; it is one of another place; or they
-- spell none.
abbrev pub TellsNone : JobParts → List ℕ → LedgerFault → Type 0
TellsNone job bytes fault =
    ((MAX_LEDGER < length bytes) × (fault ≡ faults.TooLong))
    ⊎ ((IsOfOtherPlace job bytes × (fault ≡ faults.OtherPlace)) ⊎ SpellsNone bytes fault)

-- What is known of a place by what has happened since its ledger was made.
abbrev pub place_since : Since → Expected → Place → Place
place_since sinces.Run e place = after_run e place
place_since sinces.LostRun e place = after_lost_run e.job place
place_since sinces.Rest e place = place

-- An input begins with a job, and a state where there is to be one.
pub record BeginsSince (key : Key) (since : Since) (input rest : List ℕ) (job : Job)
    (state : Option State) : Type 0 where
  pub behind : List ℕ
  pub begins : BeginsWithJob key.job input behind job
  pub is_state : IsStateSince since (Some behind) (Some rest) state

-- An input begins so, with a state that fits the job, and a ledger.
pub record BeginsLedger (key : Key) (since : Since) (input target : List ℕ) (job : Job)
    (state : Option State) (place : Place) : Type 0 where
  pub rest : List ℕ
  pub begins : BeginsSince key since input rest job state
  pub fits : FitsIfAny state key job.rec (Ok tt)
  pub is_ledger : IsLedgerIn job.rec (Some rest) (Some target) place

-- Why an input gives no state of the run behind which it is checked.
abbrev pub HasNoStateSince : Since → Option (List ℕ) → Fault → Type 0
HasNoStateSince since input fault = (since ≡ sinces.Run) × HasNoState input fault

-- Why an input gives no ledger.
abbrev pub HasNoLedger : JobParts → Option (List ℕ) → LedgerRefusal → Type 0
HasNoLedger job rest refusal =
    ((fault : Fault) × HasNoText MAX_LEDGER rest fault × (refusal ≡ refusals.Printed (plain fault)))
    ⊎ ((bytes : List ℕ) × (target : Option (List ℕ)) × (fault : LedgerFault)
    × IsText MAX_LEDGER rest target bytes × TellsNone job bytes fault
    × (refusal ≡ refusals.OfLedger fault))

-- Why an input doesn't begin so: it has no job; no state, or one that doesn't fit; no ledger; or
-- memory ran out.
abbrev pub BeginsNoLedger : Key → Since → List ℕ → LedgerRefusal → Type 0
BeginsNoLedger key since input refusal =
    ((no_job : PrintedRefusal) × GivesNoJob (Some input) key.job no_job
    × (refusal ≡ refusals.Printed no_job))
    ⊎ (((job : Job) × (behind : List ℕ) × (fault : Fault) × BeginsWithJob key.job input behind job
    × HasNoStateSince since (Some behind) fault × (refusal ≡ refusals.Printed (plain fault)))
    ⊎ (((job : Job) × (rest : List ℕ) × (state : Option State) × (fault : Fault)
    × BeginsSince key since input rest job state × FitsIfAny state key job.rec (Err fault)
    × (refusal ≡ refusals.Printed (plain fault)))
    ⊎ (((job : Job) × (rest : List ℕ) × (state : Option State)
    × BeginsSince key since input rest job state × HasNoLedger job.rec (Some rest) refusal)
    ⊎ (refusal ≡ refusals.Printed (plain plain_faults.NoMemory)))))

-- A check by a ledger under way.
use Rattle.std.specs.Prelude.{◌≡◌, ◌⊎◌, ◌≤◌, ℕ, ◌+◌, ◌||◌, Bool, false, List, [], ◌∷◌, ◌++◌, length, Option, Some, None, IfSome, Result, Ok, Err}
use Rattle.std.specs.Io.KnownBytes.{Consumes}
use Rattle.fc_base.specs.declared.fault.Fault.{Fault}
use Rattle.fc_base.specs.declared.numbers.Key.{Key}
use Rattle.job_file.specs.declared.job.Job.{Job}
use Rattle.verify_state.specs.State.{State}
use Rattle.ledger.specs.declared.entry.RunWrite.{RunWrite}
use Rattle.fc_base.specs.declared.fault.Fault.TheVariants.{NoMemory}
use Rattle.program_io.specs.Words.{Finishes}
use Rattle.program_io.specs.Refusals.{plain}
use Rattle.ledger.specs.Spelling.{spelling}
use Rattle.ledger.specs.Checks.{Check, report_at, report_of, start, with_block_fed}
use Rattle.ledger.specs.Places.{Place, entry_of}
use Rattle.ledger.specs.Entries.{asks}
use Rattle.recheck.specs.Expected.{Expected, expected_by}
use Rattle.targets.specs.declared.command.Since.{Since}
use Rattle.targets.specs.declared.ledger_found.Found.{Found}
use Rattle.targets.specs.declared.ledger_input.Basis.{Basis}
use Rattle.targets.specs.declared.ledger_found.Found.TheVariants as founds
use Rattle.targets.specs.declared.ledger_sums.Sums.{Sums}
use Rattle.targets.specs.declared.ledger_steps.LedgerMap.{LedgerMap}
use Rattle.targets.specs.declared.block_verdict.BlockVerdict.TheVariants as tolds
use Rattle.targets.specs.LedgerInput.{BeginsLedger, place_since}
use Rattle.targets.specs.LedgerLines.{rest_line, rest_unread_line}
use Rattle.targets.specs.Jobs.{Refuses}
use Rattle.targets.specs.MapJobs.{status_with}
use Rattle.targets.specs.Ledgers.{Cell, IsFound, is_unread, last_line, ledger_part, unasked_line}
use Rattle.targets.specs.MapInput.{block_code, EndsInBlock, NoBlock}
use Rattle.targets.specs.MapKinds.{all_lines, no_lines, with_line}
use Rattle.targets.specs.MapLines.{line_if_any}

-- How many blocks are told.
abbrev pub all_told : Sums → ℕ
all_told sums = all_lines sums.kinds + sums.at_rest

-- The sums before the first block: no block is told yet.
abbrev pub no_sums : Sums
no_sums = record { kinds = no_lines; at_rest = 0 }

-- The sums with one more block, at which this is found.
abbrev pub with_found : Sums → Found → Sums
with_found sums founds.Unchecked = sums
with_found sums founds.Sound = sums
with_found sums (founds.Written told) = record sums { kinds = with_line sums.kinds told }
with_found sums founds.RestUnread = record sums { kinds = with_line sums.kinds tolds.Unread }
with_found sums (founds.Rest content) = record sums { at_rest = sums.at_rest + 1 }

-- The line of a block by the bytes in the buffer.
abbrev pub line_by : Expected → List RunWrite → ℕ → List ℕ → Found → List ℕ
line_by e entry block bytes founds.Unchecked = []
line_by e entry block bytes founds.Sound = []
line_by e entry block bytes (founds.Written told) = line_if_any e block bytes told
line_by e entry block bytes founds.RestUnread = rest_unread_line entry block
line_by e entry block bytes (founds.Rest content) = rest_line e entry block bytes content

-- No block has come, and there is room for one.
pub record IsReady (map : LedgerMap) : Type 0 where
  pub check : map.check ≡ start map.asked
  pub blocks : length map.asked.entries ≡ map.recheck.expected.job.blocks
  pub room : length map.bytes.items ≡ map.recheck.expected.job.bs
  pub none : map.unread ≡ false

-- What a check goes by is read from the front of an input, and this is left.
pub record ReadsBasis (key : Key) (since : Since) (input : List ℕ) (left : Option (List ℕ))
    (basis : Basis) : Type 0 where
  pub job : Job
  pub state : Option State
  pub target : List ℕ
  pub known : Place
  pub leaves : left ≡ Some target
  pub begins : BeginsLedger key since input target job state known
  pub expected : basis.recheck.expected ≡ expected_by key job.rec state
  pub asked : basis.asked ≡ place_since since (expected_by key job.rec state) known

-- A check is started by what was read so.
pub record StartsLedger (key : Key) (since : Since) (input : List ℕ) (left : Option (List ℕ))
    (map : LedgerMap) : Type 0 where
  pub since_is : map.since ≡ since
  pub basis : ReadsBasis key since input left (record { recheck = map.recheck; asked = map.asked })

-- A check goes on: it is of the same run and of the same place, no block from this one on has come,
-- and there is room for a block.
pub record GoesOn (since : Since) (e : Expected) (place : Place) (map : LedgerMap)
    (block : ℕ) : Type 0 where
  pub since_is : map.since ≡ since
  pub expected : map.recheck.expected ≡ e
  pub asked : map.asked ≡ place
  pub blocks : length place.entries ≡ e.job.blocks
  pub entries : length map.check.place.entries ≡ e.job.blocks
  pub next : map.check.next ≤ block
  pub room : length map.bytes.items ≡ e.job.bs

-- The check behind a block: it was given its bytes, if it has any.
abbrev pub with_block : Check → ℕ → Option (List ℕ) → Check
with_block check block None = check
with_block check block (Some bytes) = with_block_fed check block bytes

-- A block has come, and this is found at it.
pub record TakesBlock (since : Since) (e : Expected) (old new : LedgerMap) (block : ℕ)
    (input left : Option (List ℕ)) (found : Found) : Type 0 where
  pub bytes : Option (List ℕ)
  pub came : Consumes input left (block_code bytes)
  pub whole : IfSome bytes (λ l. length l ≡ e.job.bs)
  pub here : IfSome bytes (λ l. new.bytes.items ≡ l)
  pub finds : IsFound since e (entry_of old.check.place block) block bytes found
  pub check : new.check ≡ with_block old.check block bytes
  pub unread : new.unread
      ≡ (old.unread
      || is_unread old.check.place (record { block = block; bytes = bytes; found = found }))

-- What comes of the next block.
abbrev pub Takes : Since → Expected → LedgerMap → LedgerMap → ℕ → Option (List ℕ)
    → Option (List ℕ) → Result (Option Found) Fault → Type 0
Takes since e old new block input left (Ok (Some found)) =
    TakesBlock since e old new block input left found
Takes since e old new block input left (Ok None) =
    EndsInBlock e.job.bs input left × (new.check ≡ old.check) × (new.unread ≡ old.unread)
Takes since e old new block input left (Err fault) = NoBlock fault input left

-- A check of all blocks is ended: behind the lines stand what isn't asked, the report with the sums,
-- and the new ledger; or memory has run out.
abbrev pub Ends : LedgerMap → Sums → Option (List ℕ) → Option (List ℕ) → ℕ → Type 0
Ends map sums old new status =
    Finishes (unasked_line map.asked ++ (last_line (report_of map.check.found) sums
    ++ ledger_part (spelling map.check.place))) (status_with map.unread (report_of map.check.found))
    old new status
    ⊎ Refuses (plain NoMemory) old new status

-- A check by a ledger is ended before a block in which the input ended.
abbrev pub EndsCut : LedgerMap → Sums → ℕ → Option (List ℕ) → Option (List ℕ) → ℕ → Type 0
EndsCut map sums block old new status =
    Finishes (unasked_line map.asked ++ last_line (report_at map.check.found block) sums) 2 old new
    status

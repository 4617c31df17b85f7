-- The steps of a server's checks. Only the proofs go by these.
use Rattle.std.specs.Prelude.{◌≡◌, ◌≢◌, ◌<◌, ◌≤◌, ℕ, ◌+◌, ◌*◌, ◌==◌, ◌&&◌, ⊤, Bool, false, if◌then◌else◌, List, [], ◌∷◌, set, slice_index_or, Option, Some, None, Result, IsTrue}
use Rattle.std.specs.List.{range_with_len}
use Rattle.fc_base.specs.declared.fault.Fault.{Fault}
use Rattle.fc_base.specs.declared.limits.TheConstants.{MAX_JOBS}
use Rattle.fc_base.specs.declared.numbers.Key.{Key}
use Rattle.fc_base.specs.declared.record.JobParts.{JobParts}
use Rattle.fc_base.specs.Report.{is_report}
use Rattle.fc_base.specs.declared.report.ReportParts.{ReportParts}
use Rattle.fc_base.specs.declared.report.ReportEnd.TheVariants.{AtFault}
use Rattle.verify_state.specs.State.{State}
use Rattle.recheck.specs.Check.{HasSeen, start}
use Rattle.recheck.specs.Expected.{expected_by}
use Rattle.recheck.specs.Report.{report}
use Rattle.server_core.specs.declared.input.Input.TheVariants.{CheckDone}
use Rattle.server_core.specs.History.{Opening}
use Rattle.filters.specs.declared.checking.Checking.{Checking}
use Rattle.filters.specs.declared.checking.CheckTurn.{CheckTurn}
use Rattle.filters.specs.declared.checking.CheckTurn.TheVariants.{On, Ended}
use Rattle.filters.specs.declared.names.BlockName.{BlockName}
use Rattle.filters.specs.declared.server_filter.ServerFilter.{ServerFilter}
use Rattle.filters.specs.Written.{Written, Puts}
use Rattle.filters.specs.Kept.{note_kept}
use Rattle.filters.specs.UnderWay.{BlockBytes, UnderWay, IsOver, WantsMore}
use Rattle.filters.specs.ServerAt.{ServerAt, IsAt, with_check}
use Rattle.filters.specs.ServerTurns.{GoesOn, TellsIt, IsNew}

-- A content is of the blocks that came: each of them holds its bytes.
abbrev pub AreOf : (ℕ → List ℕ) → List BlockBytes → Type 0
AreOf held [] = ⊤
AreOf held (c ∷ cs) = (held c.block ≡ c.bytes) × AreOf held cs

-- The blocks came in ascending order, and are below this one.
abbrev pub AreBelow : ℕ → List BlockBytes → Type 0
AreBelow n [] = ⊤
AreBelow n (c ∷ cs) = (c.block < n) × AreBelow c.block cs

-- A check that was begun so.
pub record IsBegun (boot attempt : ℕ) (key : Key) (job : JobParts) (state : Option State)
    (fatal : Bool) (c : Checking) : Type 0 where
  pub boot_is : c.boot ≡ boot
  pub attempt_is : c.attempt ≡ attempt
  pub job_is : c.job ≡ key.job
  pub next_is : c.next ≡ 0
  pub check_is : c.check ≡ start (expected_by key job state) fatal

-- A check of job j is this one under way, and has seen the blocks below the one that is next.
pub record HasCome (j : ℕ) (c : Checking) (u : UnderWay) : Type 0 where
  pub boot : c.boot ≡ u.boot
  pub attempt : c.attempt ≡ u.attempt
  pub job : c.job ≡ j
  pub expected : c.check.expected ≡ u.expected
  pub fatal : c.check.fatal ≡ u.fatal
  pub below : AreBelow c.next u.came
  pub seen :
      (held : ℕ → List ℕ) → AreOf held u.came → HasSeen c.check held (range_with_len 0 c.next)

-- A check of job j is this one under way, has seen the blocks below the one that is next, and wants
-- those that are wanted.
pub record IsKept (j : ℕ) (c : Checking) (u : UnderWay) : Type 0 where
  pub come : HasCome j c u
  pub first : c.next ≡ u.first
  pub count : c.count ≡ u.count

-- How a check of job j goes on that is this one under way.
abbrev pub Goes : ℕ → UnderWay → CheckTurn → Type 0
Goes j u (On c) = HasCome j c u × WantsMore u c.next c.count
Goes j u (Ended r) = IsOver u r

-- A fault ended a check: the report of the whole region is this, whatever the content that the
-- blocks are of which came.
pub record EndsAt (u : UnderWay) (r : ReportParts) : Type 0 where
  pub report :
      (held : ℕ → List ℕ) → AreOf held u.came
      → r ≡ report u.fatal u.expected held (range_with_len 0 u.expected.job.blocks)
  pub end : r.end ≡ AtFault

-- How a check of job j was fed that is this one under way now.
abbrev pub Fed : ℕ → UnderWay → CheckTurn → Type 0
Fed j u (On c) = HasCome j c u
Fed j u (Ended r) = EndsAt u r

-- A check that goes on has a block less to want.
abbrev pub IsNext : Checking → CheckTurn → Type 0
IsNext old (On c) =
    (c.next ≡ old.next + 1) × (c.count + 1 ≡ old.count) × (c.size ≡ old.size)
IsNext old (Ended r) = ⊤

-- A check under way with one block more.
abbrev pub with_came : UnderWay → ℕ → List ℕ → UnderWay
with_came u block bytes = record u { came = record { block = block; bytes = bytes } ∷ u.came }

-- A length is that of this many blocks that a check wants, one at least; or of no such number of
-- them.
abbrev pub IsSome : Checking → ℕ → Option ℕ → Type 0
IsSome c len (Some given) = (0 < given) × (given ≤ c.count) × (len ≡ given * c.size)
IsSome c len None = (given : ℕ) → 0 < given → given ≤ c.count → len ≡ given * c.size → ⊥

-- What is kept is the check that is under way, if one is.
abbrev pub IsCheck : ℕ → Option Checking → Option UnderWay → Type 0
IsCheck j None None = ⊤
IsCheck j (Some c) (Some u) = IsKept j c u
IsCheck j None (Some u) = ⊥
IsCheck j (Some c) None = ⊥

-- The check of job j that is kept.
abbrev pub kept_in : List (Option Checking) → ℕ → Option Checking
kept_in checks j = slice_index_or checks j None

-- The checks that are kept are those under way.
abbrev pub AreChecks : List (Option Checking) → (ℕ → Option UnderWay) → Type 0
AreChecks checks under = (j : ℕ) → IsCheck j (kept_in checks j) (under j)

-- The checks that are kept are those under way, but maybe that of job j.
abbrev pub AreChecksBut : ℕ → List (Option Checking) → (ℕ → Option UnderWay) → Type 0
AreChecksBut j checks under = (i : ℕ) → i ≢ j → IsCheck i (kept_in checks i) (under i)

-- A filter is at this moment.
abbrev pub IsHere : ServerFilter → Opening → ServerAt → Type 0
IsHere filter opening at =
    IsAt note_kept filter.server opening at × AreChecks filter.checks.items at.checks

-- A filter is at this moment, but maybe for the check of job j.
abbrev pub IsHereBut : ℕ → ServerFilter → Opening → ServerAt → Type 0
IsHereBut j filter opening at =
    IsAt note_kept filter.server opening at × AreChecksBut j filter.checks.items at.checks

-- The check that is named, where it is kept.
abbrev pub kept_named : BlockName → Option Checking → Option Checking
kept_named name None = None
kept_named name (Some c) =
    if (c.attempt == name.attempt) && (c.next == name.block) then Some c else None

-- What is kept is a check of this boot and attempt.
abbrev pub is_same_check : ℕ → ℕ → Option Checking → Bool
is_same_check boot attempt None = false
is_same_check boot attempt (Some c) = (c.attempt == attempt) && (c.boot == boot)

-- A check that is named was taken out, if it is kept.
abbrev pub TakesOut : List (Option Checking) → BlockName → List (Option Checking)
    → Option Checking → Type 0
TakesOut old name new (Some c) =
    (kept_named name (kept_in old name.job) ≡ Some c) × (new ≡ set old name.job None)
    × (name.job < MAX_JOBS)
TakesOut old name new None = (kept_named name (kept_in old name.job) ≡ None) × (new ≡ old)

-- A report was told of job j, or not, by how that ended; its numbers fit together.
pub record TellsSo (old : ServerFilter) (boot a j : ℕ) (r : ReportParts)
    (end : Result (Unit {0}) Fault) (new : ServerFilter)
    (text new_text : Written) : Type 0 where
  pub fits : IsTrue (is_report r)
  pub answer : List ℕ
  pub written : Puts text new_text answer
  pub takes :
      (opening : Opening) (at : ServerAt) → IsHereBut j old opening at
      → (now : ServerAt) × IsHere new opening now
      × TellsIt opening (with_check j None at) (CheckDone boot a j r) end now answer

-- A check of job j went on, which is this one under way.
pub record GoesSo (old : ServerFilter) (boot a j : ℕ) (went : CheckTurn)
    (end : Result (Unit {0}) Fault) (new : ServerFilter)
    (text new_text : Written) : Type 0 where
  pub answer : List ℕ
  pub written : Puts text new_text answer
  pub takes :
      (opening : Opening) (at : ServerAt) (u : UnderWay) → IsHereBut j old opening at →
      Goes j u went
      → u.boot ≡ boot → u.attempt ≡ a
      → (now : ServerAt) × IsHere new opening now × GoesOn opening at j u end now answer

-- A check of job j that begins, as the words of the server say.
pub record IsNewCheck (filter : ServerFilter) (j : ℕ) (c : Checking) : Type 0 where
  pub begins :
      (opening : Opening) (at : ServerAt) → IsHere filter opening at
      → (u : UnderWay) × IsNew opening at j u × HasCome j c u
  pub next : c.next ≡ 0

-- The file of a job is checked, and its server is told.
use Rattle.std.proofs.Common.{◌≡◌, refl, sym, ◌∙◌, ap, subst, inl, inr, ◌⊎◌, ℕ, arith, Bool, List, Option, Some, None, Ok, Err}
use Rattle.fc_base.specs.declared.fault.Fault.{Fault}
use Rattle.fc_base.specs.declared.fault.Fault.TheVariants as faults
use Rattle.fc_base.specs.declared.fault.Fault.TheVariants.{NotInFlight}
use Rattle.fc_base.specs.declared.numbers.Key.{Key}
use Rattle.fc_base.specs.declared.record.JobParts.{JobParts}
use Rattle.fc_base.specs.declared.report.ReportParts.{ReportParts}
use Rattle.job_file.specs.declared.job.Job.{Job}
use Rattle.verify_state.specs.State.{State}
use Rattle.disk_model.specs.File.{File}
use Rattle.disk_model.specs.MemDisk.{file_of}
use Rattle.disk_model.specs.declared.mem_disk.MemDisk.{MemDisk}
use Rattle.recheck.specs.Disk.{ChecksDisk, IsWhole, IsCut}
use Rattle.recheck.specs.Expected.{expected_by}
use Rattle.server_core.specs.declared.input.Input.TheVariants as inputs
use Rattle.server_core.specs.Check.{Check, progress_after}
use Rattle.server_core.specs.Hearing.{packets_heard}
use Rattle.net_world.specs.declared.ready.Ready.{Ready}
use Rattle.net_world.specs.declared.told.WorldAnswer.TheVariants.{Checked}
use Rattle.net_world.specs.declared.told.Told.{Told}
use Rattle.net_world.specs.declared.world.World.{World}
use Rattle.net_world.specs.Setup.{Setup}
use Rattle.net_world.specs.Happenings as happenings
use Rattle.net_world.specs.Trace.{opening_of}
use Rattle.net_world.specs.Changes.{Change, trace}
use Rattle.net_world.specs.Contents.{content}
use Rattle.net_world.specs.Checks.{key_of, report_of, report_by, report_for, check_end, end_of_check_in, end_of_check}
use Rattle.net_world.specs.Outcomes.{outcome_of_step, met_by_server, end_of_check_met, brings}
use Rattle.net_world.specs.World.{report_in}
use Rattle.net_world.specs.Stands.{StandsFor, file}
use Rattle.net_world.specs.Ends.{Ends}
use Rattle.net_world.specs.Serving.{entries, ServerEnds}
use Rattle.net_world.specs.Finding.{IsMadeBy, IsReady, IsUnready}
use Rattle.net_world.proofs.ServeLemmas.{heard_is}
use Rattle.net_world.proofs.OutcomeLemmas.{met_ok, met_err}
use Rattle.net_world.proofs.FileStepLemmas.{HasWritten, file_kept}
use Rattle.net_world.proofs.FilePlaceLemmas.{IsRead}
use Rattle.net_world.proofs.EndsLemmas.{ComesTo, goes, stops, refuses, told_ends, unserved_ends}

-- ---- the report

by_made : (c : Check) (j : ℕ) (job : Job) (held : ℕ → List ℕ) (state : Option State) → IsMadeBy c j job state
    → report_by c j job (progress_after c j job c.since) held ≡ Some (report_of (key_of c j) job state held)
by_made c j job held None h = ap (λ p. report_by c j job p held) h
by_made c j job held (Some state) h = ap (λ p. report_by c j job p held) h

-- What the check of a disk answers, where the disk holds the file.
report_is : (w : Setup) (past : List Change) (s j : ℕ) (ready : Ready) (h : IsReady w past s j ready) (r : ReportParts) (old new : File) → old ≡ file w past s j
    → new.failures ≡ 0 → ChecksDisk (Ok r) ready.key ready.rec ready.state ready.fatal old new
    → (r ≡ report_of (key_of h.now j) h.job ready.state (content w past s j)) × (new ≡ old)
report_is w past s j ready h r old new is calm checks = by_end checks.1
  where
    same : (key : Key) (rec : JobParts) (fatal : Bool) (old : File) → IsWhole (expected_by key rec ready.state) fatal old new r → key ≡ key_of h.now j
        → rec ≡ h.job.rec → fatal ≡ h.job.fatal → old ≡ file w past s j
        → r ≡ report_of (key_of h.now j) h.job ready.state (content w past s j)
    same key rec fatal old whole a b c d =
        subst (λ (f : File). IsWhole (expected_by (key_of h.now j) h.job.rec ready.state) h.job.fatal f new r
        → r ≡ report_of (key_of h.now j) h.job ready.state (content w past s j)) (sym d) (λ x. x.report)
        (subst (λ t. IsWhole (expected_by (key_of h.now j) h.job.rec ready.state) t old new r) c
        (subst (λ x. IsWhole (expected_by (key_of h.now j) x ready.state) fatal old new r) b
        (subst (λ x. IsWhole (expected_by x rec ready.state) fatal old new r) a whole)))

    by_end : IsWhole (expected_by ready.key ready.rec ready.state) ready.fatal old new r
        ⊎ ((block : ℕ) × IsCut (expected_by ready.key ready.rec ready.state) ready.fatal old new r block)
        → (r ≡ report_of (key_of h.now j) h.job ready.state (content w past s j)) × (new ≡ old)
    by_end (inl whole) = (same ready.key ready.rec ready.fatal old whole h.key h.rec_is h.fatal is, whole.file)
    by_end (inr cut) = let failed = (cut.1).failed in absurd (omega (arith, failed, calm))

-- The end of the check.
pub checked_is : (w : Setup) (past : List Change) (s j : ℕ) (ready : Ready) (h : IsReady w past s j ready) (r : ReportParts)
    → r ≡ report_of (key_of h.now j) h.job ready.state (content w past s j)
    → end_of_check w past s j ≡ Some (inputs.CheckDone ready.boot ready.attempt j r)
checked_is w past s j ready h r is =
    let held = content w past s j in
    ap (λ x. end_of_check_in x j held) h.is_open
    ∙ ap (λ y. check_end h.now j (report_for h.now j y held)) h.has_job
    ∙ ap (check_end h.now j) (by_made h.now j h.job held ready.state h.made)
    ∙ ap (λ x. Some (inputs.CheckDone h.now.boot h.now.attempt j x)) (sym is)
    ∙ ap (λ b. Some (inputs.CheckDone b h.now.attempt j r)) (sym h.boot)
    ∙ ap (λ a. Some (inputs.CheckDone ready.boot a j r)) (sym h.attempt)

-- A check that isn't made leaves the file.
pub unchecked : (key : Key) (rec : JobParts) (state : Option State) (fatal : Bool) (fault : Fault) (old new : File)
    → ChecksDisk (Err fault) key rec state fatal old new → new ≡ old
unchecked key rec state fatal faults.OtherKey old new h = h.1
unchecked key rec state fatal faults.OtherJob old new h = h.1
unchecked key rec state fatal faults.OtherPlace old new h = h.1
unchecked key rec state fatal faults.NoMemory old new h = h
unchecked key rec state fatal faults.Off old new h = h.3
unchecked key rec state fatal _ old new h = absurd h

-- The check of the disk at the file's place leaves a world that stands for the same, and answers the
-- report of the file.
pub checked_file : (w : Setup) (past : List Change) (s j place : ℕ) (ready : Ready) (h : IsReady w past s j ready) (r : ReportParts) (state : Option State)
    (was disk : MemDisk) (old new : World)
    → StandsFor w past old → IsRead w past s j place was old → state ≡ ready.state
    → ChecksDisk (Ok r) ready.key ready.rec state ready.fatal (file_of was) (file_of disk) → HasWritten s j disk old new
    → (r ≡ report_of (key_of h.now j) h.job ready.state (content w past s j)) × StandsFor w past new
checked_file w past s j place ready h r state was disk old new stands read is checks wrote =
    let made = report_is w past s j ready h r (file_of was) (file_of disk) read.held refl
    (subst (λ (x : Option State). ChecksDisk (Ok r) ready.key ready.rec x ready.fatal (file_of was) (file_of disk)) is checks) in
    (made.0, file_kept w past s j disk old new stands wrote (made.1 ∙ read.held))

-- ---- how the event ends

check_comes : (w : Setup) (past : List Change) (s j : ℕ) (ready : Ready) (h : IsReady w past s j ready) (r : ReportParts)
    → r ≡ report_of (key_of h.now j) h.job ready.state (content w past s j)
    → ComesTo w past s (happenings.Check s j) (inputs.CheckDone ready.boot ready.attempt j r)
check_comes w past s j ready h r is =
    let e = inputs.CheckDone ready.boot ready.attempt j r in
    let meets : brings w past (happenings.Check s j) ≡ outcome_of_step (met_by_server (trace w past) s e) =
    ap (λ x. outcome_of_step (end_of_check_met (trace w past) s x)) (checked_is w past s j ready h r is) in
    record {
      bar = refl;
      ok = λ t new g. meets ∙ ap outcome_of_step (met_ok (trace w past) s e (packets_heard (opening_of s) (entries past s)) (heard_is w past s) g.free);
      err = λ fault new g. meets ∙ ap outcome_of_step (met_err (trace w past) s e (packets_heard (opening_of s) (entries past s)) fault
          (heard_is w past s) g.why);
      keeps = refl;
    }

pub check_ends : (w : Setup) (past : List Change) (s j : ℕ) (ready : Ready) (h : IsReady w past s j ready) (r : ReportParts) (served t : Told)
    (new : World) → r ≡ report_of (key_of h.now j) h.job ready.state (content w past s j)
    → ServerEnds w past s (inputs.CheckDone ready.boot ready.attempt j r) new (Ok served) → t ≡ record served { answer = Checked r }
    → Ends w past (happenings.Check s j) new (Ok t)
check_ends w past s j ready h r served t new is g tells =
    told_ends w past s (happenings.Check s j) (inputs.CheckDone ready.boot ready.attempt j r) served (Checked r) t new (check_comes w past s j ready h r is) g
    (sym (ap report_in (checked_is w past s j ready h r is))) tells

pub check_fails : (w : Setup) (past : List Change) (s j : ℕ) (ready : Ready) (h : IsReady w past s j ready) (r : ReportParts) (fault : Fault) (new : World)
    → r ≡ report_of (key_of h.now j) h.job ready.state (content w past s j)
    → ServerEnds w past s (inputs.CheckDone ready.boot ready.attempt j r) new (Err fault) → Ends w past (happenings.Check s j) new (Err fault)
check_fails w past s j ready h r fault new is g =
    unserved_ends w past s (happenings.Check s j) (inputs.CheckDone ready.boot ready.attempt j r) fault new (check_comes w past s j ready h r is) g

pub unready_ends : (w : Setup) (past : List Change) (s j : ℕ) (fault : Fault) (now : World) → StandsFor w past now → IsUnready w past s j fault
    → Ends w past (happenings.Check s j) now (Err fault)
unready_ends w past s j fault now stands (inl h) = refuses w past (happenings.Check s j) fault now h.1 (stops w past (happenings.Check s j) fault h.0) stands
unready_ends w past s j fault now stands (inr h) =
    subst (λ x. Ends w past (happenings.Check s j) now (Err x)) (sym h.1)
    (refuses w past (happenings.Check s j) NotInFlight now refl
    (goes w past (happenings.Check s j) h.0 ∙ ap (λ x. outcome_of_step (end_of_check_met (trace w past) s x)) h.2) stands)

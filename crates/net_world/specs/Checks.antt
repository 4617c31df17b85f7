-- The check of a file.
use Rattle.std.specs.Prelude.{ℕ, List, Option, Some, None, slice_get}
use Rattle.std.specs.List.{range_with_len}
use Rattle.fc_base.specs.declared.numbers.Key.{Key}
use Rattle.fc_base.specs.declared.report.ReportParts.{ReportParts}
use Rattle.job_file.specs.declared.job.Job.{Job}
use Rattle.verify_state.specs.State.{State}
use Rattle.disk_model.specs.File.{block_bytes}
use Rattle.recheck.specs.Expected.{expected_by}
use Rattle.recheck.specs.Report.{report}
use Rattle.server_core.specs.Inputs.{PacketInput}
use Rattle.server_core.specs.declared.input.Input.TheVariants.{CheckDone}
use Rattle.server_core.specs.Check.{Check, Progress, Wanting, Full, With, Refused, Done, check, progress_after}
use Rattle.net_world.specs.Setup.{Setup}
use Rattle.net_world.specs.Trace.{of_server, opening_of}
use Rattle.net_world.specs.Changes.{Change, trace}
use Rattle.net_world.specs.Contents.{content}

-- The report of a job's file: which of its blocks hold none of what they may hold, by a state, or
-- in a full pass where there is none.
abbrev pub report_of : Key → Job → Option State → (ℕ → List ℕ) → ReportParts
report_of key job state held =
    report job.fatal (expected_by key job.rec state) (λ block. block_bytes held job.rec.bs block)
    (range_with_len 0 job.rec.blocks)

-- The key under which job j of a check is checked.
abbrev pub key_of : Check → ℕ → Key
key_of c j = record { run = c.run; server = c.server; job = j }

-- The report of a job that is ready: in a full pass, or with its state.
abbrev pub report_by : Check → ℕ → Job → Progress → (ℕ → List ℕ) → Option ReportParts
report_by c j job Wanting held = None
report_by c j job Full held = Some (report_of (key_of c j) job None held)
report_by c j job (With state) held = Some (report_of (key_of c j) job (Some state) held)
report_by c j job (Refused value) held = None
report_by c j job (Done r) held = None

-- The report of job j of a check over this content, where it has that job and the job is ready.
abbrev pub report_for : Check → ℕ → Option Job → (ℕ → List ℕ) → Option ReportParts
report_for c j None held = None
report_for c j (Some job) held = report_by c j job (progress_after c j job c.since) held

-- The end of a check with this report.
abbrev pub check_end : Check → ℕ → Option ReportParts → Option PacketInput
check_end c j None = None
check_end c j (Some r) = Some (CheckDone c.boot c.attempt j r)

-- The end of the check of job j over this content, where the job is ready.
abbrev pub end_of_check_in : Option Check → ℕ → (ℕ → List ℕ) → Option PacketInput
end_of_check_in None j held = None
end_of_check_in (Some c) j held = check_end c j (report_for c j (slice_get c.jobs j) held)

-- The end of the check of job j's file at server s, as the file is now, where the job is ready.
abbrev pub end_of_check : Setup → List Change → ℕ → ℕ → Option PacketInput
end_of_check w past s j =
    end_of_check_in (check (opening_of s) (of_server s (trace w past))) j (content w past s j)

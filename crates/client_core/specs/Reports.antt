-- The reports that have come.
use Rattle.std.specs.Prelude.{ℕ, Bool, false, ◌&&◌, ◌==◌, if◌then◌else◌, List, [], ◌∷◌, ◌++◌}
use Rattle.std.specs.List.{list_any}
use Rattle.messages.specs.declared.body.Body.{Body}
use Rattle.messages.specs.declared.body.Body.TheVariants as bodies
use Rattle.client_core.specs.declared.received.Received.{Received}
use Rattle.client_core.specs.Life.{Deed, Hears, run_of}
use Rattle.client_core.specs.Requests.{Telling, Request, Open, counts, verify_at}

-- The answer counts for the request, which is open.
abbrev pub counts_for : Telling → Request → Bool
counts_for t (Open ts) = counts (t ∷ ts) t
counts_for t _ = false

-- One of the reports is of this attempt, server and job.
abbrev pub has_report : ℕ → ℕ → ℕ → List Received → Bool
has_report attempt server job reports =
    list_any (λ r. (r.attempt == attempt) && ((r.server == server) && (r.job == job))) reports

-- The reports with one more, unless there is one of its attempt, server and job.
abbrev pub with_report : Received → List Received → List Received
with_report r reports =
    if has_report r.attempt r.server r.job reports then reports else reports ++ r ∷ []

-- A report counts for its attempt: it is of the run that this verifies, and of a job that counts.
abbrev pub report_counts : ℕ → ℕ → ℕ → ℕ → ℕ → List Deed → Bool
report_counts run attempt server job jobs deeds =
    (run == run_of attempt deeds)
    && counts_for (record { job = job; jobs = jobs; misfit = false })
    (verify_at attempt server deeds)

-- A report is kept where it counts for its attempt.
abbrev pub reports_heard : List Deed → ℕ → Body → List Received → List Received
reports_heard deeds server (bodies.Report run attempt job jobs report) reports =
    if report_counts run attempt server job jobs deeds
    then with_report (record {
      run = run;
      attempt = attempt;
      server = server;
      job = job;
      report = report;
    })
    reports
    else reports
reports_heard deeds server _ reports = reports

-- In order of arrival: of each attempt, server and job the first that counted for its open verify.
abbrev pub reports : List Deed → List Received
reports [] = []
reports (Hears server body ∷ deeds) = reports_heard deeds server body (reports deeds)
reports (_ ∷ deeds) = reports deeds

-- What a server said of it, which told how many jobs there are.
abbrev pub report_body : Received → ℕ → Body
report_body r jobs = bodies.Report r.run r.attempt r.job jobs r.report

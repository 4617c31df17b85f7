-- A check that is opened.
use Rattle.std.proofs.Common.{◌≡◌, refl, ap, ◌∙◌, ℕ, ◌+◌, List, [], ◌∷◌, map, Option, None, Some}
use Rattle.std.specs.Option.{option_or}
use Rattle.job_file.specs.declared.job.Job.{Job}
use Rattle.server_core.specs.Check.{Check, Progress, or_opened}
use Rattle.server_core.specs.Replies.{check_frames}
use Rattle.server_core.specs.Framed.{frames_to_client}
use Rattle.server_core.specs.Kept.{map_numbered}
use Rattle.server_core.specs.KeptCheck.{CheckKept, check_kept, job_progress, progress_begun, EachCheck}
use Rattle.server_core.specs.Stands.{OpenIs}
use Rattle.server_core.specs.InnerCalls.{Opened}

-- A check in which nothing was asked yet.
abbrev pub fresh : ℕ → ℕ → ℕ → ℕ → List Job → Check
fresh me now_boot r a jobs = record { server = me; boot = now_boot; run = r; attempt = a; jobs = jobs; since = [] }

begun_each : (me now_boot r a : ℕ) (all : List Job) (k : ℕ) (jobs : List Job)
    → map progress_begun jobs ≡ map_numbered (job_progress (fresh me now_boot r a all)) k jobs
begun_each me now_boot r a all k [] = refl
begun_each me now_boot r a all k (job ∷ jobs) = ap (λ ps. progress_begun job ∷ ps) (begun_each me now_boot r a all (k + 1) jobs)

abbrev kept_so : ℕ → ℕ → List Job → List Progress → CheckKept
kept_so r a jobs ps = record { run = r; attempt = a; jobs = jobs; progress = ps }

pub fresh_kept : (me now_boot r a : ℕ) (jobs slice : List Job) (ps : List Progress) (kept : CheckKept) → kept ≡ kept_so r a jobs ps
    → ps ≡ map progress_begun slice → slice ≡ jobs → kept ≡ check_kept (fresh me now_boot r a jobs)
fresh_kept me now_boot r a jobs slice ps kept is e s = is ∙ ap (kept_so r a jobs) (e ∙ ap (map progress_begun) s ∙ begun_each me now_boot r a jobs 0 jobs)

pub is_opened : (me mine now_boot r a : ℕ) (jobs : List Job) (kept : CheckKept) (frames : List (List ℕ)) → mine ≡ me
    → kept ≡ check_kept (fresh me now_boot r a jobs) → EachCheck kept (λ c. frames ≡ frames_to_client mine (check_frames c))
    → Opened me now_boot r a jobs (record { frames = frames; new = Some kept })
is_opened me mine now_boot r a jobs kept frames same is told = record {
  check_is = record { is = is; server = refl; boot_is = refl };
  frames_are = told (fresh me now_boot r a jobs) is ∙ ap (λ n. frames_to_client n (check_frames (fresh me now_boot r a jobs))) same;
}

pub opened_or : (me now_boot : ℕ) (new old : Option CheckKept) (o c : Option Check) → OpenIs me now_boot new o → OpenIs me now_boot old c
    → OpenIs me now_boot (option_or new old) (or_opened o c)
opened_or me now_boot None old None c h k = k
opened_or me now_boot (Some new) old (Some o) c h k = h
opened_or me now_boot None old (Some o) c h k = absurd h
opened_or me now_boot (Some new) old None c h k = absurd h

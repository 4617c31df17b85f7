-- What a check says of its jobs.
use Rattle.std.proofs.Common.{◌≡◌, sym, ap, ◌∙◌, ℕ, suc, ◌+◌, arith, List, [], ◌∷◌, ◌++◌, length, take, map, Some, append_assoc}
use Rattle.std.specs.Prelude.{slice_get}
use Rattle.std.specs.Option.{option_map}
use Rattle.std.proofs.lemmas.List.{append-nil, take_more, length-take-le}
use Rattle.std.proofs.lemmas.Option.{slice_get-map, slice_get_within, get_or_from_slice_get}
use Rattle.job_file.specs.declared.job.Job.{Job}
use Rattle.messages.specs.declared.body.Body.{Body}
use Rattle.server_core.specs.declared.progress.Progress.{Progress as Stored}
use Rattle.server_core.specs.Check.{Check, Progress}
use Rattle.server_core.specs.Replies.{progress_frame, check_frames_from}
use Rattle.server_core.specs.Framed.{frames_to_client}
use Rattle.server_core.specs.KeptCheck.{CheckKept, check_kept, job_progress, progress_of}
use Rattle.server_core.proofs.NumberedLemmas.{job_of}
use Rattle.server_core.proofs.StateFrameLemmas.{framed-append}

-- How far the check of a job is, where it is kept.
pub record IsHere (c : Check) (i : ℕ) (p : Progress) : Type 0 where
  pub job : Job
  pub is_job : slice_get c.jobs i ≡ Some job
  pub is : p ≡ job_progress c i job

pub here : (kept : CheckKept) (c : Check) (i : ℕ) (items : List Stored) (now : Stored) → kept ≡ check_kept c → map progress_of items ≡ kept.progress
    → slice_get items i ≡ Some now → IsHere c i (progress_of now)
here kept c i items now is shown at =
    let p = job_of (job_progress c) c.jobs i (progress_of now)
    (sym (ap (λ (k : CheckKept). slice_get k.progress i) is) ∙ ap (λ ps. slice_get ps i) (sym shown) ∙ slice_get-map progress_of items i
    ∙ ap (option_map progress_of) at) in
    record { job = p.0; is_job = p.1; is = p.2 }

from_more : (c : Check) (k : ℕ) (jobs : List Job) (job : Job)
    → check_frames_from c k (jobs ++ job ∷ []) ≡ check_frames_from c k jobs ++ progress_frame c (k + length jobs) (job_progress c (k + length jobs) job)
from_more c k [] job = let e : k + 0 ≡ k = omega arith in rw e (append-nil (progress_frame c k (job_progress c k job)))
from_more c k (first ∷ jobs) job =
    ap (λ bs. progress_frame c k (job_progress c k first) ++ bs)
    (from_more c (k + 1) jobs job ∙ ap (λ n. check_frames_from c (k + 1) jobs ++ progress_frame c n (job_progress c n job)) next)
    ∙ sym (append_assoc (progress_frame c k (job_progress c k first)) (check_frames_from c (k + 1) jobs)
    (progress_frame c (k + suc (length jobs)) (job_progress c (k + suc (length jobs)) job)))
  where
    next : k + 1 + length jobs ≡ k + suc (length jobs)
    next = omega arith

pub frames_more : (me : ℕ) (c : Check) (i : ℕ) (p : Progress) (old new : List (List ℕ)) (bodies : List Body) → IsHere c i p
    → old ≡ frames_to_client me (check_frames_from c 0 (take i c.jobs)) → new ≡ old ++ frames_to_client me bodies → bodies ≡ progress_frame c i p
    → new ≡ frames_to_client me (check_frames_from c 0 (take (i + 1) c.jobs))
frames_more me c i p old new bodies h before push said =
    let lt = slice_get_within c.jobs i h.job h.is_job in
    let place : i ≡ 0 + length (take i c.jobs) = omega (arith, length-take-le i c.jobs (omega (arith, lt))) in
    push ∙ ap (λ fs. fs ++ frames_to_client me bodies) before
    ∙ ap (λ bs. frames_to_client me (check_frames_from c 0 (take i c.jobs)) ++ frames_to_client me bs)
    (said ∙ ap (progress_frame c i) h.is ∙ ap (λ n. progress_frame c n (job_progress c n h.job)) place)
    ∙ sym (framed-append me (check_frames_from c 0 (take i c.jobs))
    (progress_frame c (0 + length (take i c.jobs)) (job_progress c (0 + length (take i c.jobs)) h.job)))
    ∙ ap (frames_to_client me) (sym (from_more c 0 (take i c.jobs) h.job)
    ∙ ap (check_frames_from c 0) (sym (take_more c.jobs i h.job lt
    ∙ ap (λ j. take i c.jobs ++ j ∷ []) (get_or_from_slice_get c.jobs i h.job h.job h.is_job))))

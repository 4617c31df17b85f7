-- How the open writes of a job go on with one more request, and with one more entry.
use Rattle.std.proofs.Common.{◌≡◌, refl, sym, ◌∙◌, ap, subst, ◌⊎◌, inl, inr, ℕ, Bool, true, false, List, [], ◌∷◌, ◌++◌, filter}
use Rattle.std.proofs.Common.{Option, Some, None, Result, Ok, Err}
use Rattle.std.specs.Prelude.{if◌then◌else◌, ◌||◌, ◌==◌, not, nat_le, length, slice_get}
use Rattle.std.proofs.lemmas.Bool.{and_parts, and_from, or_cases, eqb-true}
use Rattle.fc_base.specs.Counted.{has}
use Rattle.fc_base.specs.NumberLaws.{has_push, has_filter}
use Rattle.fc_base.specs.declared.fault.Fault.{Fault}
use Rattle.job_file.specs.declared.job.Job.{Job}
use Rattle.write_order.specs.Blocks.{block_of}
use Rattle.engine.specs.History as window
use Rattle.engine.specs.History.{issues, failures, is_done, issued, in_flight, open_writes}
use Rattle.engine.specs.Kept.{is_held}
use Rattle.engine.proofs.HistoryLemmas.{open_writes-done, open_writes-fail}
use Rattle.engine.specs.declared.issue.Ticket.{Ticket}
use Rattle.engine.specs.declared.issue.Issue.{Issue as Issued}
use Rattle.engine.specs.declared.issue.Issue.TheVariants as issuing
use Rattle.engine.specs.declared.issue.Issue.TheVariants.{Write}
use Rattle.engine.specs.Legal.{has_failed, any_goes_to}
use Rattle.engine.specs.Running.{Origin}
use Rattle.engine.specs.Answers.{ticket_of, answer_by, answer_to, ticket_answer}
use Rattle.disk_model.specs.declared.save_outcome.SaveOutcome.{SaveOutcome}
use Rattle.disk_model.specs.declared.save_outcome.SaveOutcome.TheVariants.{NoSave, Saved, LostNew, LostOld}
use Rattle.server_core.specs.declared.input.WriteEnd.{WriteEnd}
use Rattle.server_core.specs.declared.input.WriteEnd.TheVariants as ends
use Rattle.server_core.specs.Request.{Request, ToStage, ToStart, ToTrigger, ToMark, ToStop, ToVerify, ToHold, ToPassFully, ToIssue, ToEnd, ToReport, ToNobody}
use Rattle.server_core.specs.Run.{Work, is_halted, origin_of, with_issue, with_end, with_ticket, with_request, history, goes_on}
use Rattle.server_core.specs.OpenWrites.{open_origin_of, open_origin}
use Rattle.server_core.specs.Words.{Staged, work_after}

-- ---- one more event of a history

-- A write that is open behind an issue is that one, or was open before.
issued_or_open : (n : ℕ) (h : List window.Event) (k : ℕ) → has (open_writes (window.issue n ∷ h)) k ≡ true → (n ≡ k) ⊎ (has (open_writes h) k ≡ true)
issued_or_open n h k e =
    let p = λ (m : ℕ). not (has (failures h) m) in
    let q = λ (m : ℕ). not (is_done h m) in
    let a = and_parts (has (filter q (issues h ++ n ∷ [])) k) (p k) (sym (has_filter p (filter q (issues h ++ n ∷ [])) k) ∙ e) in
    let b = and_parts (has (issues h ++ n ∷ []) k) (q k) (sym (has_filter q (issues h ++ n ∷ []) k) ∙ a.0) in
    elim (or_cases (has (issues h) k) (n == k) (sym (has_push (issues h) n k) ∙ b.0)) [
      | inl before ↦ let flies : has (in_flight h) k ≡ true = has_filter q (issues h) k ∙ and_from (has (issues h) k) (q k) before b.1 in
          inr (has_filter p (in_flight h) k ∙ and_from (has (in_flight h) k) (p k) flies a.1)
      | inr now ↦ inl (eqb-true n k now)
    ]

-- A number of a list without another is one of the list.
of_fewer : (m : ℕ) (xs ys : List ℕ) (k : ℕ) → ys ≡ filter (λ (j : ℕ). not (j == m)) xs → has ys k ≡ true → has xs k ≡ true
of_fewer m xs ys k is e =
    (and_parts (has xs k) (not (k == m)) (sym (ap (λ l. has l k) is ∙ has_filter (λ (j : ℕ). not (j == m)) xs k) ∙ e)).0

-- A write that is open behind an end was open before.
ended_was_open : (end : WriteEnd) (m : ℕ) (h : List window.Event) (k : ℕ) → has (open_writes (with_end end m h)) k ≡ true → has (open_writes h) k ≡ true
ended_was_open ends.Done m h k e = of_fewer m (open_writes h) (open_writes (window.done m ∷ h)) k (open_writes-done m h) e
ended_was_open ends.Failed m h k e = of_fewer m (open_writes h) (open_writes (window.fail m ∷ h)) k (open_writes-fail m h) e

told_was_open : (x : Result (Unit {0}) Fault) (end : WriteEnd) (m : ℕ) (h : List window.Event) (k : ℕ) → has (open_writes (with_ticket x end m h)) k ≡ true
    → has (open_writes h) k ≡ true
told_was_open (Ok u) end m h k e = ended_was_open end m h k e
told_was_open (Err fault) end m h k e = e

-- ---- the ticket that is given

not_first : (b : Bool) (x y : Issued) (t : Ticket) → (x ≡ Write t → ⊥) → (if b then x else y) ≡ Write t → y ≡ Write t
not_first true x y t none is = absurd (none is)
not_first false x y t none is = is

same_ticket : (t u : Ticket) → Write t ≡ Write u → t ≡ u
same_ticket t u h = cc

-- A write that is given is the next one.
pub is_next : (origin : Origin) (stopped failed : Bool) (next : ℕ) (writes : List ℕ) (t : Ticket) → answer_by origin stopped failed next writes ≡ Write t
    → t ≡ ticket_of origin next
is_next origin stopped failed next writes t is =
    let a = not_first (stopped || failed) issuing.Stopped _ t (λ e. cc) is in
    let b = not_first (nat_le origin.job.total next) issuing.Finished _ t (λ e. cc) a in
    let c = not_first (nat_le origin.job.depth (length writes)) issuing.Full _ t (λ e. cc) b in
    let d = not_first (is_held origin.job.window next writes) issuing.Held _ t (λ e. cc) c in
    let f = not_first (any_goes_to origin.job (block_of origin.job next) writes) issuing.Overlap _ t (λ e. cc) d in
    sym (same_ticket (ticket_of origin next) t f)

-- It is given with the ticket of its number.
pub of_origin : (origin : Origin) (stopped failed : Bool) (next : ℕ) (writes : List ℕ) (t : Ticket) → answer_by origin stopped failed next writes ≡ Write t
    → t ≡ ticket_of origin t.seq
of_origin origin stopped failed next writes t is =
    let same = is_next origin stopped failed next writes t is in
    same ∙ ap (ticket_of origin) (ap (λ (u : Ticket). u.seq) (sym same))

-- ---- one more request

-- A request for a write of the job is answered with write k.
pub record IsNew (origin : Origin) (stopped : Bool) (x : Request) (h : List window.Event) (k : ℕ) : Type 0 where
  pub asks : x ≡ ToIssue origin.key.job
  pub gives : answer_to origin stopped h ≡ Write (ticket_of origin k)

issue_opens : (origin : Origin) (stopped : Bool) (job : ℕ) (h : List window.Event) (k : ℕ) (b : Bool) (a : Issued) → (b ≡ true → job ≡ origin.key.job)
    → answer_to origin stopped h ≡ a → has (open_writes (if b then with_issue a h else h)) k ≡ true
    → (has (open_writes h) k ≡ true) ⊎ IsNew origin stopped (ToIssue job) h k
issue_opens origin stopped job h k false a this is e = inl e
issue_opens origin stopped job h k true (Write t) this is e = elim (issued_or_open t.seq h k e) [
  | inl now ↦ let ticket : t ≡ ticket_of origin k =
      of_origin origin stopped (has_failed h) (issued h) (in_flight h) t is ∙ ap (ticket_of origin) now in
      inr (record { asks = ap ToIssue (this refl); gives = is ∙ ap Write ticket })
  | inr before ↦ inl before
]
issue_opens origin stopped job h k true issuing.Full this is e = inl e
issue_opens origin stopped job h k true issuing.Held this is e = inl e
issue_opens origin stopped job h k true issuing.Overlap this is e = inl e
issue_opens origin stopped job h k true issuing.Finished this is e = inl e
issue_opens origin stopped job h k true issuing.Stopped this is e = inl e

-- A write that is open behind a request was open before it, or is new with it.
request_opens : (origin : Origin) (stopped : Bool) (x : Request) (h : List window.Event) (k : ℕ) → has (open_writes (with_request origin stopped x h)) k ≡ true
    → (has (open_writes h) k ≡ true) ⊎ IsNew origin stopped x h k
request_opens origin stopped (ToIssue job) h k e =
    issue_opens origin stopped job h k (job == origin.key.job) (answer_to origin stopped h) (eqb-true job origin.key.job) refl e
request_opens origin stopped (ToEnd ticket end) h k e = inl (told_was_open (ticket_answer origin (open_writes h) ticket) end ticket.seq h k e)
request_opens origin stopped (ToStage r text) h k e = inl e
request_opens origin stopped (ToStart r) h k e = inl e
request_opens origin stopped (ToTrigger r act) h k e = inl e
request_opens origin stopped (ToMark r j) h k e = inl e
request_opens origin stopped (ToStop r) h k e = inl e
request_opens origin stopped (ToVerify r a text) h k e = inl e
request_opens origin stopped (ToHold a state) h k e = inl e
request_opens origin stopped (ToPassFully a j) h k e = inl e
request_opens origin stopped (ToReport b a j report) h k e = inl e
request_opens origin stopped ToNobody h k e = inl e

-- ---- one more entry

-- The job of an open write, in its run.
pub record Opened (now : Option Work) (j : ℕ) (origin : Origin) : Type 0 where
  pub at : Work
  pub is : now ≡ Some at
  pub job : Job
  pub has_job : slice_get at.jobs j ≡ Some job
  pub origin_is : origin ≡ origin_of at j job

-- The same, and the write was open before, or is new with a request.
pub record FromRun (x : Request) (now : Option Work) (j k : ℕ) (origin : Origin) : Type 0 where
  pub of : Opened now j origin
  pub how : (open_origin now j k ≡ Some origin) ⊎ IsNew origin (is_halted of.at) x (history origin of.at.since) k

same_origin : (x y : Origin) → Some x ≡ Some y → x ≡ y
same_origin x y h = cc

opened_job : (w : Work) (j k : ℕ) (origin : Origin) (x : Option Job) → slice_get w.jobs j ≡ x → open_origin_of w j k x ≡ Some origin → Opened (Some w) j origin
opened_job w j k origin None is h = absurd cc
opened_job w j k origin (Some job) is h = by (has (open_writes (history (origin_of w j job) w.since)) k) h
  where
    by : (b : Bool) → (if b then Some (origin_of w j job) else None) ≡ Some origin → Opened (Some w) j origin
    by true e = record { at = w; is = refl; job = job; has_job = is; origin_is = sym (same_origin (origin_of w j job) origin e) }
    by false e = absurd cc

pub opened : (now : Option Work) (j k : ℕ) (origin : Origin) → open_origin now j k ≡ Some origin → Opened now j origin
opened None j k origin h = absurd cc
opened (Some w) j k origin h = opened_job w j k origin (slice_get w.jobs j) refl h

still_open : (w : Work) (j k : ℕ) (job : Job) → slice_get w.jobs j ≡ Some job → has (open_writes (history (origin_of w j job) w.since)) k ≡ true
    → open_origin (Some w) j k ≡ Some (origin_of w j job)
still_open w j k job is e =
    ap (open_origin_of w j k) is ∙ ap (λ b. if b then Some (origin_of w j job) else None) e

from_job : (x : Request) (w : Work) (j k : ℕ) (origin : Origin) (found : Option Job) → slice_get w.jobs j ≡ found
    → open_origin_of (record w { since = x ∷ w.since }) j k found ≡ Some origin → FromRun x (Some w) j k origin
from_job x w j k origin None is h = absurd cc
from_job x w j k origin (Some job) is h = by (has (open_writes (history (origin_of w j job) (x ∷ w.since))) k) refl h
  where
    from : Origin
    from = origin_of w j job

    made : (o : Origin) → from ≡ o → (has (open_writes (history from w.since)) k ≡ true) ⊎ IsNew from (is_halted w) x (history from w.since) k
        → FromRun x (Some w) j k o
    made o same (inl before) =
        record {
          of = record { at = w; is = refl; job = job; has_job = is; origin_is = sym same };
          how = inl (still_open w j k job is before ∙ ap Some same);
        }
    made o same (inr new) =
        record {
          of = record { at = w; is = refl; job = job; has_job = is; origin_is = sym same };
          how = inr (subst (λ (z : Origin). IsNew z (is_halted w) x (history z w.since) k) same new);
        }

    by : (b : Bool) → has (open_writes (history from (x ∷ w.since))) k ≡ b → (if b then Some from else None) ≡ Some origin → FromRun x (Some w) j k origin
    by true e same = made origin (same_origin from origin same) (request_opens from (is_halted w) x (history from w.since) k e)
    by false e same = absurd cc

from_run : (x : Request) (now : Option Work) (j k : ℕ) (origin : Origin) → open_origin (goes_on x now) j k ≡ Some origin → FromRun x now j k origin
from_run x None j k origin h = absurd cc
from_run x (Some w) j k origin h = from_job x w j k origin (slice_get w.jobs j) refl h

-- In a run that begins nothing is open.
none_at_first : (w : Work) (j k : ℕ) (origin : Origin) (found : Option Job) → w.since ≡ [] → open_origin_of w j k found ≡ Some origin → ⊥
none_at_first w j k origin None new h = absurd cc
none_at_first w j k origin (Some job) new h =
    let no : (if has (open_writes (history (origin_of w j job) w.since)) k then Some (origin_of w j job) else None) ≡ None =
    ap (λ l. if has (open_writes (history (origin_of w j job) l)) k then Some (origin_of w j job) else None) new in
    let both : None ≡ Some origin = sym no ∙ h in
    absurd cc

pub from_met : (left : SaveOutcome) (d : Option Staged) (me now_boot : ℕ) (x : Request) (now : Option Work) (j k : ℕ) (origin : Origin)
    → open_origin (work_after left d me now_boot x now) j k ≡ Some origin → FromRun x now j k origin
from_met NoSave d me now_boot x now j k origin h = from_run x now j k origin h
from_met Saved None me now_boot x now j k origin h = from_run x now j k origin h
from_met Saved (Some s) me now_boot x now j k origin h =
    absurd (none_at_first (record { server = me; boot = now_boot; run = s.run; jobs = s.jobs; since = [] }) j k origin (slice_get s.jobs j) refl h)
from_met LostNew d me now_boot x now j k origin h = absurd cc
from_met LostOld d me now_boot x now j k origin h = absurd cc

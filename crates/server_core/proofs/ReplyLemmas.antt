-- The packets that a server sends are within the ranges of packets, where what came is within its.
use Rattle.std.proofs.Common.{◌≡◌, refl, ℕ, ◌^◌, ◌<◌, Bool, true, false, ◌&&◌, ◌==◌, List, [], ◌∷◌, Option, None, Some}
use Rattle.std.specs.Prelude.{if◌then◌else◌, ◌||◌, nat_lt, nat_le, max}
use Rattle.std.specs.List.{AllByRecursion}
use Rattle.std.proofs.lemmas.Bool.{lt-ltb}
use Rattle.fc_base.specs.declared.limits.TheConstants.{MAX_SERVERS}
use Rattle.fc_base.specs.declared.fault.Fault.{Fault}
use Rattle.fc_base.specs.declared.fault.Fault.TheVariants as base
use Rattle.job_file.specs.declared.job.Phase.TheVariants.{Write}
use Rattle.messages.specs.declared.body.Body.{Body}
use Rattle.messages.specs.declared.refusal.RefusedRequest.TheVariants as asks
use Rattle.messages.specs.declared.refusal.Reason.TheVariants as reasons
use Rattle.messages.specs.Ranges.{is_body}
use Rattle.messages.specs.Laws.{IsPacket}
use Rattle.disk_model.specs.SaveOutcome.{is_lost}
use Rattle.server_core.specs.History.{Met, Cut, Restart}
use Rattle.server_core.specs.Request.{Request, ToStage, ToStart, ToTrigger, ToMark, ToStop, ToVerify}
use Rattle.server_core.specs.Request.{ToHold, ToPassFully, ToIssue, ToEnd, ToReport, ToNobody, request_of}
use Rattle.server_core.specs.Texts.{jobs_for}
use Rattle.server_core.specs.Run.{is_open}
use Rattle.server_core.specs.Words.{for_run, is_on, boot, last_run, work}
use Rattle.server_core.specs.Check.{progress_in}
use Rattle.server_core.specs.Replies.{Now, number_staged, present, replies}
use Rattle.server_core.specs.Answers.{now, is_ready, is_open_attempt as is_attempt_of, refusal_of, refusal, to_client, sent_by}
use Rattle.server_core.specs.Laws.{PacketsAreInRange}
use Rattle.server_core.proofs.WorkLemmas as works
use Rattle.server_core.proofs.SetLemmas.{SomeStaged, for_run_fits, staged_fits}
use Rattle.server_core.proofs.RangeLemmas.{text_fits, RequestFits, asked_fits, InRun, InAttempt, kept_in_range, last_below}
use Rattle.server_core.proofs.BodyLemmas.{Below, SomeRun, run_of, SomeCheck, Fit, fit_if, word, refuse_fits}
use Rattle.server_core.proofs.RunReplyLemmas.{new_jobs_reply, staged_below, greater_below, start_reply, trigger_reply, stop_reply}
use Rattle.server_core.proofs.CheckReplyLemmas.{attempt_reply, state_reply, there_is, report_reply}

record NowFits (n : Now) : Type 0 where
  pub last : n.last < 2 ^ 64
  pub staged : SomeStaged InRun n.staged
  pub run : SomeRun n.run
  pub check_is : SomeCheck n.check

replies_fit : Below → (n : Now) (x : Request) → refusal_of n x ≡ None → RequestFits x → NowFits n → Fit (replies n x)
replies_fit below n (ToStage r text) f h k =
    fit_if (nat_le r n.last || nat_lt r (number_staged n.staged)) _ _
    (refuse_fits asks.Jobs reasons.Old r 0 (max n.last (number_staged n.staged)) h
    (word _ (greater_below n.last (number_staged n.staged) k.last (staged_below n.staged k.staged))) refl refl)
    (new_jobs_reply r (for_run r n.staged) (is_open n.run) (jobs_for Write text) h (for_run_fits InRun r n.staged k.staged) (text_fits below.texts Write text))
replies_fit below n (ToStart r) f h k = start_reply n r (present r n.run) h k.last
replies_fit below n (ToTrigger r act) f h k = trigger_reply below n r n.run h k.run k.last
replies_fit below n (ToMark r j) f h k = tt
replies_fit below n (ToStop r) f h k = stop_reply n r (present r n.run) h k.last
replies_fit below n (ToVerify r a text) f h k =
    fit_if (nat_lt n.last r) _ _ (refuse_fits asks.Verify reasons.Unknown r a n.last h.0 (word n.last k.last) refl h.1)
    (fit_if (nat_lt r n.last) _ _ (refuse_fits asks.Verify reasons.Overwritten r a n.last h.0 (word n.last k.last) refl h.1)
    (attempt_reply below n r a text n.check h.0 h.1 k.check_is))
replies_fit below n (ToHold a state) f h k = state_reply a state n.check k.check_is
replies_fit below n (ToPassFully a j) f h k = tt
replies_fit below n (ToIssue j) f h k = tt
replies_fit below n (ToEnd ticket end) f h k = tt
replies_fit below n (ToReport b a j report) f h k =
    report_reply a j report n.check (there_is (b == n.boot) (is_attempt_of a n.check && is_ready (progress_in n.check j)) f) h k.check_is
replies_fit below n ToNobody f h k = tt

sent_fit : (lost : Bool) (f : Option Fault) (bs : List Body) → (f ≡ None → Fit bs) → Fit (sent_by lost f bs)
sent_fit true None bs h = tt
sent_fit false None bs h = h refl
sent_fit true (Some f) bs h = tt
sent_fit false (Some f) bs h = tt

while_on : (on : Bool) (f : Option Fault) → (if on then f else Some base.Down) ≡ None → f ≡ None
while_on true f h = h
while_on false f h = cc

carried : (me : ℕ) (bs : List Body) → me < MAX_SERVERS → Fit bs → AllByRecursion IsPacket (to_client me bs)
carried me [] l h = tt
carried me (b ∷ bs) l h =
    let b_is : is_body b ≡ true = h.0.0 in
    let t : nat_lt me MAX_SERVERS ≡ true = lt-ltb me MAX_SERVERS l in
    (record { in_range = rw (t, b_is) refl; state = h.0.1 }, carried me bs l h.1)

pub packets_are_in_range : Below → PacketsAreInRange
packets_are_in_range below o past (Met e left) i h =
    let k = kept_in_range below.texts o past h.1 in
    let x = request_of o.me e in
    carried o.me (sent_by (is_lost left) (refusal o past e) (replies (now o past) x)) i.me
    (sent_fit (is_lost left) (refusal o past e) (replies (now o past) x)
    (λ f. replies_fit below (now o past) x (while_on (is_on past) (refusal_of (now o past) x) f) (asked_fits o.me e h.0)
    (record {
      last = last_below below.texts o past i h.1;
      staged = staged_fits RequestFits InRun InAttempt o past k;
      run = run_of o.me (boot o past) (last_run o past) (work o past) i.me k.run (works.work_of o past);
      check_is = k.check_is;
    })))
packets_are_in_range below o past Cut i h = tt
packets_are_in_range below o past (Restart left) i h = tt

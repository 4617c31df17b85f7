-- A check that is told a report has sent it.
use Rattle.std.proofs.Common.{◌≡◌, refl, sym, ◌∙◌, ap, subst, ℕ, true, false, List, [], length, Option, Some, None, Result, Ok}
use Rattle.std.specs.Prelude.{◌≤◌, is_ok, slice_get, Contains}
use Rattle.fc_base.specs.declared.fault.Fault.{Fault}
use Rattle.fc_base.specs.declared.limits.TheConstants.{MAX_SERVERS}
use Rattle.fc_base.specs.declared.report.ReportParts.{ReportParts}
use Rattle.fc_base.proofs.ListLemmas.{first_of}
use Rattle.disk_model.specs.declared.save_outcome.SaveOutcome.{SaveOutcome}
use Rattle.disk_model.specs.SaveOutcome.{is_lost, saved_for}
use Rattle.messages.specs.declared.body.Body.TheVariants as bodies
use Rattle.messages.specs.Hearing.{Happens}
use Rattle.server_core.specs.declared.input.Input.TheVariants as inputs
use Rattle.server_core.specs.History as server
use Rattle.server_core.specs.Words.{Staged, due}
use Rattle.server_core.specs.Check.{Check, check}
use Rattle.server_core.specs.Replies.{reply_to_report}
use Rattle.server_core.specs.Answers.{refusal}
use Rattle.net_world.specs.declared.told.Told.{Told}
use Rattle.net_world.specs.declared.told.WorldAnswer.TheVariants.{Checked}
use Rattle.net_world.specs.Setup.{Setup}
use Rattle.net_world.specs.Happenings as happenings
use Rattle.net_world.specs.Happenings.{Happening}
use Rattle.net_world.specs.Trace.{opening_of}
use Rattle.net_world.specs.Frames.{OfServer, frames_sent}
use Rattle.net_world.specs.Changes.{Met, steps, trace}
use Rattle.net_world.specs.Contents.{content}
use Rattle.net_world.specs.Checks.{report_for, check_end, end_of_check_in, end_of_check}
use Rattle.net_world.specs.Barred.{barring_fault}
use Rattle.net_world.specs.Outcomes.{Does, outcome_of_step, unless_fault, unless_barred, end_of_check_met, outcome}
use Rattle.net_world.specs.World.{world, report_in, told_by, told_of_happening}
use Rattle.net_world.proofs.TagLemmas.{Long, OfJobs, OfVerify}
use Rattle.seen.specs.Sightings.{IsAmong, from_server}
use Rattle.seen.specs.Watching.{observation}
use Rattle.seen.proofs.ServerLemmas.{sends}
use Rattle.seen.proofs.PlaceLemmas.{list_at}
use Rattle.seen.proofs.FrameLemmas.{seen_here}
use Rattle.seen.proofs.DoneLemmas.{ok_by}
use Rattle.seen.proofs.QuietLemmas.{TakingLaws, short_packet, told_answer}

-- The end of the check of a job, which its server has met.
pub record Ends (w : Setup) (s : ℕ) (evs : List Happening) (j : ℕ) (c : Check) (r : ReportParts) : Type 0 where
  pub left : SaveOutcome
  pub kept : is_lost left ≡ false
  pub free : refusal (opening_of s) (list_at w s evs) (inputs.CheckDone c.boot c.attempt j r) ≡ None
  pub does :
      outcome w (world w evs) (happenings.Check s j)
      ≡ Does (Met (OfServer s (Happens (server.Met (inputs.CheckDone c.boot c.attempt j r) left))))

not_lost : (x : Option Staged) → is_lost (saved_for x) ≡ false
not_lost None = refl
not_lost (Some d) = refl

ends_if : (w : Setup) (s : ℕ) (evs : List Happening) (j : ℕ) (c : Check) (r : ReportParts) (x : Option Fault) (left : SaveOutcome) → is_lost left ≡ false
    → refusal (opening_of s) (list_at w s evs) (inputs.CheckDone c.boot c.attempt j r) ≡ x
    → outcome w (world w evs) (happenings.Check s j)
    ≡ outcome_of_step (unless_fault x (Ok (OfServer s (Happens (server.Met (inputs.CheckDone c.boot c.attempt j r) left)))))
    → is_ok (told_by w (world w evs) (happenings.Check s j)
    (outcome_of_step (unless_fault x (Ok (OfServer s (Happens (server.Met (inputs.CheckDone c.boot c.attempt j r) left)))))))
    ≡ true
    → Ends w s evs j c r
ends_if w s evs j c r None left kept free is h = record { left = left; kept = kept; free = free; does = is }
ends_if w s evs j c r (Some fault) left kept free is h = absurd cc

pub same_report : (a b : ReportParts) → Checked a ≡ Checked b → a ≡ b
same_report a b h = cc

ends_by : (w : Setup) (s : ℕ) (evs : List Happening) (j : ℕ) (c : Check) (r : ReportParts) (x : Option ReportParts)
    → outcome w (world w evs) (happenings.Check s j) ≡ outcome_of_step (end_of_check_met (trace w (world w evs)) s (check_end c j x))
    → is_ok (told_by w (world w evs) (happenings.Check s j) (outcome_of_step (end_of_check_met (trace w (world w evs)) s (check_end c j x)))) ≡ true
    → report_in (check_end c j x) ≡ Checked r → Ends w s evs j c r
ends_by w s evs j c r None is ok h = absurd cc
ends_by w s evs j c r (Some q) is ok h =
    let o = opening_of s in
    let list = list_at w s evs in
    let y = inputs.CheckDone c.boot c.attempt j q in
    let e = ends_if w s evs j c q (refusal o list y) (saved_for (due o list y)) (not_lost (due o list y)) refl is ok in
    subst (Ends w s evs j c) (same_report q r h) e

ends_so : (w : Setup) (s : ℕ) (evs : List Happening) (j : ℕ) (c : Check) (r : ReportParts) (x : Option Check) → x ≡ Some c
    → outcome w (world w evs) (happenings.Check s j)
    ≡ outcome_of_step (end_of_check_met (trace w (world w evs)) s (end_of_check_in x j (content w (world w evs) s j)))
    → is_ok (told_by w (world w evs) (happenings.Check s j)
    (outcome_of_step (end_of_check_met (trace w (world w evs)) s (end_of_check_in x j (content w (world w evs) s j)))))
    ≡ true
    → report_in (end_of_check_in x j (content w (world w evs) s j)) ≡ Checked r → Ends w s evs j c r
ends_so w s evs j c r None h is ok told = absurd cc
ends_so w s evs j c r (Some b) h is ok told =
    let same : b ≡ c = cc in
    subst (λ (x : Check). Ends w s evs j x r) same
    (ends_by w s evs j b r (report_for b j (slice_get b.jobs j) (content w (world w evs) s j)) is ok told)

ok_of : (x : Result Told Fault) (t : Told) → x ≡ Ok t → is_ok x ≡ true
ok_of x t h = ap is_ok h

-- A check that is told a report was met by its server.
pub ends : (w : Setup) (s : ℕ) (evs : List Happening) (j : ℕ) (c : Check) (t : Told) (r : ReportParts)
    → check (opening_of s) (list_at w s evs) ≡ Some c → told_of_happening w (world w evs) (happenings.Check s j) ≡ Ok t → t.answer ≡ Checked r
    → Ends w s evs j c r
ends w s evs j c t r is_open told answer =
    let past = world w evs in
    let e = happenings.Check s j in
    let x = barring_fault w (trace w past) (frames_sent w (steps past)) e in
    let inner = outcome_of_step (end_of_check_met (trace w past) s (end_of_check w past s j)) in
    let ok = ok_by w past e x inner (ok_of (told_of_happening w past e) t told) in
    ends_so w s evs j c r (check (opening_of s) (list_at w s evs)) is_open (ap (λ y. unless_barred y inner) ok.0) ok.1
    (sym (told_answer w past e (outcome w past e) t told) ∙ answer)

not_jobs : (run a j jobs : ℕ) (r : ReportParts) → Long (bodies.Report run a j jobs r) → ⊥
not_jobs run a j jobs r (OfJobs q text k) = cc
not_jobs run a j jobs r (OfVerify q attempt text k) = cc

-- The report is seen.
pub report_seen : TakingLaws → (w : Setup) (s : ℕ) (evs : List Happening) (j : ℕ) (c : Check) (r : ReportParts) → w.servers ≤ MAX_SERVERS
    → check (opening_of s) (list_at w s evs) ≡ Some c → Ends w s evs j c r
    → IsAmong (observation w evs (happenings.Check s j)).frames (from_server s (bodies.Report c.run c.attempt j (length c.jobs) r))
report_seen laws w s evs j c r few is_open e =
    let o = opening_of s in
    let list = list_at w s evs in
    let x = inputs.CheckDone c.boot c.attempt j r in
    let y = server.Met x e.left in
    let b = bodies.Report c.run c.attempt j (length c.jobs) r in
    let replied : Contains (reply_to_report j r (check o list)) b =
    subst (λ z. Contains (reply_to_report j r z) b) (sym is_open) (first_of b []) in
    let i = sends o list x e.left b e.free e.kept replied in
    let short = short_packet laws w s evs (happenings.Check s j) (Happens y) y (from_server s b) few e.does refl i (not_jobs c.run c.attempt j (length c.jobs) r) in
    seen_here laws.frames w s evs (happenings.Check s j) (Happens y) y (from_server s b) few e.does refl short i

-- Each Report that is sent is of a check that was told it.
use Rattle.std.proofs.Common.{◌≡◌, refl, sym, ◌∙◌, ap, subst, ℕ, List, ◌∷◌, ◌++◌, Some, Ok}
use Rattle.std.specs.Prelude.{◌≤◌}
use Rattle.std.proofs.lemmas.List.Elements.{Contains-append_right}
use Rattle.fc_base.specs.declared.limits.TheConstants.{MAX_SERVERS}
use Rattle.fc_base.specs.declared.report.ReportParts.{ReportParts}
use Rattle.disk_model.specs.declared.save_outcome.SaveOutcome.{SaveOutcome}
use Rattle.messages.specs.declared.body.Body.TheVariants as bodies
use Rattle.messages.specs.declared.node.Node.TheVariants.{Server}
use Rattle.messages.specs.declared.frame.Frame.TheVariants.{Whole}
use Rattle.server_core.specs.Inputs.{PacketInput}
use Rattle.server_core.specs.declared.input.Input.TheVariants as inputs
use Rattle.server_core.specs.History as server
use Rattle.server_core.specs.Check.{Check, check}
use Rattle.server_core.specs.Made.{WasMade}
use Rattle.net_world.specs.declared.told.Told.{Told}
use Rattle.net_world.specs.declared.told.WorldAnswer.TheVariants.{Checked}
use Rattle.net_world.specs.Setup.{Setup}
use Rattle.net_world.specs.Happenings as happenings
use Rattle.net_world.specs.Happenings.{Happening}
use Rattle.net_world.specs.Trace.{opening_of}
use Rattle.net_world.specs.Changes.{Change, steps, trace}
use Rattle.net_world.specs.Outcomes.{Outcome, Does, outcome}
use Rattle.net_world.specs.World.{world, report_in, answer, told_by, told_of_happening}
use Rattle.net_world.specs.Reported.{SentReportsWereMade}
use Rattle.net_world.specs.Claims.{OfEachTrace}
use Rattle.net_world.proofs.OnlySentLemmas.{frame_is}
use Rattle.seen.specs.Observations.{frames_in}
use Rattle.seen.specs.Sightings.{IsAmong, from_server}
use Rattle.seen.specs.Reports.{WasTold}
use Rattle.seen.specs.Claims.{EachReportWasTold}
use Rattle.seen.specs.Watching.{observation, observations, OfAllThatIsSeen}
use Rattle.seen.proofs.PlaceLemmas.{list_at, found, seen_in, seen_since, seen_append}
use Rattle.seen.proofs.FrameLemmas.{sent_at, frames_are, read_among}
use Rattle.seen.proofs.DoneLemmas.{same_event}
use Rattle.seen.proofs.EntryLemmas.{Makes, ByFrame, ByLoss, ByWorker, ByEnd, ByCheck, ByCut, ByRestart}
use Rattle.seen.proofs.MakeLemmas.{makes}
use Rattle.seen.proofs.ReportLemmas.{ReportLaws, exact_here}

-- ---- the end of a check comes of a check, which is told its report

-- A check was told this.
record Tells (w : Setup) (past : List Change) (s j : ℕ) (e : Happening) (report : ReportParts) : Type 0 where
  pub event : e ≡ happenings.Check s j
  pub told : Told
  pub answered : told_of_happening w past (happenings.Check s j) ≡ Ok told
  pub answer : told.answer ≡ Checked report

-- What is told with a change.
told_with : (w : Setup) (past : List Change) (e : Happening) (c : Change) → outcome w past e ≡ Does c
    → (t : Told) × (told_of_happening w past e ≡ Ok t) × (t.answer ≡ answer w past e)
told_with w past e c does = by (outcome w past e) does
  where
    by : (r : Outcome) → r ≡ Does c → (t : Told) × (told_by w past e r ≡ Ok t) × (t.answer ≡ answer w past e)
    by (Does change) h = (_, refl, refl)
    by _ h = absurd cc

same_end : (b a i : ℕ) (q : ReportParts) (c d j : ℕ) (r : ReportParts) → ◌≡◌ {A = PacketInput} (inputs.CheckDone b a i q) (inputs.CheckDone c d j r)
    → (i ≡ j) × (q ≡ r)
same_end b a i q c d j r h = (cc, cc)

tells : (w : Setup) (past : List Change) (s : ℕ) (e : Happening) (boot a j : ℕ) (report : ReportParts) (left : SaveOutcome)
    → Makes w past s e (outcome w past e) (server.Met (inputs.CheckDone boot a j report) left) → Tells w past s j e report
tells w past s e boot a j report left (ByFrame i f p l event there to says free saved is does) = absurd cc
tells w past s e boot a j report left (ByLoss x l is lost d due_is) =
    let same = same_event (inputs.CheckDone boot a j report) x left l is in
    absurd cc
tells w past s e boot a j report left (ByWorker i l event saved is c does) = absurd cc
tells w past s e boot a j report left (ByEnd end i k origin l event there free saved is c does) = absurd cc
tells w past s e boot a j report left (ByCheck b n i q l event end saved is c does) =
    let same = same_end b n i q boot a j report (sym (same_event (inputs.CheckDone boot a j report) (inputs.CheckDone b n i q) left l is)) in
    let t = told_with w past (happenings.Check s i) c (ap (outcome w past) (sym event) ∙ does) in
    let event' : e ≡ happenings.Check s j = event ∙ ap (happenings.Check s) same.0 in
    record {
      event = event';
      told = t.0;
      answered = ap (λ n. told_of_happening w past (happenings.Check s n)) (sym same.0) ∙ t.1;
      answer = t.2 ∙ ap report_in end ∙ ap Checked same.1;
    }
tells w past s e boot a j report left (ByCut is) = absurd cc
tells w past s e boot a j report left (ByRestart l is) = absurd cc

-- ---- a Report that is sent

one_check : (a b : Check) → Some a ≡ Some b → a ≡ b
one_check a b h = cc

same_server : (s n : ℕ) → Server s ≡ Server n → s ≡ n
same_server s n h = cc

-- A check that was done by then was told its report.
told_of : ReportLaws → (w : Setup) (s : ℕ) (evs : List Happening) (run a j : ℕ) (r : ReportParts) → w.servers ≤ MAX_SERVERS
    → WasMade (opening_of s) (list_at w s evs) run a j r → WasTold (observations w evs) s run a j r
told_of laws w s evs run a j r few m =
    let x = inputs.CheckDone m.boot a j r in
    let at = found w s evs m.newer x m.left m.older m.split in
    let past = world w at.earlier in
    let t = tells w past s at.event m.boot a j r m.left (makes w past s at.event (server.Met x m.left) at.now) in
    let is = exact_here laws w at.earlier s j t.told r few t.answered t.answer in
    let open_there : check (opening_of s) (list_at w s at.earlier) ≡ Some m.now = ap (check (opening_of s)) at.before ∙ m.is_open in
    let same : is.now ≡ m.now = one_check is.now m.now (sym is.is_open ∙ open_there) in
    let seen : observations w evs ≡ seen_since w at.later (happenings.Check s j ∷ at.earlier) ++ observations w (happenings.Check s j ∷ at.earlier) =
    ap (observations w) at.split ∙ ap (λ e. observations w (at.later ++ e ∷ at.earlier)) t.event ∙ seen_append w at.later (happenings.Check s j ∷ at.earlier) in
    record {
      newer = seen_since w at.later (happenings.Check s j ∷ at.earlier);
      checked = observation w at.earlier (happenings.Check s j);
      older = observations w at.earlier;
      split = seen;
      event = refl;
      told = t.told;
      answered = t.answered;
      answer = t.answer;
      exact = is.exact;
      of_run = is.run_is ∙ ap (λ (c : Check). c.run) same ∙ m.run_is;
      of_attempt = is.attempt_is ∙ ap (λ (c : Check). c.attempt) same ∙ m.attempt_is;
    }

sent_now : ReportLaws → OfEachTrace SentReportsWereMade → (w : Setup) (evs : List Happening) (s run a j jobs : ℕ) (r : ReportParts) → w.servers ≤ MAX_SERVERS
    → IsAmong (frames_in (observations w evs)) (from_server s (bodies.Report run a j jobs r)) → WasTold (observations w evs) s run a j r
sent_now laws shown w evs s run a j jobs r few there =
    let p = from_server s (bodies.Report run a j jobs r) in
    let seen = laws.files.taking.seen in
    let t = trace w (world w evs) in
    let i = read_among seen.read w evs few (sent_at w evs) (λ f k. k) p (subst (λ fs. IsAmong fs p) (frames_are w evs) there) in
    let k = shown w t (seen.traces w evs few) p run a j jobs r (frame_is seen.frames w (steps (world w evs)) (Whole p) i) refl in
    told_of laws w s evs run a j r few
    (subst (λ n. WasMade (opening_of n) (list_at w n evs) run a j r) (sym (same_server s k.0 k.1)) (k.2).done)

pub each_report_was_told : ReportLaws → OfEachTrace SentReportsWereMade → OfAllThatIsSeen EachReportWasTold
each_report_was_told laws shown w events few newer older o s run a j jobs r split among =
    let k = seen_in w events newer o older split in
    let evs = k.event ∷ k.earlier in
    let seen : observations w evs ≡ o ∷ older = ap (λ x. x ∷ observations w k.earlier) k.here ∙ ap (λ l. o ∷ l) k.before in
    let there : IsAmong (frames_in (o ∷ older)) (from_server s (bodies.Report run a j jobs r)) =
    record { bytes = among.bytes; there = Contains-append_right (frames_in older) o.frames among.bytes among.there; says = among.says } in
    subst (λ l. WasTold l s run a j r) seen
    (sent_now laws shown w evs s run a j jobs r few (subst (λ l. IsAmong (frames_in l) (from_server s (bodies.Report run a j jobs r))) (sym seen) there))

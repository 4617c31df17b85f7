-- The report that a check is told is seen to be exact.
use Rattle.std.proofs.Common.{◌≡◌, refl, sym, ◌∙◌, ap, subst, inl, inr, ℕ, List, length, Option, Some, None, Ok}
use Rattle.std.specs.Prelude.{◌≤◌, slice_get}
use Rattle.fc_base.specs.declared.limits.TheConstants.{MAX_SERVERS}
use Rattle.fc_base.specs.declared.numbers.Key.{Key}
use Rattle.fc_base.specs.declared.report.ReportParts.{ReportParts}
use Rattle.job_file.specs.declared.job.Job.{Job}
use Rattle.job_file.specs.declared.job.Phase.TheVariants.{Read}
use Rattle.verify_state.specs.State.{State}
use Rattle.verify_state.specs.Misfit.{misfit}
use Rattle.messages.specs.declared.packet.PacketParts.{PacketParts}
use Rattle.messages.specs.declared.body.Body.TheVariants as bodies
use Rattle.server_core.specs.History as server
use Rattle.server_core.specs.History.{Entry}
use Rattle.server_core.specs.Request.{ToVerify, ToHold, ToPassFully}
use Rattle.server_core.specs.Check.{Check, Full, With, Progress, check, progress, progress_at, progress_in, progress_after}
use Rattle.server_core.specs.Answers.{job_of_check}
use Rattle.server_core.specs.Laws.{WithWasHeard}
use Rattle.net_world.specs.declared.told.Told.{Told}
use Rattle.net_world.specs.declared.told.WorldAnswer.TheVariants.{Checked}
use Rattle.net_world.specs.Setup.{Setup}
use Rattle.net_world.specs.Happenings as happenings
use Rattle.net_world.specs.Happenings.{Happening}
use Rattle.net_world.specs.Trace.{opening_of}
use Rattle.net_world.specs.Holders.{key_at}
use Rattle.net_world.specs.Contents.{content}
use Rattle.net_world.specs.Checks.{report_of}
use Rattle.net_world.specs.Exact as exact
use Rattle.net_world.specs.World.{world, told_of_happening}
use Rattle.net_world.specs.Claims.{OfEachWorld}
use Rattle.net_world.specs.Headline.{ExactReports, FewFaults, NoFaults}
use Rattle.net_world.specs.Honest as honest
use Rattle.net_world.proofs.TagLemmas.{Long, OfJobs, OfVerify}
use Rattle.seen.specs.Observations.{Observation}
use Rattle.seen.specs.Sightings.{to_server}
use Rattle.seen.specs.Files.{held}
use Rattle.seen.specs.Disks.{IsFaulty}
use Rattle.seen.specs.Reports.{IsMadeWith, IsExact}
use Rattle.seen.specs.Claims.{EachReportIsExact}
use Rattle.seen.specs.Watching.{observation, observations, OfAllThatIsSeen}
use Rattle.seen.proofs.PlaceLemmas.{list_at, seen_in}
use Rattle.seen.proofs.RequestLemmas.{asks_verify, asks_hold, asks_full}
use Rattle.seen.proofs.CheckLemmas.{check_rests, text_has}
use Rattle.seen.proofs.ProgressLemmas.{with_was_asked, full_was_asked}
use Rattle.seen.proofs.CameLemmas.{came_in, has_come}
use Rattle.seen.proofs.TextLemmas.{asked_is_seen}
use Rattle.seen.proofs.FileLemmas.{FileLaws, held_is}
use Rattle.seen.proofs.HonestLemmas.{are_honest, are_whole}
use Rattle.seen.proofs.EndLemmas.{ends, report_seen, same_report}

-- The laws on which this rests.
pub record ReportLaws : Type 0 where
  pub files : FileLaws
  pub exact : OfEachWorld ExactReports
  pub heard : WithWasHeard
  pub few : OfEachWorld FewFaults
  pub none : OfEachWorld NoFaults

-- ---- what it is made with

saved_is_short : (a : ℕ) (state : State) → Long (bodies.Saved a state) → ⊥
saved_is_short a state (OfJobs q text k) = cc
saved_is_short a state (OfVerify q attempt text k) = cc

none_is_short : (r a j : ℕ) → Long (bodies.NoSaved r a j) → ⊥
none_is_short r a j (OfJobs q text k) = cc
none_is_short r a j (OfVerify q attempt text k) = cc

progress_is : (o : server.Opening) (list : List Entry) (j : ℕ) (c : Check) (job : Job) (p : Progress) → check o list ≡ Some c → slice_get c.jobs j ≡ Some job
    → progress o list j ≡ Some p → progress_after c j job c.since ≡ p
progress_is o list j c job p is_open has h =
    let at : progress_at c j (Some job) ≡ Some p = ap (progress_at c j) (sym has) ∙ ap (λ x. progress_in x j) (sym is_open) ∙ h in
    same (progress_after c j job c.since) p at
  where
    same : (a b : Progress) → Some a ≡ Some b → a ≡ b
    same a b k = cc

one_job : (a b : Job) → Some a ≡ Some b → a ≡ b
one_job a b k = cc

fit_of : (state : State) (a b : Job) → a ≡ b → misfit state state.key a.rec ≡ None → misfit state state.key b.rec ≡ None
fit_of state a b is h = subst (λ (job : Job). misfit state state.key job.rec ≡ None) is h

make_key : ℕ → ℕ → ℕ → Key
make_key run s j = record { run = run; server = s; job = j }

made_with : ReportLaws → (w : Setup) (s : ℕ) (evs : List Happening) (j : ℕ) (c : Check) (job : Job) (x : Option State) → w.servers ≤ MAX_SERVERS
    → check (opening_of s) (list_at w s evs) ≡ Some c → slice_get c.jobs j ≡ Some job → exact.IsMadeWith s j (list_at w s evs) x
    → IsMadeWith (observations w evs) s c.run c.attempt j job x
unfolding make_key
made_with laws w s evs j c job (Some state) few is_open has made =
    let o = opening_of s in
    let list = list_at w s evs in
    let rests = check_rests o list c is_open in
    let p = progress_is o list j c job (With state) is_open has made.0 in
    let came = rests.since (ToHold c.attempt state) (with_was_asked c j job c.since state p) in
    let at = came_in laws.files.taking w s evs (ToHold c.attempt state) few refl came in
    let heard = laws.heard o list j state made.0 in
    let of = laws.files.taking.server.checks o list c is_open in (
      heard.key ∙ ap (λ r. make_key r s j) (sym of.run),
      fit_of state heard.job job (one_job heard.job job (sym heard.is_job ∙ ap (λ x. job_of_check x j) is_open ∙ has)) heard.fits,
      has_come laws.files.taking w s evs (ToHold c.attempt state) (to_server s (bodies.Saved c.attempt state)) few at
          (asks_hold s c.attempt state at.arrives_in.packet at.request) (saved_is_short c.attempt state),
    )
made_with laws w s evs j c job None few is_open has made =
    let o = opening_of s in
    let list = list_at w s evs in
    let rests = check_rests o list c is_open in
    let p = progress_is o list j c job Full is_open has made in
    elim (full_was_asked c j job c.since p) [
      | inl unloaded ↦ inl unloaded
      | inr asked ↦ let at = came_in laws.files.taking w s evs (ToPassFully c.attempt j) few refl (rests.since (ToPassFully c.attempt j) asked) in
          let q = asks_full s c.attempt j at.arrives_in.packet at.request in
          inr (
            q.0,
            has_come laws.files.taking w s evs (ToPassFully c.attempt j) (to_server s (bodies.NoSaved q.0 c.attempt j)) few at q.1
                (none_is_short q.0 c.attempt j),
          )
    ]

-- ---- what is blamed

-- A job that is checked with a state is so, as the world has it.
checked_with : (w : Setup) (s : ℕ) (evs : List Happening) (j : ℕ) (c : Check) (job : Job) (x : Option State) (state : State)
    → check (opening_of s) (list_at w s evs) ≡ Some c → slice_get c.jobs j ≡ Some job → exact.IsMadeWith s j (list_at w s evs) x → x ≡ Some state
    → honest.IsCheckedWith w (world w evs) s j c job state
checked_with w s evs j c job x state is_open has made is =
    let with_it = subst (exact.IsMadeWith s j (list_at w s evs)) is made in
    record { is_open = is_open; has_job = has; made = progress_is (opening_of s) (list_at w s evs) j c job (With state) is_open has with_it.0 }

-- A block that is seen to be faulty is so, as the world has it.
faulty : ReportLaws → (w : Setup) (s : ℕ) (evs : List Happening) (j : ℕ) (c : Check) (job : Job) (state : State) (block : ℕ) → w.servers ≤ MAX_SERVERS
    → check (opening_of s) (list_at w s evs) ≡ Some c → IsFaulty (key_at c.run s j) job state (held (observations w evs) s j) block
    → honest.IsFaulty w (world w evs) s j c job state block
faulty laws w s evs j c job state block few is_open h =
    let of = laws.files.taking.server.checks (opening_of s) (list_at w s evs) c is_open in
    subst (λ m. IsFaulty (key_at c.run m j) job state (content w (world w evs) s j) block) (sym of.server)
    (subst (λ b. IsFaulty (key_at c.run s j) job state b block) (held_is laws.files w evs s j few) h)

-- ---- the report

-- The exact report of a check, and the check that was open then.
pub record ExactOf (w : Setup) (evs : List Happening) (s j : ℕ) (r : ReportParts) : Type 0 where
  pub now : Check
  pub is_open : check (opening_of s) (list_at w s evs) ≡ Some now
  pub exact : IsExact (observations w evs) (observation w evs (happenings.Check s j)) s j r
  pub run_is : exact.run ≡ now.run
  pub attempt_is : exact.attempt ≡ now.attempt

pub exact_here : ReportLaws → (w : Setup) (evs : List Happening) (s j : ℕ) (t : Told) (r : ReportParts) → w.servers ≤ MAX_SERVERS
    → told_of_happening w (world w evs) (happenings.Check s j) ≡ Ok t → t.answer ≡ Checked r
    → ExactOf w evs s j r
unfolding make_key
exact_here laws w evs s j t r few told answer =
    let past = world w evs in
    let o = opening_of s in
    let list = list_at w s evs in
    let x = laws.exact w evs few s j t told in
    let same : x.0 ≡ r = same_report x.0 r (sym x.1 ∙ answer) in
    let k = x.2 in
    let c = k.now in
    let rests = check_rests o list c k.is_open in
    let at = came_in laws.files.taking w s evs (ToVerify c.run c.attempt rests.text) few refl rests.asked in
    let packet = asks_verify s c.run c.attempt rests.text at.arrives_in.packet at.request in
    let jobs = text_has Read rests.text c.jobs rests.jobs in
    let of = laws.files.taking.server.checks o list c k.is_open in
    let files = held_is laws.files w evs s j few in
    record {
      now = c;
      is_open = k.is_open;
      run_is = refl;
      attempt_is = refl;
      exact = record {
        run = c.run;
        attempt = c.attempt;
        jobs = length c.jobs;
        sent = report_seen laws.files.taking w s evs j c r few k.is_open (ends w s evs j c t r k.is_open told answer);
        text = rests.text;
        asked = asked_is_seen laws.files.texts w evs few at.arrives_in.packet c.run c.attempt rests.text at.sent (ap (λ (p : PacketParts). p.body) packet);
        job = k.job;
        has_job = ap (λ l. slice_get l j) jobs ∙ k.has_job;
        state = k.state;
        made = made_with laws w s evs j c k.job k.state few k.is_open k.has_job k.made;
        report = sym same ∙ k.report ∙ ap (λ m. report_of (make_key c.run m j) k.job k.state (content w past s j)) of.server
            ∙ ap (report_of (make_key c.run s j) k.job k.state) (sym files);
        few_faults = λ state block is honest_seen bad.
            laws.few w evs few s j c k.job state block (are_honest laws.files w evs s j few honest_seen)
            (checked_with w s evs j c k.job k.state state k.is_open k.has_job k.made is) (faulty laws w s evs j c k.job state block few k.is_open bad);
        no_faults = λ state block is honest_seen whole bad.
            laws.none w evs few s j c k.job state block (are_honest laws.files w evs s j few honest_seen) (are_whole laws.files w evs s j few whole)
            (checked_with w s evs j c k.job k.state state k.is_open k.has_job k.made is) (faulty laws w s evs j c k.job state block few k.is_open bad);
      };
    }

pub each_report_is_exact : ReportLaws → OfAllThatIsSeen EachReportIsExact
each_report_is_exact laws w events few newer older o s j t r split event told answer =
    let k = seen_in w events newer o older split in
    let e_is : k.event ≡ happenings.Check s j = ap (λ (x : Observation). x.event) k.here ∙ event in
    let told_here : told_of_happening w (world w k.earlier) (happenings.Check s j) ≡ Ok t =
    ap (told_of_happening w (world w k.earlier)) (sym e_is) ∙ ap (λ (x : Observation). x.told) k.here ∙ told in
    let here : observation w k.earlier (happenings.Check s j) ≡ o = ap (observation w k.earlier) (sym e_is) ∙ k.here in
    subst (λ l. IsExact l o s j r) k.before
    (subst (λ x. IsExact (observations w k.earlier) x s j r) here (exact_here laws w k.earlier s j t r few told_here answer).exact)

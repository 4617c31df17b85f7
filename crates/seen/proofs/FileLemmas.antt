-- What a file is seen to hold is what it holds.
use Rattle.std.proofs.Common.{◌≡◌, refl, sym, ◌∙◌, ap, ℕ, Bool, true, false, List, [], ◌∷◌, Option, Some, None, Result, Ok, Err}
use Rattle.std.specs.Prelude.{if◌then◌else◌, ◌≤◌, is_ok, is_some, slice_get}
use Rattle.std.specs.Option.{option_or, option_and_then}
use Rattle.fc_base.specs.Counted.{has}
use Rattle.fc_base.specs.declared.fault.Fault.{Fault}
use Rattle.fc_base.specs.declared.fault.Fault.TheVariants.{NoWrite}
use Rattle.fc_base.specs.declared.limits.TheConstants.{MAX_SERVERS}
use Rattle.job_file.specs.declared.job.Job.{Job}
use Rattle.job_file.specs.declared.job.Phase.TheVariants.{Write}
use Rattle.write_order.specs.Blocks.{block_of}
use Rattle.write_order.specs.Stamps.{bytes_of}
use Rattle.engine.specs.History.{open_writes}
use Rattle.engine.specs.Running.{Origin}
use Rattle.engine.specs.Answers.{ticket_of}
use Rattle.disk_model.specs.File.{put}
use Rattle.messages.specs.declared.packet.PacketParts.{PacketParts}
use Rattle.messages.specs.declared.frame.Frame.{Frame}
use Rattle.messages.specs.declared.node.Node.{Node}
use Rattle.messages.specs.declared.node.Node.TheVariants.{Server, Client, Mirror}
use Rattle.messages.specs.Hearing.{Meaning, Says, Waits, Spoils, Strays}
use Rattle.server_core.specs.Request.{ToStage}
use Rattle.server_core.specs.Run.{Work, origin_of, history}
use Rattle.server_core.specs.OpenWrites.{open_origin, open_origin_of}
use Rattle.server_core.specs.Words.{work}
use Rattle.net_world.specs.Setup.{Setup}
use Rattle.net_world.specs.Happenings.{Happening, Begin, Trigger, StopRun, Verify, Tick, Deliver, Issue}
use Rattle.net_world.specs.Happenings.{Land, Done, Fail, Rot, Cut, Restart, LoseNote, Renew, CutIn}
use Rattle.net_world.specs.Happenings as happenings
use Rattle.net_world.specs.Trace.{Step, opening_of}
use Rattle.net_world.specs.Frames.{FrameStep, frames_sent, to_of}
use Rattle.net_world.specs.Changes.{Change, Landed, Rotted, steps, trace}
use Rattle.net_world.specs.Contents.{with_block, with_write, is_file, content}
use Rattle.net_world.specs.Writes.{open_at}
use Rattle.net_world.specs.Barred.{unless, unless_on, unless_open, barring_fault}
use Rattle.net_world.specs.Outcomes.{Outcome, Does, outcome_of_step, comes_to_server, comes_to_client, comes_to, said_to_server, said_to_client, delivery}
use Rattle.net_world.specs.Outcomes.{brings, unless_barred, outcome}
use Rattle.net_world.specs.World.{world, and_outcome, told_by}
use Rattle.seen.specs.Texts.{text_of, job_in, job_of}
use Rattle.seen.specs.Files.{given_write, with_job, with_ticket, content_with, held}
use Rattle.seen.specs.Watching.{observations}
use Rattle.seen.proofs.PlaceLemmas.{list_at}
use Rattle.seen.proofs.WorkLemmas.{HasText, work_has_text}
use Rattle.seen.proofs.CheckLemmas.{text_has}
use Rattle.seen.proofs.CameLemmas.{came_in}
use Rattle.seen.proofs.RequestLemmas.{asks_jobs}
use Rattle.seen.proofs.QuietLemmas.{TakingLaws}
use Rattle.seen.proofs.ClientLemmas.{TextLaws}
use Rattle.seen.proofs.TextLemmas.{text_is_seen}
use Rattle.seen.proofs.GivenLemmas.{open_was_given}

-- The laws on which this rests.
pub record FileLaws : Type 0 where
  pub taking : TakingLaws
  pub texts : TextLaws

-- ---- the job of an open write

-- Where an open write comes from: a job of the run at work.
record OfJob (x : Option Work) (j : ℕ) (origin : Origin) : Type 0 where
  pub at : Work
  pub is : x ≡ Some at
  pub job : Job
  pub has_job : slice_get at.jobs j ≡ Some job
  pub from : origin_of at j job ≡ origin

job_found : (w : Work) (j k : ℕ) (x : Option Job) (origin : Origin) → slice_get w.jobs j ≡ x → open_origin_of w j k x ≡ Some origin → OfJob (Some w) j origin
job_found w j k None origin is h = absurd cc
job_found w j k (Some job) origin is h = by (has (open_writes (history (origin_of w j job) w.since)) k) h
  where
    by : (b : Bool) → (if b then Some (origin_of w j job) else None) ≡ Some origin → OfJob (Some w) j origin
    by true e = record { at = w; is = refl; job = job; has_job = is; from = same (origin_of w j job) origin e }
      where
        same : (a b : Origin) → Some a ≡ Some b → a ≡ b
        same a b k = cc
    by false e = absurd cc

of_job : (x : Option Work) (j k : ℕ) (origin : Origin) → open_origin x j k ≡ Some origin → OfJob x j origin
of_job None j k origin h = absurd cc
of_job (Some w) j k origin h = job_found w j k (slice_get w.jobs j) origin refl h

-- The job file of a run that came to a server is seen.
pub text_seen : FileLaws → (w : Setup) (s : ℕ) (evs : List Happening) (run : ℕ) (jobs : List Job) → w.servers ≤ MAX_SERVERS
    → (t : HasText (opening_of s) (list_at w s evs) run jobs) → text_of run (observations w evs) ≡ Some t.text
text_seen laws w s evs run jobs few t =
    let c = came_in laws.taking w s evs (ToStage run t.text) few refl t.came in
    let packet = asks_jobs s run t.text c.arrives_in.packet c.request in
    text_is_seen laws.texts w evs few c.arrives_in.packet run t.text c.sent (ap (λ (p : PacketParts). p.body) packet)

-- The job of an open write, as it is seen.
pub record IsJob (w : Setup) (evs : List Happening) (origin : Origin) : Type 0 where
  pub job : Job
  pub is : job_of origin.key (observations w evs) ≡ Some job
  pub rec_is : job.rec ≡ origin.job

pub job_seen : FileLaws → (w : Setup) (s : ℕ) (evs : List Happening) (j k : ℕ) (origin : Origin) → w.servers ≤ MAX_SERVERS
    → open_at (trace w (world w evs)) s j k ≡ Some origin → IsJob w evs origin
job_seen laws w s evs j k origin few h =
    let f = of_job (work (opening_of s) (list_at w s evs)) j k origin h in
    let t = work_has_text laws.taking.server.due (opening_of s) (list_at w s evs) f.at f.is in
    let seen = text_seen laws w s evs f.at.run f.at.jobs few t in
    let jobs = text_has Write t.text f.at.jobs t.is in
    let found : job_of (origin_of f.at j f.job).key (observations w evs) ≡ Some f.job =
    ap (option_and_then (job_in j)) seen ∙ ap (λ l. slice_get l j) jobs ∙ f.has_job in
    record {
      job = f.job;
      is = ap (λ (x : Origin). job_of x.key (observations w evs)) (sym f.from) ∙ found;
      rec_is = ap (λ (x : Origin). x.job) f.from;
    }

-- ---- what lands

landed : FileLaws → (w : Setup) (s : ℕ) (evs : List Happening) (j k mask : ℕ) (x : Option Origin) (b : Option Fault) (bytes : ℕ → List ℕ) → w.servers ≤ MAX_SERVERS
    → open_at (trace w (world w evs)) s j k ≡ x → option_or b (unless (is_some x) NoWrite) ≡ None
    → with_ticket (observations w evs) (given_write s j k (observations w evs)) mask bytes ≡ with_write k mask x bytes
landed laws w s evs j k mask None None bytes few is h = absurd cc
landed laws w s evs j k mask None (Some fault) bytes few is h = absurd cc
landed laws w s evs j k mask (Some origin) b bytes few is h =
    let given = open_was_given w s evs j k origin is in
    let job = job_seen laws w s evs j k origin few is in
    ap (λ x. with_ticket (observations w evs) x mask bytes) given
    ∙ ap (λ x. with_job (ticket_of origin k) mask x bytes) job.is
    ∙ ap (λ r. with_block mask (block_of origin.job k) (bytes_of origin.key r k) bytes) job.rec_is

land_if : (t : Bool) (x y z : ℕ → List ℕ) → x ≡ y → (if t then x else z) ≡ (if t then y else z)
land_if true x y z h = h
land_if false x y z h = refl

land_by : FileLaws → (w : Setup) (evs : List Happening) (t i k mask s j : ℕ) (b : Option Fault) → w.servers ≤ MAX_SERVERS
    → unless_open w (trace w (world w evs)) t i k ≡ b → (bytes : ℕ → List ℕ) → bytes ≡ content w (world w evs) s j
    → content_with (observations w evs) s j (Land t i k mask)
    (is_ok (told_by w (world w evs) (Land t i k mask) (unless_barred b (Does (Landed t i k mask))))) bytes
    ≡ content w (and_outcome (unless_barred b (Does (Landed t i k mask))) (world w evs)) s j
land_by laws w evs t i k mask s j None few free bytes is =
    let past = world w evs in
    ap (λ c. if is_file t i s j then with_ticket (observations w evs) (given_write t i k (observations w evs)) mask c else c) is
    ∙ land_if (is_file t i s j) (with_ticket (observations w evs) (given_write t i k (observations w evs)) mask (content w past s j))
    (with_write k mask (open_at (trace w past) t i k) (content w past s j)) (content w past s j)
    (landed laws w t evs i k mask (open_at (trace w past) t i k) (unless_on w (trace w past) (Server t)) (content w past s j) few refl free)
land_by laws w evs t i k mask s j (Some fault) few free bytes is = is

rot_by : (w : Setup) (evs : List Happening) (t i sector s j : ℕ) (new : List ℕ) (b : Option Fault) (bytes : ℕ → List ℕ) → bytes ≡ content w (world w evs) s j
    → content_with (observations w evs) s j (Rot t i sector new)
    (is_ok (told_by w (world w evs) (Rot t i sector new) (unless_barred b (Does (Rotted t i sector new))))) bytes
    ≡ content w (and_outcome (unless_barred b (Does (Rotted t i sector new))) (world w evs)) s j
rot_by w evs t i sector s j new None bytes is = ap (λ c. if is_file t i s j then put sector new c else c) is
rot_by w evs t i sector s j new (Some fault) bytes is = is

-- ---- what changes no file

-- Nothing lands with it.
unfoldable Keeps : Setup → List Change → ℕ → ℕ → Outcome → Type 0
Keeps w past s j r = content w (and_outcome r past) s j ≡ content w past s j

step_keeps : (w : Setup) (past : List Change) (s j : ℕ) (x : Result FrameStep Fault) → Keeps w past s j (outcome_of_step x)
unfolding Keeps
step_keeps w past s j (Ok step) = refl
step_keeps w past s j (Err fault) = refl

at_server_keeps : (w : Setup) (past : List Change) (s j : ℕ) (t : List Step) (r : ℕ) (f : Frame) (m : Meaning) → Keeps w past s j (comes_to_server t r f m)
unfolding Keeps
at_server_keeps w past s j t r f (Says p) = step_keeps w past s j _
at_server_keeps w past s j t r f Waits = refl
at_server_keeps w past s j t r f Spoils = refl
at_server_keeps w past s j t r f Strays = refl

at_client_keeps : (w : Setup) (past : List Change) (s j : ℕ) (t : List Step) (f : Frame) (m : Meaning) → Keeps w past s j (comes_to_client w t f m)
unfolding Keeps
at_client_keeps w past s j t f (Says p) = step_keeps w past s j _
at_client_keeps w past s j t f Waits = refl
at_client_keeps w past s j t f Spoils = refl
at_client_keeps w past s j t f Strays = refl

to_keeps : (w : Setup) (past : List Change) (s j : ℕ) (node : Node) (f : Frame) → Keeps w past s j (comes_to w past node f)
to_keeps w past s j (Server r) f = at_server_keeps w past s j (trace w past) r f (said_to_server (steps past) r f)
to_keeps w past s j Client f = at_client_keeps w past s j (trace w past) f (said_to_client w (steps past) f)
to_keeps w past s j Mirror f = step_keeps w past s j _

delivery_keeps : (w : Setup) (past : List Change) (s j : ℕ) (x : Option Frame) → Keeps w past s j (delivery w past x)
unfolding Keeps
delivery_keeps w past s j None = refl
delivery_keeps w past s j (Some f) = to_keeps w past s j (to_of f) f

unless_keeps : (w : Setup) (past : List Change) (s j : ℕ) (b : Option Fault) (r : Outcome) → Keeps w past s j r → Keeps w past s j (unless_barred b r)
unfolding Keeps
unless_keeps w past s j None r h = h
unless_keeps w past s j (Some fault) r h = refl

loss_keeps : (w : Setup) (past : List Change) (s j : ℕ) → Keeps w past s j (brings w past LoseNote)
unfolding Keeps
loss_keeps w past s j = refl

kept : (w : Setup) (past : List Change) (s j : ℕ) (e : Happening) → Keeps w past s j (brings w past e)
    → content w (and_outcome (outcome w past e) past) s j ≡ content w past s j
unfolding Keeps
kept w past s j e h = unless_keeps w past s j (barring_fault w (trace w past) (frames_sent w (steps past)) e) (brings w past e) h

-- ---- all of it

one_more : FileLaws → (w : Setup) (evs : List Happening) (e : Happening) (s j : ℕ) → w.servers ≤ MAX_SERVERS
    → held (observations w evs) s j ≡ content w (world w evs) s j → held (observations w (e ∷ evs)) s j ≡ content w (world w (e ∷ evs)) s j
one_more laws w evs (Land t i k mask) s j few is =
    land_by laws w evs t i k mask s j (unless_open w (trace w (world w evs)) t i k) few refl (held (observations w evs) s j) is
one_more laws w evs (Rot t i sector new) s j few is =
    rot_by w evs t i sector s j new (barring_fault w (trace w (world w evs)) (frames_sent w (steps (world w evs))) (Rot t i sector new))
    (held (observations w evs) s j) is
one_more laws w evs (Begin text) s j few is = is ∙ sym (kept w (world w evs) s j (Begin text) (step_keeps w (world w evs) s j _))
one_more laws w evs (Trigger run act) s j few is = is ∙ sym (kept w (world w evs) s j (Trigger run act) (step_keeps w (world w evs) s j _))
one_more laws w evs (StopRun run) s j few is = is ∙ sym (kept w (world w evs) s j (StopRun run) (step_keeps w (world w evs) s j _))
one_more laws w evs (Verify run text) s j few is = is ∙ sym (kept w (world w evs) s j (Verify run text) (step_keeps w (world w evs) s j _))
one_more laws w evs Tick s j few is = is ∙ sym (kept w (world w evs) s j Tick (step_keeps w (world w evs) s j _))
one_more laws w evs (Deliver i) s j few is = is ∙ sym (kept w (world w evs) s j (Deliver i) (delivery_keeps w (world w evs) s j _))
one_more laws w evs (Issue t i) s j few is = is ∙ sym (kept w (world w evs) s j (Issue t i) (step_keeps w (world w evs) s j _))
one_more laws w evs (Done t i k) s j few is = is ∙ sym (kept w (world w evs) s j (Done t i k) (step_keeps w (world w evs) s j _))
one_more laws w evs (Fail t i k) s j few is = is ∙ sym (kept w (world w evs) s j (Fail t i k) (step_keeps w (world w evs) s j _))
one_more laws w evs (happenings.Check t i) s j few is = is ∙ sym (kept w (world w evs) s j (happenings.Check t i) (step_keeps w (world w evs) s j _))
one_more laws w evs (Cut node) s j few is = is ∙ sym (kept w (world w evs) s j (Cut node) (step_keeps w (world w evs) s j _))
one_more laws w evs (Restart node) s j few is = is ∙ sym (kept w (world w evs) s j (Restart node) (step_keeps w (world w evs) s j _))
one_more laws w evs LoseNote s j few is = is ∙ sym (kept w (world w evs) s j LoseNote (loss_keeps w (world w evs) s j))
one_more laws w evs (Renew g) s j few is = is ∙ sym (kept w (world w evs) s j (Renew g) (step_keeps w (world w evs) s j _))
one_more laws w evs (CutIn landed_new e) s j few is = is ∙ sym (kept w (world w evs) s j (CutIn landed_new e) (step_keeps w (world w evs) s j _))

pub held_is : FileLaws → (w : Setup) (evs : List Happening) (s j : ℕ) → w.servers ≤ MAX_SERVERS → held (observations w evs) s j ≡ content w (world w evs) s j
held_is laws w [] s j few = refl
held_is laws w (e ∷ evs) s j few = one_more laws w evs e s j few (held_is laws w evs s j few)

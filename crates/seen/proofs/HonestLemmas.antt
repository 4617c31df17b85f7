-- Disks that are seen to be honest were honest, and writes that are seen to be whole were whole.
use Rattle.std.proofs.Common.{◌≡◌, refl, sym, ◌∙◌, ap, subst, ℕ, Bool, true, false, List, [], ◌∷◌, Option, Some, None, Result, Ok, Err}
use Rattle.std.specs.Prelude.{◌≤◌, is_ok}
use Rattle.fc_base.specs.declared.fault.Fault.{Fault}
use Rattle.fc_base.specs.declared.limits.TheConstants.{MAX_SERVERS}
use Rattle.fc_base.specs.declared.record.JobParts.{JobParts}
use Rattle.write_order.specs.Blocks.{block_of}
use Rattle.write_order.specs.Stamps.{bytes_of}
use Rattle.disk_model.specs.declared.save_outcome.SaveOutcome.{SaveOutcome}
use Rattle.disk_model.specs.File.{block_bytes}
use Rattle.engine.specs.declared.issue.Ticket.{Ticket}
use Rattle.engine.specs.Running.{Origin}
use Rattle.engine.specs.Answers.{ticket_of}
use Rattle.messages.specs.Hearing.{Comes, Happens}
use Rattle.server_core.specs.declared.input.Input.TheVariants as inputs
use Rattle.server_core.specs.declared.input.WriteEnd.TheVariants as ends
use Rattle.server_core.specs.History as server
use Rattle.net_world.specs.Setup.{Setup}
use Rattle.net_world.specs.Happenings.{Happening, Done, Land, Rot}
use Rattle.net_world.specs.Frames.{FrameStep, OfServer, OfClient, OfMirror}
use Rattle.net_world.specs.Changes.{Change, Met, Landed, Rotted, steps, trace}
use Rattle.net_world.specs.Contents.{content}
use Rattle.net_world.specs.Writes.{open_at}
use Rattle.net_world.specs.Honest as honest
use Rattle.net_world.specs.Honest.{HoldsWrite, HasAllSectors}
use Rattle.net_world.specs.Outcomes.{Outcome, Does, Refuses, Drops, outcome}
use Rattle.net_world.specs.World.{world, and_outcome, told_by}
use Rattle.fc_base.specs.declared.numbers.Key.{Key}
use Rattle.seen.specs.Files.{held}
use Rattle.seen.specs.Disks.{IsHonest, AreHonest, IsWhole, AreWhole}
use Rattle.seen.specs.Watching.{observations}
use Rattle.seen.proofs.EntryLemmas.{step_in, entry_by}
use Rattle.seen.proofs.MakeLemmas.{makes}
use Rattle.seen.proofs.PlaceLemmas.{entry_now}
use Rattle.seen.proofs.DoneLemmas.{ended, open_key, told_ok}
use Rattle.seen.proofs.MarkLemmas.{own}
use Rattle.seen.proofs.GivenLemmas.{open_was_given}
use Rattle.seen.proofs.FileLemmas.{FileLaws, job_seen, held_is}
use Rattle.net_world.specs.Trace.{Step}
use Rattle.net_world.specs.Frames.{frames_sent, to_of}
use Rattle.net_world.specs.Happenings.{Begin, Trigger, StopRun, Verify, Tick, Deliver, Issue, Fail, Cut, Restart, LoseNote, Renew, CutIn}
use Rattle.net_world.specs.Happenings as happenings
use Rattle.net_world.specs.Barred.{barring_fault}
use Rattle.net_world.specs.Outcomes.{outcome_of_step, comes_to_server, comes_to_client, comes_to, said_to_server, said_to_client, delivery, brings, unless_barred}
use Rattle.messages.specs.Hearing.{Meaning, Says, Waits, Spoils, Strays}
use Rattle.messages.specs.declared.frame.Frame.{Frame}
use Rattle.messages.specs.declared.node.Node.{Node}
use Rattle.messages.specs.declared.node.Node.TheVariants.{Server, Client, Mirror}

-- ---- what is a step of a node, or nothing

abbrev is_step : Outcome → Bool
is_step (Does (Met step)) = true
is_step (Does (Landed s j k mask)) = false
is_step (Does (Rotted s j sector bytes)) = false
is_step (Refuses fault) = true
is_step (Drops step) = true

of_step : (x : Result FrameStep Fault) → is_step (outcome_of_step x) ≡ true
of_step (Ok step) = refl
of_step (Err fault) = refl

at_server_step : (t : List Step) (r : ℕ) (f : Frame) (m : Meaning) → is_step (comes_to_server t r f m) ≡ true
at_server_step t r f (Says p) = of_step _
at_server_step t r f Waits = refl
at_server_step t r f Spoils = refl
at_server_step t r f Strays = refl

at_client_step : (w : Setup) (t : List Step) (f : Frame) (m : Meaning) → is_step (comes_to_client w t f m) ≡ true
at_client_step w t f (Says p) = of_step _
at_client_step w t f Waits = refl
at_client_step w t f Spoils = refl
at_client_step w t f Strays = refl

to_step : (w : Setup) (past : List Change) (node : Node) (f : Frame) → is_step (comes_to w past node f) ≡ true
to_step w past (Server r) f = at_server_step (trace w past) r f (said_to_server (steps past) r f)
to_step w past Client f = at_client_step w (trace w past) f (said_to_client w (steps past) f)
to_step w past Mirror f = of_step _

delivery_step : (w : Setup) (past : List Change) (x : Option Frame) → is_step (delivery w past x) ≡ true
delivery_step w past None = refl
delivery_step w past (Some f) = to_step w past (to_of f) f

unless_step : (b : Option Fault) (r : Outcome) → is_step r ≡ true → is_step (unless_barred b r) ≡ true
unless_step None r h = h
unless_step (Some fault) r h = refl

-- ---- honest disks

-- What an honest disk holds of a write that is told done.
abbrev Holds : Setup → List Happening → Happening → ℕ → ℕ → ℕ → Type 0
Holds w evs e s j k =
    IsHonest (observations w evs) s j e (is_ok (told_by w (world w evs) e (outcome w (world w evs) e)))
    → (origin : Origin) → open_at (trace w (world w evs)) s j k ≡ Some origin
    → HoldsWrite (content w (world w evs) s j) origin.key origin.job k

done_held : FileLaws → (w : Setup) (evs : List Happening) (e : Happening) (s : ℕ) (ticket : Ticket) (left : SaveOutcome) → w.servers ≤ MAX_SERVERS
    → entry_now w s evs e ≡ Some (server.Met (inputs.WriteDone ticket ends.Done) left)
    → IsHonest (observations w evs) s ticket.key.job e (is_ok (told_by w (world w evs) e (outcome w (world w evs) e)))
    → (origin : Origin) → open_at (trace w (world w evs)) s ticket.key.job ticket.seq ≡ Some origin
    → HoldsWrite (content w (world w evs) s ticket.key.job) origin.key origin.job ticket.seq
done_held laws w evs e s ticket left few heard h origin there =
    let past = world w evs in
    let seen = observations w evs in
    let m = ended w past s e (outcome w past e) ticket left (makes w past s e (server.Met (inputs.WriteDone ticket ends.Done) left) heard) in
    let key = open_key laws.taking.server.last w s evs m.job m.write m.origin m.there in
    let job : ticket.key.job ≡ m.job = ap (λ (x : Ticket). x.key.job) m.ticket_is ∙ ap (λ (x : Key). x.job) key in
    let seq : ticket.seq ≡ m.write = ap (λ (x : Ticket). x.seq) m.ticket_is in
    let e_is : e ≡ Done s ticket.key.job ticket.seq = m.event ∙ ap (λ i. Done s i m.write) (sym job) ∙ ap (λ k. Done s ticket.key.job k) (sym seq) in
    let ok = told_ok w past e (outcome w past e) m.change m.does in
    let all = subst (λ x. IsHonest seen s ticket.key.job x true) e_is (subst (λ b. IsHonest seen s ticket.key.job e b) ok h) in
    let given = open_was_given w s evs ticket.key.job ticket.seq origin there in
    let its = job_seen laws w s evs ticket.key.job ticket.seq origin few there in
    let now = all refl refl (ticket_of origin ticket.seq) its.job given its.is in
    let by_rec : block_bytes (held seen s ticket.key.job) origin.job.bs (block_of origin.job ticket.seq) ≡ bytes_of origin.key origin.job ticket.seq =
    subst (λ (r : JobParts). block_bytes (held seen s ticket.key.job) r.bs (block_of origin.job ticket.seq) ≡ bytes_of origin.key r ticket.seq) its.rec_is now in
    subst (λ c. block_bytes c origin.job.bs (block_of origin.job ticket.seq) ≡ bytes_of origin.key origin.job ticket.seq)
    (held_is laws w evs s ticket.key.job few) by_rec

-- The same of the file of that server and job.
held_at : FileLaws → (w : Setup) (evs : List Happening) (e : Happening) (r s j : ℕ) (ticket : Ticket) (left : SaveOutcome) → w.servers ≤ MAX_SERVERS
    → entry_now w r evs e ≡ Some (server.Met (inputs.WriteDone ticket ends.Done) left) → r ≡ s → ticket.key.job ≡ j
    → IsHonest (observations w evs) s j e (is_ok (told_by w (world w evs) e (outcome w (world w evs) e)))
    → (origin : Origin) → open_at (trace w (world w evs)) s j ticket.seq ≡ Some origin
    → HoldsWrite (content w (world w evs) s j) origin.key origin.job ticket.seq
held_at laws w evs e r s j ticket left few heard server_is job_is =
    subst (λ m. Holds w evs e m j ticket.seq) server_is (subst (λ n. Holds w evs e r n ticket.seq) job_is (done_held laws w evs e r ticket left few heard))

in_file : FileLaws → (w : Setup) (evs : List Happening) (e : Happening) (s j : ℕ) (step : FrameStep) → w.servers ≤ MAX_SERVERS
    → step_in (outcome w (world w evs) e) ≡ Some step → IsHonest (observations w evs) s j e (is_ok (told_by w (world w evs) e (outcome w (world w evs) e)))
    → honest.IsInFile w s j (world w evs) step
in_file laws w evs e s j (OfServer r (Happens (server.Met (inputs.WriteDone ticket ends.Done) left))) few is h =
    λ server_is job_is.
    held_at laws w evs e r s j ticket left few
    (ap (entry_by r (steps (world w evs))) is ∙ own r (Some (server.Met (inputs.WriteDone ticket ends.Done) left))) server_is job_is h
in_file laws w evs e s j (OfServer r (Happens (server.Met (inputs.WriteDone ticket ends.Failed) left))) few is h = tt
in_file laws w evs e s j (OfServer r (Happens (server.Met (inputs.Deliver p) left))) few is h = tt
in_file laws w evs e s j (OfServer r (Happens (server.Met (inputs.Issue i) left))) few is h = tt
in_file laws w evs e s j (OfServer r (Happens (server.Met (inputs.CheckDone b a i report) left))) few is h = tt
in_file laws w evs e s j (OfServer r (Happens server.Cut)) few is h = tt
in_file laws w evs e s j (OfServer r (Happens (server.Restart left))) few is h = tt
in_file laws w evs e s j (OfServer r (Comes f left)) few is h = tt
in_file laws w evs e s j (OfClient c) few is h = tt
in_file laws w evs e s j (OfMirror c) few is h = tt

honest_step : FileLaws → (w : Setup) (evs : List Happening) (e : Happening) (s j : ℕ) (r : Outcome) → w.servers ≤ MAX_SERVERS → outcome w (world w evs) e ≡ r
    → is_step r ≡ true → honest.AreHonest w s j (world w evs)
    → IsHonest (observations w evs) s j e (is_ok (told_by w (world w evs) e (outcome w (world w evs) e))) → honest.AreHonest w s j (and_outcome r (world w evs))
honest_step laws w evs e s j (Does (Met step)) few is so past h = (past, in_file laws w evs e s j step few (ap step_in is) h)
honest_step laws w evs e s j (Does (Landed r i k mask)) few is so past h = absurd cc
honest_step laws w evs e s j (Does (Rotted r i sector bytes)) few is so past h = absurd cc
honest_step laws w evs e s j (Refuses fault) few is so past h = past
honest_step laws w evs e s j (Drops step) few is so past h = (past, in_file laws w evs e s j step few (ap step_in is) h)

honest_more : FileLaws → (w : Setup) (evs : List Happening) (e : Happening) (s j : ℕ) → w.servers ≤ MAX_SERVERS → is_step (brings w (world w evs) e) ≡ true
    → honest.AreHonest w s j (world w evs) → IsHonest (observations w evs) s j e (is_ok (told_by w (world w evs) e (outcome w (world w evs) e)))
    → honest.AreHonest w s j (world w (e ∷ evs))
honest_more laws w evs e s j few so past h =
    let b = barring_fault w (trace w (world w evs)) (frames_sent w (steps (world w evs))) e in
    honest_step laws w evs e s j (outcome w (world w evs) e) few refl (unless_step b (brings w (world w evs) e) so) past h

honest_land : (w : Setup) (past : List Change) (s j r i k mask : ℕ) (b : Option Fault) → honest.AreHonest w s j past
    → honest.AreHonest w s j (and_outcome (unless_barred b (Does (Landed r i k mask))) past)
honest_land w past s j r i k mask None h = h
honest_land w past s j r i k mask (Some fault) h = h

honest_rot : (w : Setup) (evs : List Happening) (s j r i sector : ℕ) (bytes : List ℕ) (b : Option Fault) → honest.AreHonest w s j (world w evs)
    → IsHonest (observations w evs) s j (Rot r i sector bytes)
    (is_ok (told_by w (world w evs) (Rot r i sector bytes) (unless_barred b (Does (Rotted r i sector bytes)))))
    → honest.AreHonest w s j (and_outcome (unless_barred b (Does (Rotted r i sector bytes))) (world w evs))
honest_rot w evs s j r i sector bytes None past h = (past, h)
honest_rot w evs s j r i sector bytes (Some fault) past h = past

honest_one : FileLaws → (w : Setup) (evs : List Happening) (e : Happening) (s j : ℕ) → w.servers ≤ MAX_SERVERS → honest.AreHonest w s j (world w evs)
    → IsHonest (observations w evs) s j e (is_ok (told_by w (world w evs) e (outcome w (world w evs) e))) → honest.AreHonest w s j (world w (e ∷ evs))
honest_one laws w evs (Land r i k mask) s j few past h =
    honest_land w (world w evs) s j r i k mask (barring_fault w (trace w (world w evs)) (frames_sent w (steps (world w evs))) (Land r i k mask)) past
honest_one laws w evs (Rot r i sector bytes) s j few past h =
    honest_rot w evs s j r i sector bytes (barring_fault w (trace w (world w evs)) (frames_sent w (steps (world w evs))) (Rot r i sector bytes)) past h
honest_one laws w evs (Begin text) s j few past h = honest_more laws w evs (Begin text) s j few (of_step _) past h
honest_one laws w evs (Trigger run act) s j few past h = honest_more laws w evs (Trigger run act) s j few (of_step _) past h
honest_one laws w evs (StopRun run) s j few past h = honest_more laws w evs (StopRun run) s j few (of_step _) past h
honest_one laws w evs (Verify run text) s j few past h = honest_more laws w evs (Verify run text) s j few (of_step _) past h
honest_one laws w evs Tick s j few past h = honest_more laws w evs Tick s j few (of_step _) past h
honest_one laws w evs (Deliver n) s j few past h = honest_more laws w evs (Deliver n) s j few (delivery_step w (world w evs) _) past h
honest_one laws w evs (Issue r i) s j few past h = honest_more laws w evs (Issue r i) s j few (of_step _) past h
honest_one laws w evs (Done r i k) s j few past h = honest_more laws w evs (Done r i k) s j few (of_step _) past h
honest_one laws w evs (Fail r i k) s j few past h = honest_more laws w evs (Fail r i k) s j few (of_step _) past h
honest_one laws w evs (happenings.Check r i) s j few past h = honest_more laws w evs (happenings.Check r i) s j few (of_step _) past h
honest_one laws w evs (Cut node) s j few past h = honest_more laws w evs (Cut node) s j few (of_step _) past h
honest_one laws w evs (Restart node) s j few past h = honest_more laws w evs (Restart node) s j few (of_step _) past h
honest_one laws w evs LoseNote s j few past h = honest_more laws w evs LoseNote s j few refl past h
honest_one laws w evs (Renew g) s j few past h = honest_more laws w evs (Renew g) s j few (of_step _) past h
honest_one laws w evs (CutIn landed inner) s j few past h = honest_more laws w evs (CutIn landed inner) s j few (of_step _) past h

pub are_honest : FileLaws → (w : Setup) (evs : List Happening) (s j : ℕ) → w.servers ≤ MAX_SERVERS → AreHonest (observations w evs) s j → honest.AreHonest w s j (world w evs)
are_honest laws w [] s j few h = tt
are_honest laws w (e ∷ evs) s j few h = honest_one laws w evs e s j few (are_honest laws w evs s j few h.0) h.1

-- ---- whole writes

whole_land : FileLaws → (w : Setup) (evs : List Happening) (s j r i k mask : ℕ) (b : Option Fault) → w.servers ≤ MAX_SERVERS
    → honest.AreWhole w s j (world w evs)
    → IsWhole (observations w evs) s j (Land r i k mask)
    (is_ok (told_by w (world w evs) (Land r i k mask) (unless_barred b (Does (Landed r i k mask)))))
    → honest.AreWhole w s j (and_outcome (unless_barred b (Does (Landed r i k mask))) (world w evs))
whole_land laws w evs s j r i k mask None few past h = (
  past,
  λ here origin there.
      let given = open_was_given w r evs i k origin there in
      let its = job_seen laws w r evs i k origin few there in
      subst (HasAllSectors mask) its.rec_is (h here (ticket_of origin k) its.job given its.is),
)
whole_land laws w evs s j r i k mask (Some fault) few past h = past

whole_rot : (w : Setup) (past : List Change) (s j r i sector : ℕ) (bytes : List ℕ) (b : Option Fault) → honest.AreWhole w s j past
    → honest.AreWhole w s j (and_outcome (unless_barred b (Does (Rotted r i sector bytes))) past)
whole_rot w past s j r i sector bytes None h = h
whole_rot w past s j r i sector bytes (Some fault) h = h

whole_step : (w : Setup) (past : List Change) (s j : ℕ) (r : Outcome) → is_step r ≡ true → honest.AreWhole w s j past → honest.AreWhole w s j (and_outcome r past)
whole_step w past s j (Does (Met step)) so h = h
whole_step w past s j (Does (Landed r i k mask)) so h = absurd cc
whole_step w past s j (Does (Rotted r i sector bytes)) so h = absurd cc
whole_step w past s j (Refuses fault) so h = h
whole_step w past s j (Drops step) so h = h

whole_more : (w : Setup) (evs : List Happening) (e : Happening) (s j : ℕ) → is_step (brings w (world w evs) e) ≡ true → honest.AreWhole w s j (world w evs)
    → honest.AreWhole w s j (world w (e ∷ evs))
whole_more w evs e s j so h =
    let b = barring_fault w (trace w (world w evs)) (frames_sent w (steps (world w evs))) e in
    whole_step w (world w evs) s j (outcome w (world w evs) e) (unless_step b (brings w (world w evs) e) so) h

whole_one : FileLaws → (w : Setup) (evs : List Happening) (e : Happening) (s j : ℕ) → w.servers ≤ MAX_SERVERS → honest.AreWhole w s j (world w evs)
    → IsWhole (observations w evs) s j e (is_ok (told_by w (world w evs) e (outcome w (world w evs) e))) → honest.AreWhole w s j (world w (e ∷ evs))
whole_one laws w evs (Land r i k mask) s j few past h =
    whole_land laws w evs s j r i k mask (barring_fault w (trace w (world w evs)) (frames_sent w (steps (world w evs))) (Land r i k mask)) few past h
whole_one laws w evs (Rot r i sector bytes) s j few past h =
    whole_rot w (world w evs) s j r i sector bytes (barring_fault w (trace w (world w evs)) (frames_sent w (steps (world w evs))) (Rot r i sector bytes)) past
whole_one laws w evs (Begin text) s j few past h = whole_more w evs (Begin text) s j (of_step _) past
whole_one laws w evs (Trigger run act) s j few past h = whole_more w evs (Trigger run act) s j (of_step _) past
whole_one laws w evs (StopRun run) s j few past h = whole_more w evs (StopRun run) s j (of_step _) past
whole_one laws w evs (Verify run text) s j few past h = whole_more w evs (Verify run text) s j (of_step _) past
whole_one laws w evs Tick s j few past h = whole_more w evs Tick s j (of_step _) past
whole_one laws w evs (Deliver n) s j few past h = whole_more w evs (Deliver n) s j (delivery_step w (world w evs) _) past
whole_one laws w evs (Issue r i) s j few past h = whole_more w evs (Issue r i) s j (of_step _) past
whole_one laws w evs (Done r i k) s j few past h = whole_more w evs (Done r i k) s j (of_step _) past
whole_one laws w evs (Fail r i k) s j few past h = whole_more w evs (Fail r i k) s j (of_step _) past
whole_one laws w evs (happenings.Check r i) s j few past h = whole_more w evs (happenings.Check r i) s j (of_step _) past
whole_one laws w evs (Cut node) s j few past h = whole_more w evs (Cut node) s j (of_step _) past
whole_one laws w evs (Restart node) s j few past h = whole_more w evs (Restart node) s j (of_step _) past
whole_one laws w evs LoseNote s j few past h = whole_more w evs LoseNote s j refl past
whole_one laws w evs (Renew g) s j few past h = whole_more w evs (Renew g) s j (of_step _) past
whole_one laws w evs (CutIn landed inner) s j few past h = whole_more w evs (CutIn landed inner) s j (of_step _) past

pub are_whole : FileLaws → (w : Setup) (evs : List Happening) (s j : ℕ) → w.servers ≤ MAX_SERVERS → AreWhole (observations w evs) s j → honest.AreWhole w s j (world w evs)
are_whole laws w [] s j few h = tt
are_whole laws w (e ∷ evs) s j few h = whole_one laws w evs e s j few (are_whole laws w evs s j few h.0) h.1

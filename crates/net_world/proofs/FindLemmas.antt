-- What is found in a server that runs.
use Rattle.std.proofs.Common.{◌≡◌, refl, sym, ◌∙◌, ap, subst, inl, inr, ◌⊎◌, ℕ, ◌<◌, ◌≤◌, arith, true, false, List, length, Option, Some, None}
use Rattle.std.specs.Prelude.{slice_get, is_some, IfOk, IfErr}
use Rattle.std.specs.Borrow.{Bor}
use Rattle.std.specs.Option.{option_map, option_or, option_copied, ok_or}
use Rattle.std.proofs.lemmas.Option.{slice_get_within}
use Rattle.std.proofs.lemmas.Bool.{false≢true}
use Rattle.fc_base.specs.declared.limits.TheConstants.{MAX_JOBS}
use Rattle.fc_base.specs.declared.fault.Fault.{Fault}
use Rattle.fc_base.specs.declared.fault.Fault.TheVariants.{NoServer, NodeOff, NoWrite}
use Rattle.disk_model.specs.MemNotes.{Saved as Kept}
use Rattle.job_file.specs.declared.job.Job.{Job}
use Rattle.verify_state.specs.State.{State}
use Rattle.engine.specs.declared.issue.Ticket.{Ticket}
use Rattle.engine.specs.Answers.{ticket_of}
use Rattle.engine.specs.Running.{Origin}
use Rattle.messages.specs.declared.node.Node.TheVariants as nodes
use Rattle.server_core.specs.declared.server.Server.{Server}
use Rattle.server_core.specs.History as server
use Rattle.server_core.specs.History.{Opening}
use Rattle.server_core.specs.Run.{Work}
use Rattle.server_core.specs.Words.{work}
use Rattle.server_core.specs.Laws.{LooksAtAll, RunsHaveSets, ChecksHaveSets}
use Rattle.server_core.specs.OpenCheck.{OpenCheckIsLast}
use Rattle.server_core.specs.declared.status.Status.{Status}
use Rattle.server_core.specs.Check.{Check, Progress, Wanting, Full, With, Refused, Done, check, progress, progress_in, progress_at, progress_after}
use Rattle.server_core.specs.Answers.{shown_entries, run_job, job_of_run, check_job, job_of_check, is_ready, status, number_of_check}
use Rattle.server_core.specs.OpenWrites.{open_origin, open_ticket, open_write, origin_told, TicketsTellOrigins}
use Rattle.server_core.specs.Hearing.{FrameEntry, packets_heard, is_up}
use Rattle.node.specs.Kinds.{Shows}
use Rattle.net_world.specs.declared.world.World.{World}
use Rattle.net_world.specs.Setup.{Setup}
use Rattle.net_world.specs.Trace.{of_server, opening_of}
use Rattle.net_world.specs.Changes.{Change, trace}
use Rattle.net_world.specs.Holders.{key_at}
use Rattle.net_world.specs.Contents.{content}
use Rattle.net_world.specs.Checks.{end_of_check, end_of_check_in, check_end, report_for, report_by}
use Rattle.net_world.specs.Writes.{open_at}
use Rattle.net_world.specs.Barred.{unless_on, unless_open, unless}
use Rattle.net_world.specs.ServerNodes.{ServerNode, server_nodes, Stands}
use Rattle.net_world.specs.Stands.{StandsFor}
use Rattle.net_world.specs.Serving.{entries}
use Rattle.net_world.specs.Finding.{IsRunning, IsAway, IsOpen, IsMadeBy, IsReady, state_of}
use Rattle.net_world.proofs.ServeLemmas.{heard_is, none_there, is_off, is_there}
use Rattle.net_world.proofs.ListLemmas.{same_some}

-- ---- a server that is found

-- In this world the node of server s was found, which shows this.
pub record Found (w : World) (s : ℕ) (shown : Option (Server Kept)) : Type 0 where
  pub node : ServerNode
  pub there : s < length w.servers.items
  pub node_is : slice_get w.servers.items s ≡ Some node
  pub shows : (o : Opening) (past : List FrameEntry) → Stands o past node → Shows (server_nodes o) past node shown

pub not_there : (w : Setup) (past : List Change) (s : ℕ) (now : World) → StandsFor w past now → length now.servers.items ≤ s
    → unless_on w (trace w past) (nodes.Server s) ≡ Some NoServer
not_there w past s now stands h = none_there w past s (omega (arith, stands.number, h))

found_off : (w : Setup) (past : List Change) (s : ℕ) (now : World) → StandsFor w past now → Found now s None
    → unless_on w (trace w past) (nodes.Server s) ≡ Some NodeOff
found_off w past s now stands f =
    is_off w past s (omega (arith, stands.number, f.there)) (f.shows (opening_of s) (entries past s) (stands.servers_are s f.node f.node_is))

found_on : (w : Setup) (past : List Change) (s : ℕ) (now : World) (core : Server Kept) → StandsFor w past now → Found now s (Some core)
    → IsRunning w past s core
found_on w past s now core stands f =
    let h = f.shows (opening_of s) (entries past s) (stands.servers_are s f.node f.node_is) in
    record { on = is_there w past s (omega (arith, stands.number, f.there)) h.2; stands = h.1; up = h.2 }

-- The node shows a server that runs, or the server is away.
pub found_runs : (w : Setup) (past : List Change) (s : ℕ) (now : World) (shown : Option (Bor (Server Kept))) → StandsFor w past now
    → Found now s (option_copied shown) → IfOk (ok_or shown NodeOff) (λ core. IsRunning w past s core.now)
found_runs w past s now (Some core) stands f = found_on w past s now core.now stands f
found_runs w past s now None stands f = tt

pub found_away : (w : Setup) (past : List Change) (s : ℕ) (now : World) (shown : Option (Bor (Server Kept))) → StandsFor w past now
    → Found now s (option_copied shown) → IfErr (ok_or shown NodeOff) (IsAway w past s)
found_away w past s now (Some core) stands f = tt
found_away w past s now None stands f = (found_off w past s now stands f, refl)

-- It shows all that the trace says of it.
pub shown : LooksAtAll → (w : Setup) (past : List Change) (s : ℕ) → is_up (opening_of s) (entries past s) ≡ true
    → shown_entries (packets_heard (opening_of s) (entries past s)) ≡ of_server s (trace w past)
shown law w past s up = law (packets_heard (opening_of s) (entries past s)) up ∙ heard_is w past s

-- ---- an open write

no_write : (x : Option Fault) (o : Option Origin) → x ≡ None → o ≡ None → option_or x (unless (is_some o) NoWrite) ≡ Some NoWrite
no_write x o h k = rw (h, k) refl

some_write : (x : Option Fault) (o : Option Origin) (origin : Origin) → x ≡ None → o ≡ Some origin → option_or x (unless (is_some o) NoWrite) ≡ None
some_write x o origin h k = rw (h, k) refl

other_first : (x : Option Fault) (fault : Fault) (y : Option Fault) → x ≡ Some fault → option_or x y ≡ Some fault
other_first x fault y h = rw h refl

pub off_first : (w : Setup) (past : List Change) (s j k : ℕ) (fault : Fault) → unless_on w (trace w past) (nodes.Server s) ≡ Some fault
    → unless_open w (trace w past) s j k ≡ Some fault
off_first w past s j k fault h = other_first (unless_on w (trace w past) (nodes.Server s)) fault (unless (is_some (open_at (trace w past) s j k)) NoWrite) h

none_told : (x : Option Ticket) (job : Option Job) → (x ≡ None) ⊎ (job ≡ None) → origin_told x job ≡ None
none_told x job (inl h) = rw h refl
none_told (Some ticket) job (inr h) = rw h refl
none_told None job (inr h) = refl

-- No ticket is there, or no job.
pub no_open : TicketsTellOrigins → (w : Setup) (past : List Change) (s j k : ℕ) → unless_on w (trace w past) (nodes.Server s) ≡ None
    → (open_write (opening_of s) (of_server s (trace w past)) j k ≡ None) ⊎ (run_job (opening_of s) (of_server s (trace w past)) j ≡ None)
    → unless_open w (trace w past) s j k ≡ Some NoWrite
no_open law w past s j k on h =
    let now = work (opening_of s) (of_server s (trace w past)) in
    no_write (unless_on w (trace w past) (nodes.Server s)) (open_at (trace w past) s j k) on
    (law now j k ∙ none_told (open_ticket now j k) (job_of_run now j) h)

few_jobs : (now : Option Work) (j : ℕ) (job : Job) → ((w : Work) → now ≡ Some w → length w.jobs ≤ MAX_JOBS) → job_of_run now j ≡ Some job → j < MAX_JOBS
few_jobs None j job f h = absurd cc
few_jobs (Some w) j job f h = omega (arith, slice_get_within w.jobs j job h, f w refl)

ticket_told : (x : Option Origin) (origin : Origin) (ticket : Ticket) (k : ℕ) → x ≡ Some origin → option_map (λ o. ticket_of o k) x ≡ Some ticket
    → ticket ≡ ticket_of origin k
ticket_told None origin ticket k h e = absurd cc
ticket_told (Some o) origin ticket k h e = same o origin ticket h e
  where
    same : (o origin : Origin) (ticket : Ticket) → Some o ≡ Some origin → Some (ticket_of o k) ≡ Some ticket → ticket ≡ ticket_of origin k
    same o origin ticket h e = let i : o ≡ origin =
        same_some o origin h in let t : ticket_of o k ≡ ticket = same_some (ticket_of o k) ticket e in sym t ∙ ap (λ (x : Origin). ticket_of x k) i

-- A ticket and its job are there.
pub is_open : TicketsTellOrigins → RunsHaveSets → (w : Setup) (past : List Change) (s j k : ℕ) (ticket : Ticket) (job : Job)
    → unless_on w (trace w past) (nodes.Server s) ≡ None
    → open_write (opening_of s) (of_server s (trace w past)) j k ≡ Some ticket → run_job (opening_of s) (of_server s (trace w past)) j ≡ Some job
    → IsOpen w past s j k ticket job.rec
is_open law sets w past s j k ticket job on h r =
    let o = opening_of s in
    let list = of_server s (trace w past) in
    let now = work o list in
    let origin : Origin = record { boot = ticket.boot; key = ticket.key; job = job.rec } in
    let told : open_origin now j k ≡ Some origin = law now j k ∙ ap (λ x. origin_told x (job_of_run now j)) h ∙ ap (origin_told (Some ticket)) r in
    record {
      there = some_write (unless_on w (trace w past) (nodes.Server s)) (open_at (trace w past) s j k) origin on told;
      on = on;
      below = few_jobs now j job (λ found e. ((sets o list found e).within).few) r;
      origin = origin;
      is_open = told;
      ticket_is = ticket_told (open_origin now j k) origin ticket k told h;
      rec_is = refl;
    }

-- ---- a job that is ready to be checked

has_check : (x : Option Check) (j : ℕ) (job : Job) → job_of_check x j ≡ Some job → (c : Check) × (x ≡ Some c) × (slice_get c.jobs j ≡ Some job)
has_check None j job h = absurd (none_some h)
  where
    none_some : None ≡ Some job → ⊥
    none_some e = cc
has_check (Some c) j job h = (c, refl, h)

no_job : (x : Option Check) (j : ℕ) (held : ℕ → List ℕ) → job_of_check x j ≡ None → end_of_check_in x j held ≡ None
no_job None j held h = refl
no_job (Some c) j held h = ap (λ y. check_end c j (report_for c j y held)) h

pub no_job_ready : (w : Setup) (past : List Change) (s j : ℕ) → check_job (opening_of s) (of_server s (trace w past)) j ≡ None → end_of_check w past s j ≡ None
no_job_ready w past s j h = no_job (check (opening_of s) (of_server s (trace w past))) j (content w past s j) h

unready : (c : Check) (j : ℕ) (job : Job) (held : ℕ → List ℕ) (p : Progress) → is_ready (Some p) ≡ false → report_by c j job p held ≡ None
unready c j job held Wanting h = refl
unready c j job held Full h = absurd (true_false h)
  where
    true_false : true ≡ false → ⊥
    true_false e = cc
unready c j job held (With state) h = absurd (true_false h)
  where
    true_false : true ≡ false → ⊥
    true_false e = cc
unready c j job held (Refused value) h = refl
unready c j job held (Done r) h = refl

-- How far the job of the open check is.
progress_here : (o : Opening) (list : List server.Entry) (j : ℕ) (job : Job) (c : Check) (p : Progress) → check o list ≡ Some c → slice_get c.jobs j ≡ Some job
    → Some p ≡ progress o list j → progress_after c j job c.since ≡ p
progress_here o list j job c p is at h = same_some (progress_after c j job c.since) p (sym (h ∙ ap (λ x. progress_in x j) is ∙ ap (progress_at c j) at))

pub not_ready : (w : Setup) (past : List Change) (s j : ℕ) (job : Job) (p : Progress) → check_job (opening_of s) (of_server s (trace w past)) j ≡ Some job
    → Some p ≡ progress (opening_of s) (of_server s (trace w past)) j
    → is_ready (Some p) ≡ false → end_of_check w past s j ≡ None
not_ready w past s j job p is at h =
    let o = opening_of s in
    let list = of_server s (trace w past) in
    let f = has_check (check o list) j job is in
    let c = f.0 in
    let far = progress_here o list j job c p f.1 f.2 at in
    ap (λ x. end_of_check_in x j (content w past s j)) f.1 ∙ ap (λ y. check_end c j (report_for c j y (content w past s j))) f.2
    ∙ ap (check_end c j) (ap (λ q. report_by c j job q (content w past s j)) far ∙ unready c j job (content w past s j) p h)

none_at : (c : Check) (j : ℕ) (job : Job) (x : Option Progress) → x ≡ Some (progress_after c j job c.since) → x ≡ None → ⊥
none_at c j job x h e = bad (sym h ∙ e)
  where
    bad : Some (progress_after c j job c.since) ≡ None → ⊥
    bad e = cc

pub no_progress : (w : Setup) (past : List Change) (s j : ℕ) (job : Job) → check_job (opening_of s) (of_server s (trace w past)) j ≡ Some job
    → None ≡ progress (opening_of s) (of_server s (trace w past)) j → end_of_check w past s j ≡ None
no_progress w past s j job is at =
    let o = opening_of s in
    let list = of_server s (trace w past) in
    let f = has_check (check o list) j job is in
    absurd (none_at f.0 j job (progress o list j) (ap (λ x. progress_in x j) f.1 ∙ ap (progress_at f.0 j) f.2) (sym at))

made_by : (c : Check) (j : ℕ) (job : Job) (p : Progress) → progress_after c j job c.since ≡ p → is_ready (Some p) ≡ true → IsMadeBy c j job (state_of p)
made_by c j job Full h r = h
made_by c j job (With state) h r = h
made_by c j job Wanting h r = absurd (false≢true r)
made_by c j job (Refused value) h r = absurd (false≢true r)
made_by c j job (Done report) h r = absurd (false≢true r)

key_same : (run r s t j : ℕ) → r ≡ run → t ≡ s → key_at run s j ≡ key_at r t j
key_same run r s t j e f = rw (e, f) refl

pub ready_is : OpenCheckIsLast → ChecksHaveSets → (w : Setup) (past : List Change) (s j : ℕ) (job : Job) (p : Progress) (now : Status)
    → unless_on w (trace w past) (nodes.Server s) ≡ None
    → check_job (opening_of s) (of_server s (trace w past)) j ≡ Some job → Some p ≡ progress (opening_of s) (of_server s (trace w past)) j
    → is_ready (Some p) ≡ true → now ≡ status (opening_of s) (of_server s (trace w past))
    → (state : Option State) → state ≡ state_of p → IsReady w past s j
    (record {
      boot = now.boot;
      attempt = now.attempt;
      key = record { run = now.last_run; server = s; job = j };
      rec = job.rec;
      fatal = job.fatal;
      state = state;
    })
ready_is last sets w past s j job p now on is at r shows state held =
    let o = opening_of s in
    let list = of_server s (trace w past) in
    let f = has_check (check o list) j job is in
    let c = f.0 in
    let of = last o list c f.1 in
    let few = (sets o list c f.1).within in
    record {
      on = on;
      below = omega (arith, slice_get_within c.jobs j job f.2, few.few);
      now = c;
      is_open = f.1;
      job = job;
      has_job = f.2;
      made = subst (IsMadeBy c j job) (sym held) (made_by c j job p (progress_here o list j job c p f.1 f.2 at) r);
      boot = ap (λ (x : Status). x.boot) shows ∙ sym of.boot_is;
      attempt = ap (λ (x : Status). x.attempt) shows ∙ ap number_of_check f.1;
      key = key_same now.last_run c.run s c.server j (of.run ∙ sym (ap (λ (x : Status). x.last_run) shows)) of.server;
      rec_is = refl;
      fatal = refl;
    }

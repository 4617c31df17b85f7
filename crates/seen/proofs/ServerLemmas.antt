-- What a server sends where it starts a run, takes its states and reports of a check, and which packet asks for it.
use Rattle.std.proofs.Common.{◌≡◌, refl, sym, ◌∙◌, ap, subst, inl, inr, ℕ, zero, suc, ◌+◌, ◌<◌, arith, Bool, true, false, ◌&&◌, ◌==◌, List, [], ◌∷◌, length, Option, Some, None}
use Rattle.std.specs.Prelude.{if◌then◌else◌, nat_le, map, slice_get, Contains}
use Rattle.std.proofs.lemmas.Bool.{and_parts, eqb-true, eq-eqb}
use Rattle.std.proofs.lemmas.Bool.Decides.{nat_tests}
use Rattle.fc_base.specs.declared.fault.Fault.{Fault}
use Rattle.fc_base.proofs.ListLemmas.{none_in, first_of, behind_one, first_or_behind, of_map}
use Rattle.job_file.specs.declared.job.Job.{Job}
use Rattle.verify_state.specs.State.{State}
use Rattle.messages.specs.Nodes.{is_client, is_server}
use Rattle.messages.specs.declared.node.Node.{Node}
use Rattle.messages.specs.declared.node.Node.TheVariants as nodes
use Rattle.messages.specs.declared.body.Body.{Body}
use Rattle.messages.specs.declared.body.Body.TheVariants as bodies
use Rattle.messages.specs.declared.packet.PacketParts.{PacketParts}
use Rattle.messages.specs.declared.refusal.Act.{Act}
use Rattle.disk_model.specs.declared.save_outcome.SaveOutcome.{SaveOutcome}
use Rattle.disk_model.specs.SaveOutcome.{is_lost}
use Rattle.server_core.specs.Inputs.{PacketInput}
use Rattle.server_core.specs.declared.input.Input.TheVariants as inputs
use Rattle.server_core.specs.History.{Opening, Entry, Met}
use Rattle.server_core.specs.Request.{Request, ToStage, ToStart, ToTrigger, ToMark, ToStop, ToVerify, ToHold, ToPassFully, ToIssue, ToEnd, ToReport, ToNobody, request_in, request_of}
use Rattle.server_core.specs.Run.{Work, Halt, halt_of, origin_of, is_open}
use Rattle.server_core.specs.Words.{Staged, last_run, work, for_run, due}
use Rattle.server_core.specs.Taken.{job_state, saved_state, state_of_job, triggers, takes_now, takes}
use Rattle.server_core.specs.Replies.{Now, present, reply_to_start}
use Rattle.server_core.specs.Replies.{state_frame, state_frames, reply_to_halt, reply_to_trigger}
use Rattle.server_core.specs.Replies.{replies}
use Rattle.server_core.specs.Answers.{now, refusal, to_client, sent_by, packets}
use Rattle.server_core.specs.DueStart.{DueIsStart}
use Rattle.net_world.proofs.TraceLemmas.{same_packet}
use Rattle.seen.specs.Sightings.{from_server, to_server}

-- ---- lists

pub in_map : {X Y : Type 0} (f : X → Y) (xs : List X) (x : X) → Contains xs x → Contains (map f xs) (f x)
in_map f [] x h = absurd (none_in x h)
in_map f (y ∷ ys) x h = elim (first_or_behind y ys x h) [
  | inl e ↦ subst (λ z. Contains (f y ∷ map f ys) (f z)) e (first_of (f y) (map f ys))
  | inr i ↦ behind_one (f y) (map f ys) (f x) (in_map f ys x i)
]

-- ---- packets that ask

-- The request comes in a packet.
abbrev pub is_packets : Request → Bool
is_packets (ToStage r text) = true
is_packets (ToStart r) = true
is_packets (ToTrigger r act) = true
is_packets (ToMark r j) = true
is_packets (ToStop r) = true
is_packets (ToVerify r a text) = true
is_packets (ToHold a state) = true
is_packets (ToPassFully a j) = true
is_packets (ToIssue j) = false
is_packets (ToEnd ticket end) = false
is_packets (ToReport b a j report) = false
is_packets ToNobody = false

pub client_is : (n : Node) → is_client n ≡ true → n ≡ nodes.Client
client_is (nodes.Server s) h = cc
client_is nodes.Client h = refl
client_is nodes.Mirror h = cc

pub server_is : (me : ℕ) (n : Node) → is_server me n ≡ true → n ≡ nodes.Server me
server_is me (nodes.Server s) h = ap nodes.Server (eqb-true s me h)
server_is me nodes.Client h = cc
server_is me nodes.Mirror h = cc

start_in : (b : Body) (r : ℕ) → request_in b ≡ ToStart r → b ≡ bodies.Start r
start_in (bodies.Start q) r h = cc
start_in (bodies.Jobs q text) r h = cc
start_in (bodies.Trigger q act) r h = cc
start_in (bodies.StateAck q job) r h = cc
start_in (bodies.Stop q) r h = cc
start_in (bodies.Verify q a text) r h = cc
start_in (bodies.Saved a state) r h = cc
start_in (bodies.NoSaved q a job) r h = cc
start_in (bodies.JobsOk q n) r h = cc
start_in (bodies.Started q) r h = cc
start_in (bodies.State n state) r h = cc
start_in (bodies.NoState q job n) r h = cc
start_in (bodies.Stopped q) r h = cc
start_in (bodies.WantState q a job) r h = cc
start_in (bodies.Report q a job n report) r h = cc
start_in (bodies.Refused refusal) r h = cc
start_in (bodies.Copy state) r h = cc
start_in (bodies.CopyOk q server job) r h = cc
start_in (bodies.Fetch g) r h = cc
start_in (bodies.Granted g) r h = cc

trigger_in : (b : Body) (r : ℕ) (act : Act) → request_in b ≡ ToTrigger r act → b ≡ bodies.Trigger r act
trigger_in (bodies.Trigger q a) r act h = cc
trigger_in (bodies.Start q) r act h = cc
trigger_in (bodies.Jobs q text) r act h = cc
trigger_in (bodies.StateAck q job) r act h = cc
trigger_in (bodies.Stop q) r act h = cc
trigger_in (bodies.Verify q a text) r act h = cc
trigger_in (bodies.Saved a state) r act h = cc
trigger_in (bodies.NoSaved q a job) r act h = cc
trigger_in (bodies.JobsOk q n) r act h = cc
trigger_in (bodies.Started q) r act h = cc
trigger_in (bodies.State n state) r act h = cc
trigger_in (bodies.NoState q job n) r act h = cc
trigger_in (bodies.Stopped q) r act h = cc
trigger_in (bodies.WantState q a job) r act h = cc
trigger_in (bodies.Report q a job n report) r act h = cc
trigger_in (bodies.Refused refusal) r act h = cc
trigger_in (bodies.Copy state) r act h = cc
trigger_in (bodies.CopyOk q server job) r act h = cc
trigger_in (bodies.Fetch g) r act h = cc
trigger_in (bodies.Granted g) r act h = cc

pub packet_is : (me : ℕ) (p : PacketParts) (t : Bool) (b : Body) (x : Request) → (is_client p.from && is_server me p.to) ≡ t
    → (if t then request_in p.body else ToNobody) ≡ x → (x ≡ ToNobody → ⊥) → (request_in p.body ≡ x → p.body ≡ b) → p ≡ to_server me b
packet_is me p true b x e h some f =
    let ends = and_parts (is_client p.from) (is_server me p.to) e in
    same_packet p (to_server me b) (client_is p.from ends.0) (server_is me p.to ends.1) (f h)
packet_is me p false b x e h some f = absurd (some (sym h))

pub asks_start : (me r : ℕ) (p : PacketParts) → request_of me (inputs.Deliver p) ≡ ToStart r → p ≡ to_server me (bodies.Start r)
asks_start me r p h = packet_is me p (is_client p.from && is_server me p.to) (bodies.Start r) (ToStart r) refl h (λ e. cc) (start_in p.body r)

pub asks_trigger : (me r : ℕ) (act : Act) (p : PacketParts) → request_of me (inputs.Deliver p) ≡ ToTrigger r act → p ≡ to_server me (bodies.Trigger r act)
asks_trigger me r act p h =
    packet_is me p (is_client p.from && is_server me p.to) (bodies.Trigger r act) (ToTrigger r act) refl h (λ e. cc) (trigger_in p.body r act)

-- ---- what is sent

-- What is replied to an event that isn't refused, and whose save hasn't failed, is sent.
pub sends : (o : Opening) (past : List Entry) (e : PacketInput) (left : SaveOutcome) (b : Body) → refusal o past e ≡ None → is_lost left ≡ false
    → Contains (replies (now o past) (request_of o.me e)) b → Contains (packets o past (Met e left)) (from_server o.me b)
sends o past e left b free kept h =
    let all = replies (now o past) (request_of o.me e) in
    let is : sent_by (is_lost left) (refusal o past e) all ≡ all = ap (λ t. sent_by t (refusal o past e) all) kept ∙ ap (λ x. sent_by false x all) free in
    subst (λ bs. Contains (to_client o.me bs) (from_server o.me b)) (sym is) (in_map (from_server o.me) all b h)

sent_reply : (me : ℕ) (lost : Bool) (x : Option Fault) (all : List Body) (p : PacketParts) → Contains (to_client me (sent_by lost x all)) p
    → (lost ≡ false) × (x ≡ None) × Contains all p.body
sent_reply me true None all p h = absurd (none_in p h)
sent_reply me false None all p h =
    let s = of_map (from_server me) all p h in
    (refl, refl, subst (λ (q : PacketParts). Contains all q.body) s.2 s.1)
sent_reply me true (Some fault) all p h = absurd (none_in p h)
sent_reply me false (Some fault) all p h = absurd (none_in p h)

-- What an event sends is replied to it, which isn't refused, and whose save hasn't failed.
pub was_replied : (o : Opening) (past : List Entry) (e : PacketInput) (left : SaveOutcome) (p : PacketParts) → Contains (packets o past (Met e left)) p
    → (is_lost left ≡ false) × (refusal o past e ≡ None) × Contains (replies (now o past) (request_of o.me e)) p.body
was_replied o past e left p h = sent_reply o.me (is_lost left) (refusal o past e) (replies (now o past) (request_of o.me e)) p h

-- ---- a start

start_replies : (n : Now) (s : Staged) (w : Option Work) → n.last < s.run → n.staged ≡ Some s → is_open n.run ≡ false
    → Contains (reply_to_start n s.run w) (bodies.Started s.run)
start_replies n s (Some w) above staged none = first_of (bodies.Started s.run) []
start_replies n s None above staged none =
    let old : nat_le s.run n.last ≡ false = grind (arith, nat_tests) in
    let same : (s.run == s.run) ≡ true = eq-eqb s.run s.run refl in
    let found : for_run s.run n.staged ≡ Some s = ap (for_run s.run) staged ∙ ap (λ b. if b then Some s else None) same in
    rw (old, found, none) (first_of (bodies.Started s.run) [])

-- A Start that is due is answered by Started.
pub due_is_answered : DueIsStart → (o : Opening) (past : List Entry) (e : PacketInput) (s : Staged) → due o past e ≡ Some s
    → Contains (replies (now o past) (request_of o.me e)) (bodies.Started s.run)
due_is_answered law o past e s h =
    let k = law o past e s h in
    subst (λ x. Contains (replies (now o past) x) (bodies.Started s.run)) (sym k.start)
    (start_replies (now o past) s (present s.run (work o past)) k.above k.staged_is k.none_open)

-- ---- a taking

-- What a taking is of: the run at work, which has not ended, and a job of it that saves its state.
pub record IsOf (run j : ℕ) (x : Request) (now_at : Option Work) (state : State) : Type 0 where
  pub at : Work
  pub is_at : now_at ≡ Some at
  pub run_is : at.run ≡ run
  pub act : Act
  pub asks : x ≡ ToTrigger run act
  pub writes : halt_of at.run at.since ≡ None
  pub job : Job
  pub has_job : slice_get at.jobs j ≡ Some job
  pub saves : job.save ≡ true
  pub state_is : job_state (origin_of at j job) at.since ≡ state

asks_for : (run : ℕ) (x : Request) → triggers run x ≡ true → (act : Act) × (x ≡ ToTrigger run act)
asks_for run (ToTrigger r act) h = let same : r ≡ run = eqb-true r run h in (act, ap (λ n. ToTrigger n act) same)
asks_for run (ToStart r) h = absurd cc
asks_for run (ToStage r text) h = absurd cc
asks_for run (ToMark r j) h = absurd cc
asks_for run (ToStop r) h = absurd cc
asks_for run (ToVerify r a text) h = absurd cc
asks_for run (ToHold a state) h = absurd cc
asks_for run (ToPassFully a j) h = absurd cc
asks_for run (ToIssue j) h = absurd cc
asks_for run (ToEnd ticket end) h = absurd cc
asks_for run (ToReport b a j report) h = absurd cc
asks_for run ToNobody h = absurd cc

some_job : (w : Work) (j : ℕ) (x : Option Job) (state : State) → saved_state w j x w.since ≡ Some state
    → (job : Job) × (x ≡ Some job) × (job.save ≡ true) × (job_state (origin_of w j job) w.since ≡ state)
some_job w j None state h = absurd cc
some_job w j (Some job) state h = let k = saves job.save refl h in (job, refl, k.0, k.1)
  where
    saves : (b : Bool) → job.save ≡ b → (if b then Some (job_state (origin_of w j job) w.since) else None) ≡ Some state
        → (job.save ≡ true) × (job_state (origin_of w j job) w.since ≡ state)
    saves true e k = (e, cc)
    saves false e k = absurd cc

taken_now : (u v : Bool) (w : Work) (j : ℕ) (x : Option Halt) (state : State) → takes_now (u && v) w j x ≡ Some state
    → (u ≡ true) × (v ≡ true) × (x ≡ None) × (state_of_job w j w.since ≡ Some state)
taken_now u v w j (Some halt) state h = absurd cc
taken_now true true w j None state h = (refl, refl, refl, h)
taken_now true false w j None state h = absurd cc
taken_now false v w j None state h = absurd cc

pub taking_is_of : (run j : ℕ) (x : Request) (now_at : Option Work) (state : State) → takes run j x now_at ≡ Some state → IsOf run j x now_at state
taking_is_of run j x None state h = absurd cc
taking_is_of run j x (Some w) state h =
    let k = taken_now (triggers run x) (w.run == run) w j (halt_of w.run w.since) state h in
    let a = asks_for run x k.0 in
    let s = some_job w j (slice_get w.jobs j) state k.3 in
    record {
      at = w;
      is_at = refl;
      run_is = eqb-true w.run run k.1;
      act = a.0;
      asks = a.1;
      writes = k.2;
      job = s.0;
      has_job = s.1;
      saves = s.2;
      state_is = s.3;
    }

framed : (w : Work) (before : List Request) (first j : ℕ) (jobs : List Job) (job : Job) → slice_get jobs j ≡ Some job
    → Contains (state_frames w before first jobs) (state_frame w (first + j) job before)
framed w before first j [] job h = absurd cc
framed w before first zero (here ∷ jobs) job h =
    let same : here ≡ job = cc in
    let place : first ≡ first + 0 = omega arith in
    subst (λ n. Contains (state_frames w before first (here ∷ jobs)) (state_frame w n job before)) place
    (subst (λ k. Contains (state_frames w before first (here ∷ jobs)) (state_frame w first k before)) same
    (first_of (state_frame w first here before) (state_frames w before (first + 1) jobs)))
framed w before first (suc j) (here ∷ jobs) job h =
    let place : first + 1 + j ≡ first + suc j = omega arith in
    behind_one (state_frame w first here before) (state_frames w before (first + 1) jobs) (state_frame w (first + suc j) job before)
    (subst (λ n. Contains (state_frames w before (first + 1) jobs) (state_frame w n job before)) place (framed w before (first + 1) j jobs job h))

from_0 : (j : ℕ) → 0 + j ≡ j
from_0 j = omega arith

-- A taking is answered by the state.
pub taking_is_answered : (o : Opening) (past : List Entry) (e : PacketInput) (run j : ℕ) (state : State) → takes run j (request_of o.me e) (work o past) ≡ Some state
    → (jobs : ℕ) × Contains (replies (now o past) (request_of o.me e)) (bodies.State jobs state)
taking_is_answered o past e run j state h =
    let k = taking_is_of run j (request_of o.me e) (work o past) state h in
    let w = k.at in
    let same : (w.run == run) ≡ true = eq-eqb w.run run k.run_is in
    let found : present run (work o past) ≡ Some w = ap (present run) k.is_at ∙ ap (λ b. if b then Some w else None) same in
    let all : replies (now o past) (ToTrigger run k.act) ≡ state_frames w w.since 0 w.jobs =
    ap (reply_to_trigger (now o past) run) found ∙ ap (reply_to_halt w (last_run o past)) k.writes in
    let body : state_frame w j k.job w.since ≡ bodies.State (length w.jobs) state =
    ap (λ b. if b then bodies.State (length w.jobs) (job_state (origin_of w j k.job) w.since) else bodies.NoState w.run j (length w.jobs)) k.saves
    ∙ ap (bodies.State (length w.jobs)) k.state_is in (
      length w.jobs,
      subst (λ x. Contains (replies (now o past) x) (bodies.State (length w.jobs) state)) (sym k.asks)
          (subst (λ bs. Contains bs (bodies.State (length w.jobs) state)) (sym all)
          (subst (Contains (state_frames w w.since 0 w.jobs)) body
          (subst (λ i. Contains (state_frames w w.since 0 w.jobs) (state_frame w i k.job w.since)) (from_0 j) (framed w w.since 0 j w.jobs k.job k.has_job)))),
    )

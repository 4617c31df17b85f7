-- Each Jobs and each Verify that the client sends is of a run and an attempt that it gave a number.
use Rattle.std.proofs.Common.{◌≡◌, refl, sym, subst, ◌⊎◌, inl, inr, ℕ, ◌+◌, Bool, true, false, ◌==◌, ◌&&◌, List, [], ◌∷◌}
use Rattle.std.proofs.Common.{Option, Some, None}
use Rattle.std.specs.Prelude.{if◌then◌else◌, not, nat_lt, Contains}
use Rattle.std.specs.List.{AllByRecursion, flat_map}
use Rattle.std.proofs.lemmas.Bool.{eqb-true}
use Rattle.fc_base.specs.Counted.{numbers_below}
use Rattle.fc_base.proofs.ListLemmas.{all_append, all_flat, all_map, all_where, behind_one, first_of}
use Rattle.verify_state.specs.State.{State}
use Rattle.messages.specs.declared.body.Body.{Body}
use Rattle.messages.specs.declared.body.Body.TheVariants as bodies
use Rattle.messages.specs.declared.packet.PacketParts.{PacketParts}
use Rattle.messages.specs.declared.refusal.RefusedRequest.{RefusedRequest as AskedFor}
use Rattle.messages.specs.declared.refusal.RefusedRequest.TheVariants as asks
use Rattle.messages.specs.declared.refusal.Reason.{Reason}
use Rattle.messages.specs.declared.refusal.Reason.TheVariants as reasons
use Rattle.messages.specs.Nodes.{node_number}
use Rattle.client_core.specs.Inputs.{PacketInput}
use Rattle.client_core.specs.Inputs as inputs
use Rattle.client_core.specs.Life.{Deed, Begins, Triggers, Stops, Verifies, Hears, deeds_of}
use Rattle.client_core.specs.Life as lives
use Rattle.client_core.specs.declared.beginning.Beginning.{Beginning}
use Rattle.client_core.specs.declared.beginning.Beginning.TheVariants as begins
use Rattle.client_core.specs.declared.note.ClientNote.{ClientNote}
use Rattle.client_core.specs.declared.peers.Peers.{Peers}
use Rattle.client_core.specs.Begins.{jobs_refused, start_refused, begin_refused, begin_heard, begin_at}
use Rattle.client_core.specs.Requests as requests
use Rattle.client_core.specs.Requests.{Request, Telling, when_refused, check_refused, verify_refused, verify_heard, trigger_at, stop_at, verify_at}
use Rattle.client_core.specs.Asked.{rising, runs_of, attempts_of}
use Rattle.client_core.specs.Packets as clients
use Rattle.client_core.specs.Packets.{start_for, jobs_once_more, lacks_jobs, state_for, copy_for, replies, begin_again, packets_again, run_again, attempt_again}
use Rattle.client_core.specs.Packets.{requests_again, fetch_again, is_copied, copy_again, copies_again, packets_for}

if_same : {X : Type 0} (b : Bool) (x y : X) → x ≡ y → (if b then x else y) ≡ y
if_same true x y h = h
if_same false x y h = refl

jobs_unbegun : (reason : Reason) → jobs_refused reason begins.Unbegun ≡ begins.Unbegun
jobs_unbegun reasons.Busy = refl
jobs_unbegun reasons.Misfit = refl
jobs_unbegun _ = refl

start_unbegun : (reason : Reason) → start_refused reason begins.Unbegun ≡ begins.Unbegun
start_unbegun reasons.Busy = refl
start_unbegun reasons.Misfit = refl
start_unbegun _ = refl

refused_unbegun : (asked : AskedFor) (reason : Reason) → begin_refused asked reason begins.Unbegun ≡ begins.Unbegun
refused_unbegun asks.Jobs reason = jobs_unbegun reason
refused_unbegun asks.Start reason = start_unbegun reason
refused_unbegun _ reason = refl

heard_unbegun : (run : ℕ) (body : Body) → begin_heard run body begins.Unbegun ≡ begins.Unbegun
heard_unbegun run (bodies.JobsOk r jobs) = if_same (r == run) begins.Unbegun begins.Unbegun refl
heard_unbegun run (bodies.Started r) = if_same (r == run) begins.Unbegun begins.Unbegun refl
heard_unbegun run (bodies.Refused r) =
    if_same (r.run == run) (begin_refused r.asked r.reason begins.Unbegun) begins.Unbegun (refused_unbegun r.asked r.reason)
heard_unbegun run _ = refl

-- A run is unbegun, or it was begun with its text.
abbrev BegunOr : ℕ → Beginning → List ℕ → List Deed → Type 0
BegunOr run b text deeds = (b ≡ begins.Unbegun) ⊎ Contains deeds (Begins run text)

begun_behind : (run : ℕ) (b : Beginning) (text : List ℕ) (d : Deed) (deeds : List Deed) → BegunOr run b text deeds → BegunOr run b text (d ∷ deeds)
begun_behind run b text d deeds (inl is) = inl is
begun_behind run b text d deeds (inr h) = inr (behind_one d deeds (Begins run text) h)

begun_here : (here : Bool) (r run : ℕ) (now text : List ℕ) (b : Beginning) (deeds : List Deed) → (here ≡ true → r ≡ run) → BegunOr run b text deeds
    → BegunOr run (if here then begins.Staging else b) (if here then now else text) (Begins r now ∷ deeds)
begun_here true r run now text b deeds is h = inr (subst (λ n. Contains (Begins r now ∷ deeds) (Begins n now)) (is refl) (first_of (Begins r now) deeds))
begun_here false r run now text b deeds is h = begun_behind run b text (Begins r now) deeds h

begun_heard : (here : Bool) (run : ℕ) (body : Body) (b : Beginning) (text : List ℕ) (d : Deed) (deeds : List Deed) → BegunOr run b text deeds
    → BegunOr run (if here then begin_heard run body b else b) text (d ∷ deeds)
begun_heard here run body b text d deeds (inl is) =
    inl (subst (λ x. (if here then begin_heard run body x else x) ≡ begins.Unbegun) (sym is)
    (if_same here (begin_heard run body begins.Unbegun) begins.Unbegun (heard_unbegun run body)))
begun_heard here run body b text d deeds (inr h) = inr (behind_one d deeds (Begins run text) h)

begun_or : (run s : ℕ) (deeds : List Deed) → BegunOr run (begin_at run s deeds) (lives.text_of run deeds) deeds
begun_or run s [] = inl refl
begun_or run s (Begins r text ∷ deeds) =
    begun_here (r == run) r run text (lives.text_of run deeds) (begin_at run s deeds) deeds (λ e. eqb-true r run e) (begun_or run s deeds)
begun_or run s (Hears t body ∷ deeds) =
    begun_heard (t == s) run body (begin_at run s deeds) (lives.text_of run deeds) (Hears t body) deeds (begun_or run s deeds)
begun_or run s (Triggers r act ∷ deeds) = begun_behind run (begin_at run s deeds) (lives.text_of run deeds) (Triggers r act) deeds (begun_or run s deeds)
begun_or run s (Stops r ∷ deeds) = begun_behind run (begin_at run s deeds) (lives.text_of run deeds) (Stops r) deeds (begun_or run s deeds)
begun_or run s (Verifies r a text ∷ deeds) =
    begun_behind run (begin_at run s deeds) (lives.text_of run deeds) (Verifies r a text) deeds (begun_or run s deeds)

refused_unasked : (reason : Reason) → when_refused reason requests.Unasked ≡ requests.Unasked
refused_unasked reasons.Busy = refl
refused_unasked reasons.Misfit = refl
refused_unasked _ = refl

check_unasked : (t : Telling) (reason : Reason) → check_refused t reason requests.Unasked ≡ requests.Unasked
check_unasked t reasons.Misfit = refl
check_unasked t reasons.Busy = refl
check_unasked t _ = refl

verify_unasked : (asked : AskedFor) (t : Telling) (reason : Reason) → verify_refused asked t reason requests.Unasked ≡ requests.Unasked
verify_unasked asks.Verify t reason = check_unasked t reason
verify_unasked _ t reason = refl

answer_unasked : (run attempt : ℕ) (body : Body) → verify_heard run attempt body requests.Unasked ≡ requests.Unasked
answer_unasked run attempt (bodies.Report r a job jobs report) = if_same ((r == run) && (a == attempt)) requests.Unasked requests.Unasked refl
answer_unasked run attempt (bodies.Refused r) =
    let t : Telling = record { job = r.job; jobs = r.jobs; misfit = true } in
    if_same ((r.run == run) && (r.attempt == attempt)) (verify_refused r.asked t r.reason requests.Unasked) requests.Unasked
    (verify_unasked r.asked t r.reason)
answer_unasked run attempt _ = refl

-- An attempt is unasked, or it was made of its run and with its text.
abbrev AskedOr : ℕ → ℕ → Request → List ℕ → List Deed → Type 0
AskedOr run attempt q text deeds = (q ≡ requests.Unasked) ⊎ Contains deeds (Verifies run attempt text)

asked_behind : (run attempt : ℕ) (q : Request) (text : List ℕ) (d : Deed) (deeds : List Deed) → AskedOr run attempt q text deeds
    → AskedOr run attempt q text (d ∷ deeds)
asked_behind run attempt q text d deeds (inl is) = inl is
asked_behind run attempt q text d deeds (inr h) = inr (behind_one d deeds (Verifies run attempt text) h)

asked_here : (here : Bool) (r run a attempt : ℕ) (now text : List ℕ) (q : Request) (deeds : List Deed) → (here ≡ true → a ≡ attempt)
    → AskedOr run attempt q text deeds
    → AskedOr (if here then r else run) attempt (if here then requests.Open [] else q) (if here then now else text) (Verifies r a now ∷ deeds)
asked_here true r run a attempt now text q deeds is h =
    inr (subst (λ n. Contains (Verifies r a now ∷ deeds) (Verifies r n now)) (is refl) (first_of (Verifies r a now) deeds))
asked_here false r run a attempt now text q deeds is h = asked_behind run attempt q text (Verifies r a now) deeds h

asked_heard : (here : Bool) (run attempt : ℕ) (body : Body) (q : Request) (text : List ℕ) (d : Deed) (deeds : List Deed) → AskedOr run attempt q text deeds
    → AskedOr run attempt (if here then verify_heard run attempt body q else q) text (d ∷ deeds)
asked_heard here run attempt body q text d deeds (inl is) =
    inl (subst (λ x. (if here then verify_heard run attempt body x else x) ≡ requests.Unasked) (sym is)
    (if_same here (verify_heard run attempt body requests.Unasked) requests.Unasked (answer_unasked run attempt body)))
asked_heard here run attempt body q text d deeds (inr h) = inr (behind_one d deeds (Verifies run attempt text) h)

asked_or : (attempt s : ℕ) (deeds : List Deed)
    → AskedOr (lives.run_of attempt deeds) attempt (verify_at attempt s deeds) (lives.check_of attempt deeds) deeds
asked_or attempt s [] = inl refl
asked_or attempt s (Verifies r a text ∷ deeds) =
    asked_here (a == attempt) r (lives.run_of attempt deeds) a attempt text (lives.check_of attempt deeds) (verify_at attempt s deeds) deeds
    (λ e. eqb-true a attempt e) (asked_or attempt s deeds)
asked_or attempt s (Hears t body ∷ deeds) =
    asked_heard (t == s) (lives.run_of attempt deeds) attempt body (verify_at attempt s deeds) (lives.check_of attempt deeds) (Hears t body) deeds
    (asked_or attempt s deeds)
asked_or attempt s (Begins r text ∷ deeds) =
    asked_behind (lives.run_of attempt deeds) attempt (verify_at attempt s deeds) (lives.check_of attempt deeds) (Begins r text) deeds
    (asked_or attempt s deeds)
asked_or attempt s (Triggers r act ∷ deeds) =
    asked_behind (lives.run_of attempt deeds) attempt (verify_at attempt s deeds) (lives.check_of attempt deeds) (Triggers r act) deeds
    (asked_or attempt s deeds)
asked_or attempt s (Stops r ∷ deeds) =
    asked_behind (lives.run_of attempt deeds) attempt (verify_at attempt s deeds) (lives.check_of attempt deeds) (Stops r) deeds (asked_or attempt s deeds)

-- ---- what is sent was done

-- A Jobs or a Verify is of a deed.
abbrev pub Carries : List Deed → Body → Type 0
Carries deeds (bodies.Jobs run text) = Contains deeds (Begins run text)
Carries deeds (bodies.Verify run attempt text) = Contains deeds (Verifies run attempt text)
Carries deeds _ = Unit {0}

-- So it is with each of these packets.
abbrev pub AllCarry : List Deed → List PacketParts → Type 0
AllCarry deeds ps = AllByRecursion (λ p. Carries deeds p.body) ps

-- The deeds of the one list are in the other.
abbrev pub AreIn : List Deed → List Deed → Type 0
AreIn deeds more = (d : Deed) → Contains deeds d → Contains more d

start_carries : (all : List Deed) (run s : ℕ) (b : Beginning) → AllCarry all (start_for run s b)
start_carries all run s begins.Staging = (tt, tt)
start_carries all run s _ = tt

once_more_carries : (all : List Deed) (run s : ℕ) (text : List ℕ) (b : Beginning) → BegunOr run b text all → AllCarry all (jobs_once_more run text s b)
once_more_carries all run s text begins.Starting (inl is) = absurd cc
once_more_carries all run s text begins.Starting (inr h) = (h, tt)
once_more_carries all run s text _ h = tt

begin_carries : (all : List Deed) (run s : ℕ) (text : List ℕ) (b : Beginning) → BegunOr run b text all → AllCarry all (begin_again run text s b)
begin_carries all run s text begins.Staging (inl is) = absurd cc
begin_carries all run s text begins.Staging (inr h) = (h, tt)
begin_carries all run s text begins.Starting h = (tt, tt)
begin_carries all run s text _ h = tt

verify_carries : (all : List Deed) (run attempt s : ℕ) (text : List ℕ) (q : Request) → AskedOr run attempt q text all
    → AllCarry all (packets_again (bodies.Verify run attempt text) s q)
verify_carries all run attempt s text (requests.Open ts) (inl is) = absurd cc
verify_carries all run attempt s text (requests.Open ts) (inr h) = (h, tt)
verify_carries all run attempt s text _ h = tt

other_carries : (all : List Deed) (body : Body) (s : ℕ) (q : Request) → Carries all body → AllCarry all (packets_again body s q)
other_carries all body s (requests.Open ts) h = (h, tt)
other_carries all body s _ h = tt

begun_in : (all deeds : List Deed) (run s : ℕ) → AreIn deeds all → BegunOr run (begin_at run s deeds) (lives.text_of run deeds) all
begun_in all deeds run s old = elim (begun_or run s deeds) [ inl is ↦ inl is | inr h ↦ inr (old (Begins run (lives.text_of run deeds)) h) ]

asked_in : (all deeds : List Deed) (attempt s : ℕ) → AreIn deeds all
    → AskedOr (lives.run_of attempt deeds) attempt (verify_at attempt s deeds) (lives.check_of attempt deeds) all
asked_in all deeds attempt s old = elim (asked_or attempt s deeds) [
  | inl is ↦ inl is
  | inr h ↦ inr (old (Verifies (lives.run_of attempt deeds) attempt (lives.check_of attempt deeds)) h)
]

copy_carries : (all : List Deed) (m : Bool) (state : State) (x : Option State) → AllCarry all (copy_for m state x)
copy_carries all true state None = (tt, tt)
copy_carries all true state (Some kept) = tt
copy_carries all false state x = tt

state_carries : (all : List Deed) (run attempt job s : ℕ) (x : Option State) → AllCarry all (state_for run attempt job s x ∷ [])
state_carries all run attempt job s None = (tt, tt)
state_carries all run attempt job s (Some state) = (tt, tt)

reply_carries : (all deeds : List Deed) (m : Bool) (n : ClientNote) (s : ℕ) (body : Body) → AreIn deeds all → AllCarry all (replies m n deeds s body)
reply_carries all deeds m n s (bodies.JobsOk run jobs) old = start_carries all run s (begin_at run s deeds)
reply_carries all deeds m n s (bodies.State jobs state) old = (tt, copy_carries all m state _)
reply_carries all deeds m n s (bodies.NoState run job jobs) old = (tt, tt)
reply_carries all deeds m n s (bodies.WantState run attempt job) old = state_carries all run attempt job s _
reply_carries all deeds m n s (bodies.Refused r) old =
    let ps = jobs_once_more r.run (lives.text_of r.run deeds) s (begin_at r.run s deeds) in
    all_where (λ p. Carries all p.body) (lacks_jobs r.asked r.reason) ps
    (λ b. once_more_carries all r.run s (lives.text_of r.run deeds) (begin_at r.run s deeds) (begun_in all deeds r.run s old))
reply_carries all deeds m n s _ old = tt

run_carries : (all deeds : List Deed) (servers run : ℕ) → AreIn deeds all → AllCarry all (run_again servers deeds run)
run_carries all deeds servers run old =
    let P : PacketParts → Type 0 = λ p. Carries all p.body in
    let each = numbers_below servers in
    all_append P (flat_map (λ s. begin_again run (lives.text_of run deeds) s (begin_at run s deeds)) each) _
    (all_flat P (λ s. begin_again run (lives.text_of run deeds) s (begin_at run s deeds)) each
    (λ s. begin_carries all run s (lives.text_of run deeds) (begin_at run s deeds) (begun_in all deeds run s old)))
    (all_append P (flat_map (λ s. packets_again (bodies.Trigger run (lives.act_of run deeds)) s (trigger_at run s deeds)) each) _
    (all_flat P (λ s. packets_again (bodies.Trigger run (lives.act_of run deeds)) s (trigger_at run s deeds)) each
    (λ s. other_carries all (bodies.Trigger run (lives.act_of run deeds)) s (trigger_at run s deeds) tt))
    (all_flat P (λ s. packets_again (bodies.Stop run) s (stop_at run s deeds)) each
    (λ s. other_carries all (bodies.Stop run) s (stop_at run s deeds) tt)))

attempt_carries : (all deeds : List Deed) (servers attempt : ℕ) → AreIn deeds all → AllCarry all (attempt_again servers deeds attempt)
attempt_carries all deeds servers attempt old =
    let run = lives.run_of attempt deeds in
    let text = lives.check_of attempt deeds in
    all_flat (λ p. Carries all p.body) (λ s. packets_again (bodies.Verify run attempt text) s (verify_at attempt s deeds)) (numbers_below servers)
    (λ s. verify_carries all run attempt s text (verify_at attempt s deeds) (asked_in all deeds attempt s old))

fetch_carries : (all : List Deed) (b : Bool) (g : ℕ) → AllCarry all (if b then clients.to_mirror (bodies.Fetch g) ∷ [] else [])
fetch_carries all true g = (tt, tt)
fetch_carries all false g = tt

kept_carries : (all : List Deed) (state : State) (b : Bool) → AllCarry all (if b then [] else clients.to_mirror (bodies.Copy state) ∷ [])
kept_carries all state true = tt
kept_carries all state false = (tt, tt)

copies_carry : (all deeds : List Deed) (m : Bool) (states : List State) → AllCarry all (copies_again m states deeds)
copies_carry all deeds true states =
    all_flat (λ p. Carries all p.body) (copy_again deeds) states (λ state. kept_carries all state (is_copied state.key deeds))
copies_carry all deeds false states = tt

tick_carries : (all deeds : List Deed) (ps : Peers) (n : ClientNote) → AreIn deeds all → AllCarry all (clients.all_again ps n deeds)
tick_carries all deeds ps n old =
    let P : PacketParts → Type 0 = λ p. Carries all p.body in
    all_append P (fetch_again ps n.generation) _ (fetch_carries all (ps.mirror && (nat_lt 0 n.generation && not ps.granted)) n.generation)
    (all_append P (requests_again ps.servers deeds) _
    (all_append P (flat_map (run_again ps.servers deeds) (rising (runs_of deeds))) _
    (all_flat P (run_again ps.servers deeds) (rising (runs_of deeds)) (λ run. run_carries all deeds ps.servers run old))
    (all_flat P (attempt_again ps.servers deeds) (rising (attempts_of deeds)) (λ attempt. attempt_carries all deeds ps.servers attempt old)))
    (copies_carry all deeds ps.mirror n.kept))

-- What an answered call sends is of what it does, or of what was done before.
pub call_carries : (all deeds : List Deed) (ps : Peers) (n : ClientNote) (c : PacketInput) → AreIn (deeds_of n c) all → AreIn deeds all
    → AllCarry all (packets_for ps n deeds c)
call_carries all deeds ps n (inputs.Begin text) new old =
    all_map (λ p. Carries all p.body) (clients.to_server (bodies.Jobs (n.runs + 1) text)) (numbers_below ps.servers)
    (λ s. new (Begins (n.runs + 1) text) (first_of (Begins (n.runs + 1) text) []))
call_carries all deeds ps n (inputs.Trigger run act) new old =
    all_map (λ p. Carries all p.body) (clients.to_server (bodies.Trigger run act)) (numbers_below ps.servers) (λ s. tt)
call_carries all deeds ps n (inputs.Stop run) new old =
    all_map (λ p. Carries all p.body) (clients.to_server (bodies.Stop run)) (numbers_below ps.servers) (λ s. tt)
call_carries all deeds ps n (inputs.Verify run text) new old =
    all_map (λ p. Carries all p.body) (clients.to_server (bodies.Verify run (n.attempts + 1) text)) (numbers_below ps.servers)
    (λ s. new (Verifies run (n.attempts + 1) text) (first_of (Verifies run (n.attempts + 1) text) []))
call_carries all deeds ps n (inputs.Deliver p) new old = reply_carries all deeds ps.mirror n (node_number p.from) p.body old
call_carries all deeds ps n inputs.Tick new old = tick_carries all deeds ps n old

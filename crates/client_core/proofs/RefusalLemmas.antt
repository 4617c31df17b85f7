-- Why a client refuses a call.
use Rattle.std.proofs.Common.{◌≡◌, refl, ap, ◌∙◌, Bool, true, false, List, ◌++◌, None, Some}
use Rattle.std.specs.Prelude.{not, slice_get}
use Rattle.std.specs.List.{AllByRecursion}
use Rattle.fc_base.specs.declared.fault.Fault.{Fault}
use Rattle.fc_base.specs.declared.fault.Fault.TheVariants.{Down, JobTooLong, Misdirected, NoSuchRun, NumbersSpent}
use Rattle.fc_base.specs.Faults.{when}
use Rattle.disk_model.specs.Notes.{Note}
use Rattle.messages.specs.declared.body.Body.{Body}
use Rattle.messages.specs.declared.body.Body.TheVariants as bodies
use Rattle.messages.specs.Ranges.{is_text}
use Rattle.client_core.specs.Inputs.{PacketInput, Begin, Trigger, Stop, Verify, Deliver, Tick}
use Rattle.client_core.specs.declared.packet_client.PacketClient.{PacketClient}
use Rattle.client_core.specs.declared.note.ClientNote.{ClientNote}
use Rattle.client_core.specs.declared.peers.Peers.{Peers}
use Rattle.client_core.specs.History.{Opening, Entry}
use Rattle.verify_state.proofs.RefusalLemmas.{IsRefusal, one_refusal, more_refusals, first_refusal, state_refusals}
use Rattle.client_core.specs.Refusals.{is_for_client, is_begun, has_next, faults_of, faults_of_body, refusal_by}
use Rattle.client_core.specs.Words.{is_on, words_noted, refusal, peers}
use Rattle.client_core.specs.Stands.{StandsFor}
use Rattle.client_core.proofs.Looked.{looks_at_all}

on_of : (down on : Bool) → down ≡ not on → not down ≡ on
on_of true true e = cc
on_of true false e = refl
on_of false true e = refl
on_of false false e = cc

same_refusal : (on : Bool) (p q : Peers) (n m : ClientNote) (c : PacketInput) → (on ≡ true → p ≡ q) → (on ≡ true → m ≡ n) → refusal_by on p m c ≡ refusal_by on q n c
same_refusal true p q n m c f e = ap (λ x. refusal_by true x m c) (f refl) ∙ ap (λ x. refusal_by true q x c) (e refl)
same_refusal false p q n m c f e = refl

-- What the client refuses is what the list says.
pub refusal_is : {T : Type 0} (note : T → Note) (client : PacketClient T) (o : Opening) (past : List Entry) (c : PacketInput) → StandsFor note client o past
    → refusal_by (not client.durable.down) client.peers client.noted c ≡ refusal o past c
refusal_is note client o past c s =
    ap (λ on. refusal_by on client.peers client.noted c) (on_of client.durable.down (is_on past) s.on)
    ∙ same_refusal (is_on past) client.peers (peers o past) (words_noted o past) client.noted c (λ on. s.peers ∙ ap (peers o) (looks_at_all past on))
    (λ on. s.knows ∙ ap (words_noted o) (looks_at_all past on))

body_refusals : (n : ClientNote) (body : Body) → AllByRecursion IsRefusal (faults_of_body n body)
body_refusals n (bodies.State jobs state) = state_refusals n.kept state
body_refusals n (bodies.Copy state) = state_refusals n.kept state
body_refusals n _ = tt

call_refusals : (servers : Peers) (n : ClientNote) (c : PacketInput) → AllByRecursion IsRefusal (faults_of servers n c)
call_refusals servers n (Begin text) = let spent = not (has_next servers n.generation n.runs) in
    more_refusals (not (is_text text)) JobTooLong (when spent NumbersSpent) refl (one_refusal spent NumbersSpent refl)
call_refusals servers n (Trigger run act) = one_refusal (not (is_begun n run)) NoSuchRun refl
call_refusals servers n (Stop run) = one_refusal (not (is_begun n run)) NoSuchRun refl
call_refusals servers n (Verify run text) =
    let spent = not (has_next servers n.generation n.attempts) in
    let long = not (is_text text) in
    more_refusals (not (is_begun n run)) NoSuchRun (when long JobTooLong ++ when spent NumbersSpent) refl
    (more_refusals long JobTooLong (when spent NumbersSpent) refl (one_refusal spent NumbersSpent refl))
call_refusals servers n (Deliver p) = more_refusals (not (is_for_client servers p)) Misdirected (faults_of_body n p.body) refl (body_refusals n p.body)
call_refusals servers n Tick = tt

pub refusal_sort : (on : Bool) (servers : Peers) (n : ClientNote) (c : PacketInput) (fault : Fault) → refusal_by on servers n c ≡ Some fault → IsRefusal fault
refusal_sort on servers n c fault e = first_refusal _ fault (more_refusals (not on) Down (faults_of servers n c) refl (call_refusals servers n c)) e

-- ---- what a call that isn't refused has

pub begin_free : (down b c : Bool) → slice_get (when (not (not down)) Down ++ (when (not b) JobTooLong ++ when (not c) NumbersSpent)) 0 ≡ None
    → (down ≡ false) × (b ≡ true) × (c ≡ true)
begin_free false true true h = (refl, refl, refl)
begin_free false true false h = cc
begin_free false false c h = cc
begin_free true b c h = cc

pub run_free : (down b : Bool) → slice_get (when (not (not down)) Down ++ when (not b) NoSuchRun) 0 ≡ None → (down ≡ false) × (b ≡ true)
run_free false true h = (refl, refl)
run_free false false h = cc
run_free true b h = cc

pub verify_free : (down a b c : Bool) → slice_get (when (not (not down)) Down
    ++ (when (not a) NoSuchRun ++ (when (not b) JobTooLong ++ when (not c) NumbersSpent))) 0 ≡ None → (down ≡ false) × (a ≡ true) × (b ≡ true) × (c ≡ true)
verify_free false true true true h = (refl, refl, refl, refl)
verify_free false true true false h = cc
verify_free false true false c h = cc
verify_free false false b c h = cc
verify_free true a b c h = cc

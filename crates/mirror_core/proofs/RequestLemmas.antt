-- What a frame asks for, and when it isn't refused.
use Rattle.std.proofs.Common.{◌≡◌, refl, sym, ◌∙◌, ap, subst, Bool, true, false, ◌&&◌, List, [], ◌∷◌, ◌++◌, Option, None, Some}
use Rattle.std.specs.Prelude.{if◌then◌else◌, not, is_none, slice_get}
use Rattle.std.specs.List.{AllByRecursion}
use Rattle.std.proofs.lemmas.Bool.{and_parts}
use Rattle.fc_base.specs.declared.fault.Fault.{Fault}
use Rattle.fc_base.specs.declared.fault.Fault.TheVariants.{Old, Down}
use Rattle.fc_base.specs.Faults.{when}
use Rattle.verify_state.specs.State.{State}
use Rattle.messages.specs.declared.body.Body.{Body}
use Rattle.messages.specs.declared.body.Body.TheVariants as bodies
use Rattle.messages.specs.declared.frame.Frame.{Frame}
use Rattle.messages.specs.declared.frame.Frame.TheVariants.{Whole, Piece}
use Rattle.messages.specs.declared.node.Node.{Node}
use Rattle.messages.specs.declared.node.Node.TheVariants as nodes
use Rattle.messages.specs.Nodes.{is_node}
use Rattle.messages.specs.Ranges.{is_body, KeepsState}
use Rattle.messages.specs.Laws.{IsPacket}
use Rattle.disk_model.specs.declared.save_outcome.SaveOutcome.{SaveOutcome}
use Rattle.verify_state.proofs.RefusalLemmas.{IsRefusal, one_refusal, more_refusals, first_refusal, state_refusals}
use Rattle.mirror_core.specs.declared.note.MirrorNote.{MirrorNote}
use Rattle.mirror_core.specs.declared.request.Request.{Request}
use Rattle.mirror_core.specs.declared.request.Request.TheVariants.{Copy, Fetch}
use Rattle.mirror_core.specs.History.{Met}
use Rattle.mirror_core.specs.Refusals.{faults_of, faults_of_request}
use Rattle.mirror_core.specs.Requests.{asked_by, is_for_mirror, request_in, IsRequest}
use Rattle.mirror_core.specs.Saves.{Addition, unless_refused, is_answer}
use Rattle.mirror_core.specs.Laws.{packet_in, from_client}

-- ---- a frame that asks for a copy is a Copy of the client's

copy_said : (body : Body) (state : State) → asked_by body ≡ Some (Copy state) → body ≡ bodies.Copy state
copy_said (bodies.Copy s) state h = let e : s ≡ state = cc in ap bodies.Copy e
copy_said (bodies.Fetch generation) state h = cc
copy_said _ state h = cc

whole_copy : (from to : Node) (body : Body) (state : State) → request_in (Whole (record { from = from; to = to; body = body })) ≡ Some (Copy state)
    → record { from = from; to = to; body = body } ≡ from_client state
whole_copy nodes.Client nodes.Mirror body state h = ap (λ b. record { from = nodes.Client; to = nodes.Mirror; body = b }) (copy_said body state h)
whole_copy nodes.Mirror nodes.Mirror body state h = cc
whole_copy (nodes.Server s) nodes.Mirror body state h = cc
whole_copy _ nodes.Client body state h = cc
whole_copy _ (nodes.Server s) body state h = cc

pub asked_copy : (f : Frame) (state : State) → request_in f ≡ Some (Copy state) → f ≡ Whole (from_client state)
asked_copy (Whole p) state h = ap Whole (whole_copy p.from p.to p.body state h)
asked_copy (Piece q) state h = cc

-- ---- what a frame within its ranges asks for is within its own

body_range : (b : Bool) (body : Body) (r : Request) → is_body body ≡ true → KeepsState body → (if b then asked_by body else None) ≡ Some r → IsRequest r
body_range true (bodies.Copy s) r i k h = let e : Copy s ≡ r = cc in subst IsRequest e k
body_range true (bodies.Fetch generation) r i k h = let e : Fetch generation ≡ r = cc in subst IsRequest e i
body_range true _ r i k h = cc
body_range false body r i k h = cc

pub asked_range : (f : Frame) (left : SaveOutcome) (r : Request) → AllByRecursion IsPacket (packet_in (Met f left)) → request_in f ≡ Some r → IsRequest r
asked_range (Whole p) left r h e =
    body_range (is_for_mirror p) p.body r ((and_parts (is_node p.from && is_node p.to) (is_body p.body) h.0.in_range).1) h.0.state e
asked_range (Piece q) left r h e = cc

-- ---- what isn't refused

no_fault : (on : Bool) (fs : List Fault) → slice_get (when (not on) Down ++ fs) 0 ≡ None → (on ≡ true) × (fs ≡ [])
no_fault true [] h = (refl, refl)
no_fault true (f ∷ fs) h = cc
no_fault false fs h = cc

pub taken_in : (on : Bool) (n : MirrorNote) (q : Option Request) (r : Request) → slice_get (when (not on) Down ++ faults_of n q) 0 ≡ None → q ≡ Some r
    → (on ≡ true) × (faults_of_request n r ≡ [])
taken_in on n q r h e =
    let p = no_fault on (faults_of n q) h in
    (p.0, sym (ap (faults_of n) e) ∙ p.1)

pub not_when : (b : Bool) (f : Fault) → when b f ≡ [] → b ≡ false
not_when true f h = cc
not_when false f h = refl

pub answered_due : (r : Option Fault) (d : Option Addition) (left : SaveOutcome) → (is_none r && is_answer (unless_refused r d) left) ≡ true
    → (r ≡ None) × (is_answer d left ≡ true)
answered_due None d left h = (refl, h)
answered_due (Some f) d left h = cc

-- ---- what is refused

asked_refusals : (n : MirrorNote) (q : Option Request) → AllByRecursion IsRefusal (faults_of n q)
asked_refusals n None = (refl, tt)
asked_refusals n (Some (Copy state)) = state_refusals n.kept state
asked_refusals n (Some (Fetch generation)) = one_refusal _ Old refl

pub refusal_sort : (on : Bool) (n : MirrorNote) (q : Option Request) (fault : Fault) → slice_get (when (not on) Down ++ faults_of n q) 0 ≡ Some fault
    → IsRefusal fault
refusal_sort on n q fault e = first_refusal _ fault (more_refusals (not on) Down (faults_of n q) refl (asked_refusals n q)) e

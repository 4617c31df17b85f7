-- Verify states in bodies: what verify_state says of their bytes.
use Rattle.std.proofs.Common.{◌≡◌, ℕ, false, Some, None, List, [], ◌∷◌, length, refl, sym, ap, subst, ◌∙◌}
use Rattle.std.specs.Prelude.{slice_get}
use Rattle.fc_base.specs.declared.fault.Fault.{Fault}
use Rattle.verify_state.specs.State.{State, IsState}
use Rattle.verify_state.specs.Spelling.{spelling}
use Rattle.verify_state.specs.Reading.{is_layout_1, faults_of, state_in}
use Rattle.verify_state.specs.Laws.{ReadsBack, IsSpelled, SaysAState}
use Rattle.messages.specs.Bodies.{spelled_state, state_said, without_faults}
use Rattle.verify_state.proofs.FieldLemmas.{IsBytes, each_byte}

pub said_some : (bytes : List ℕ) (s : State) → faults_of bytes ≡ [] → s ≡ state_in bytes → state_said bytes ≡ Some s
unfolding state_said
said_some bytes s none is = ap (λ (faults : List Fault). without_faults faults (state_in bytes)) none ∙ ap (λ (t : State). Some t) (sym is)

first_fault : (faults : List Fault) (f : Fault) (s : State) → slice_get faults 0 ≡ Some f → without_faults faults s ≡ None
first_fault [] f s e = absurd cc
first_fault (x ∷ xs) f s e = refl

pub said_none : (bytes : List ℕ) (f : Fault) → slice_get (faults_of bytes) 0 ≡ Some f → state_said bytes ≡ None
unfolding state_said
said_none bytes f e = first_fault (faults_of bytes) f (state_in bytes) e

pub state_again : ReadsBack → (s : State) → IsState s → state_said (spelled_state s) ≡ Some s
unfolding spelled_state
state_again law s h = let back = law s h in said_some (spelling s) s back.sound (sym back.said)

no_faults : (faults : List Fault) (s t : State) → without_faults faults s ≡ Some t → (faults ≡ []) × (s ≡ t)
no_faults [] s t e = (refl, cc)
no_faults (x ∷ xs) s t e = absurd cc

-- Bytes that say a state are of layout 1, or its spelling.
pub state_is : IsSpelled → SaysAState → (bytes : List ℕ) (s : State) → IsBytes bytes → state_said bytes ≡ Some s
    → IsState s × (is_layout_1 bytes ≡ false → spelled_state s ≡ bytes)
unfolding state_said spelled_state
state_is law says bytes s fits e =
    let parts = no_faults (faults_of bytes) (state_in bytes) s e in
    let all = each_byte bytes fits in
    subst (λ (t : State). IsState t × (is_layout_1 bytes ≡ false → spelling t ≡ bytes)) parts.1 (says bytes all parts.0, λ other. law bytes all parts.0 other)

-- A state has 136 bytes.
pub length-spelled_state : ReadsBack → (s : State) → IsState s → length (spelled_state s) ≡ 136
unfolding spelled_state
length-spelled_state law s h = (law s h).long

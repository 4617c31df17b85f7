-- What bytes say that are no frame.
use Rattle.std.proofs.Common.{◌≡◌, ◌⊎◌, ℕ, List, [], ◌∷◌, ◌++◌, length, refl, sym, ap, subst, inl, inr, true≢false, arith, Option, None, Some, Err}
use Rattle.std.specs.Prelude.{is_none, is_some, slice_get, unwrap_or}
use Rattle.fc_base.specs.Fault.{sort_of}
use Rattle.fc_base.specs.Faults.{when}
use Rattle.fc_base.specs.declared.fault.Fault.{Fault}
use Rattle.fc_base.specs.declared.fault.Fault.TheVariants.{FrameBadField, FrameNoMemory}
use Rattle.messages.specs.FrameBytes.{frame_at, frame_faults, frame_limit, is_frame_kind}
use Rattle.messages.specs.Packets.{header_faults}
use Rattle.messages.specs.declared.frame.Frame.{Frame}
use Rattle.node.specs.Steps.{Steps}
use Rattle.filters.specs.declared.node_step.NodeStep.{NodeStep}
use Rattle.filters.specs.NodeSteps.{BodyEnds, NotTaken, with_frame}

-- A list that ends in a fault has one.
has_one : (xs : List Fault) (f : Fault) → xs ++ f ∷ [] ≡ [] → ⊥
has_one [] f is = absurd (omega (arith, ap length is))
has_one (x ∷ xs) f is = absurd (omega (arith, ap length is))

-- Bytes without a fault say a frame.
pub says_one : (bytes : List ℕ) → frame_faults bytes ≡ [] → frame_at bytes ≡ None → ⊥
says_one bytes empty none =
    has_one (header_faults is_frame_kind frame_limit bytes) FrameBadField
    (subst (λ (a : Option Frame). header_faults is_frame_kind frame_limit bytes ++ when (is_none a) FrameBadField ≡ []) none empty)

-- Bytes that aren't read leave a node as it was: they are a frame, for which memory is wanting; or they are none, and the first fault is told.
pub not_read : {S E X D O : Type 0} (s : Steps S E X D O) (answer_to : E → NodeStep) (past : List X) (ask : Frame → E) (bytes : List ℕ) (fault : Fault) (node : S)
    → ((fault ≡ FrameNoMemory) × (frame_faults bytes ≡ [])) ⊎ (slice_get (frame_faults bytes) 0 ≡ Some fault) → s.StandsFor past node
    → BodyEnds s answer_to past (with_frame ask (frame_faults bytes) (frame_at bytes)) node node (Err fault)
not_read s answer_to past ask bytes fault node why stands = by (frame_faults bytes) (frame_at bytes) why (says_one bytes)
  where
    by : (faults : List Fault) (at : Option Frame) → ((fault ≡ FrameNoMemory) × (faults ≡ [])) ⊎ (slice_get faults 0 ≡ Some fault) → (faults ≡ [] → at ≡ None → ⊥)
        → BodyEnds s answer_to past (with_frame ask faults at) node node (Err fault)
    by [] (Some frame) (inl (is, none)) some =
        subst (λ (f : Fault). NotTaken s past (ask frame) (sort_of f) f node node) (sym is) (refl, stands)
    by [] None (inl (is, none)) some = absurd (some refl refl)
    by [] at (inr first) some = absurd (true≢false (sym (ap is_some first)))
    by (f ∷ fs) at (inl (is, none)) some = absurd (omega (arith, ap length none))
    by (f ∷ fs) at (inr first) some = (sym (ap (λ (a : Option Fault). unwrap_or a f) first), refl)

-- Which refusals let an event stand in its node's list, and which frames it may take.
use Rattle.std.proofs.Common.{◌≡◌, refl, sym, ◌∙◌, ap, ◌⊎◌, inl, inr, ℕ, Bool, true, false, ◌||◌, List, Option, Some, None, Result, Ok, Err}
use Rattle.std.specs.Prelude.{Contains, not}
use Rattle.fc_base.specs.declared.fault.Fault.{Fault}
use Rattle.fc_base.specs.declared.fault.Fault.TheVariants.{LoadFault}
use Rattle.fc_base.specs.declared.fault.FaultSort.{FaultSort}
use Rattle.fc_base.specs.declared.fault.FaultSort.TheVariants as sorts
use Rattle.fc_base.specs.Fault.{sort_of}
use Rattle.messages.specs.declared.frame.Frame.{Frame}
use Rattle.messages.specs.FrameBytes.{frame_at}
use Rattle.cells.specs.declared.answer.Reply.{Reply}
use Rattle.cells.specs.AtHub.{is_drop, is_left_out, is_save}
use Rattle.cells.specs.Replay.{Ends, Stops}
use Rattle.cells.specs.Rules.{Ask, Rules}

-- It isn't refused, or for a tag that was dropped.
abbrev pub MayPass : Option Fault → Type 0
MayPass x = (x ≡ None) ⊎ ((fault : Fault) × (x ≡ Some fault) × (is_drop fault ≡ true))

-- It isn't refused, or for another reason.
abbrev pub MayNot : Option Fault → Type 0
MayNot x = (x ≡ None) ⊎ ((fault : Fault) × (x ≡ Some fault) × (is_drop fault ≡ false))

clash : true ≡ false → ⊥
clash h = cc

-- Another refusal lets nothing stand.
pub no_pass : (fault : Fault) → is_drop fault ≡ false → MayPass (Some fault) → ⊥
no_pass fault h (inl e) = cc
no_pass fault h (inr e) = clash (sym e.2 ∙ ap is_drop (same e.0 e.1) ∙ h)
  where
    same : (other : Fault) → Some fault ≡ Some other → other ≡ fault
    same other e = cc

-- Why something is refused: for this reason, or since no note was loaded.
abbrev pub IsFor : Option Fault → Bool → Fault → Type 0
IsFor x loads fault = (x ≡ Some fault) ⊎ ((fault ≡ LoadFault) × (loads ≡ true))

pub drop_for : (x : Option Fault) (loads : Bool) (fault : Fault) → is_drop fault ≡ true → IsFor x loads fault → MayPass x
drop_for x loads fault d (inl h) = inr (fault, h, d)
drop_for x loads fault d (inr h) = absurd (clash (sym d ∙ ap is_drop h.0))

-- What can't drop a tag isn't refused for one.
pub no_power : (x : Option Fault) (loads : Bool) (fault : Fault) → is_drop fault ≡ true → IsFor x loads fault → MayNot x → ⊥
no_power x loads fault d (inr k) h = clash (sym d ∙ ap is_drop k.0)
no_power x loads fault d (inl k) (inl h) = never (sym h ∙ k)
  where
    never : None ≡ Some fault → ⊥
    never h = cc
no_power x loads fault d (inl k) (inr h) = no_pass h.0 h.2 (inr (fault, sym h.1 ∙ k, d))

undropped : (b : Bool) → not (false || b) ≡ true → b ≡ false
undropped true h = cc
undropped false h = refl

pub dropped : (b : Bool) → not (false || b) ≡ false → b ≡ true
dropped true h = refl
dropped false h = cc

-- Where a refusal without a drop leaves a list as it was, what is left out does.
pub left_out_stays : {E X : Type 0} (rules : Rules E X) →
    ((past : List X) (ask : Ask E) (fault : Fault) → is_drop fault ≡ false → rules.passed past ask fault ≡ past) →
    (past : List X) (ask : Ask E) (answer : Result Reply Fault) (sent : List (List ℕ)) (after : List X) →
    is_left_out answer ≡ true → Ends rules past ask answer sent after → after ≡ past
left_out_stays rules passed past ask (Ok said) sent after h ends = cc
left_out_stays rules passed past ask (Err fault) sent after h ends = by_sort (sort_of fault) h ends
  where
    by_sort : (sort : FaultSort) → not (is_save sort || is_drop fault) ≡ true → Stops rules past ask sort fault sent after → after ≡ past
    by_sort sorts.Memory h ends = absurd ends
    by_sort sorts.Save h ends = cc
    by_sort sorts.Refusal h ends = ends.after_is ∙ passed past ask fault (undropped (is_drop fault) h)

-- What came is one of these frames, if a frame came.
abbrev pub CameOf : List Frame → Option (List ℕ) → Type 0
CameOf frames None = Unit {0}
CameOf frames (Some bytes) = (f : Frame) → frame_at bytes ≡ Some f → Contains frames f

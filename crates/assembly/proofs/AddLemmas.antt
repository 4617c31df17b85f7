-- What an event of a history adds to the list of its node, whichever node it is.
use Rattle.std.proofs.Common.{◌≡◌, refl, sym, ◌∙◌, ap, subst, ◌⊎◌, inl, inr, ℕ, Bool, true, false}
use Rattle.std.proofs.Common.{◌||◌, List, [], ◌∷◌, Option, Some, None, Result, Ok, Err}
use Rattle.std.specs.Prelude.{map, not, if◌then◌else◌}
use Rattle.std.specs.Option.{option_map}
use Rattle.std.proofs.lemmas.Option.{same_Some}
use Rattle.fc_base.specs.declared.fault.Fault.{Fault}
use Rattle.fc_base.specs.declared.fault.Fault.TheVariants.{NodeOff, NodeOn}
use Rattle.fc_base.specs.declared.fault.FaultSort.{FaultSort}
use Rattle.fc_base.specs.declared.fault.FaultSort.TheVariants as sorts
use Rattle.fc_base.specs.Fault.{sort_of}
use Rattle.disk_model.specs.declared.save_outcome.SaveOutcome.TheVariants.{NoSave}
use Rattle.disk_model.specs.SaveOutcome.{is_lost}
use Rattle.node.specs.Steps.{Words, answered as answered_by}
use Rattle.messages.specs.FrameBytes.{frame_spelling}
use Rattle.cells.specs.declared.answer.Reply.{Reply}
use Rattle.cells.specs.AtHub.{is_drop, is_left_out, is_save}
use Rattle.cells.specs.Replay.{Ends, Passes, Stops}
use Rattle.cells.specs.Rules.{Ask, Meets, Cuts, Restarts, Nothing}
use Rattle.cells.specs.CoreRules.{CoreRules, rules_of, refusal, added_entry, unsaved_entry, entries_past_refusal, left_by}
use Rattle.assembly.proofs.RefusalLemmas.{IsFor, MayNot, MayPass, drop_for, dropped, left_out_stays, no_pass, no_power}

-- Its save failed, or it is refused.
abbrev pub Quiet : Bool → Option Fault → Type 0
Quiet gone x = (gone ≡ true) ⊎ ((fault : Fault) × (x ≡ Some fault))

pub lost_of : (landed : Bool) → is_lost (left_by landed) ≡ true
lost_of true = refl
lost_of false = refl

pub strays : (on : Bool) (fault other : Fault) → is_drop fault ≡ false → is_drop other ≡ false → MayPass (if on then Some fault else Some other) → ⊥
strays true fault other a b h = no_pass fault a h
strays false fault other a b h = no_pass other b h

-- A node that is on refuses as its core.
as_core : (up : Bool) (x : Option Fault) → MayPass (if up then x else Some NodeOff) → MayPass x
as_core true x h = h
as_core false x h = absurd (no_pass NodeOff refl h)

free_core : (up : Bool) (x : Option Fault) → (if up then x else Some NodeOff) ≡ None → x ≡ None
free_core true x h = h
free_core false x h = cc

-- What an event adds: an entry of what was asked, whose frames it sends.
pub record Adds {E X : Type 0} (c : CoreRules E X) (IsAsked : Ask E → X → Type 0) (past : List X) (ask : Ask E)
    (sent : List (List ℕ)) (after : List X) : Type 0 where
  pub entry : X
  pub after_is : after ≡ entry ∷ past
  pub sent_are : sent ≡ map frame_spelling (c.frames past entry)
  pub is_asked : IsAsked ask entry

-- What is left of a save that failed: an entry of what was asked, which sends nothing.
pub record IsLost {E X : Type 0} (c : CoreRules E X) (IsAsked : Ask E → X → Type 0) (past : List X) (ask : Ask E) (entry : X) : Type 0 where
  pub silent : c.frames past entry ≡ []
  pub is_asked : IsAsked ask entry

-- What has to be known of the entries of a core: they are of what was asked, and what is refused, or whose save
-- failed, sends nothing.
pub record Known {E X D : Type 0} (w : Words E X D) (c : CoreRules E X) (IsAsked : Ask E → X → Type 0) : Type 0 where
  pub answered : (past : List X) (e : E) → w.refusal past e ≡ None → IsAsked (Meets e) (answered_by w past e)
  pub dropped : (past : List X) (e : E) → MayPass (w.refusal past e) → IsAsked (Meets e) (w.met e NoSave)
  pub refused : (past : List X) (e : E) (fault : Fault) → w.refusal past e ≡ Some fault → c.frames past (w.met e NoSave) ≡ []
  pub unsaved : (past : List X) (e : E) (landed : Bool) (entry : X) → w.refusal past e ≡ None → option_map (λ due. w.met e (left_by landed)) (w.due past e) ≡ Some entry
      → IsLost c IsAsked past (Meets e) entry
  pub unstarted : (past : List X) (landed : Bool) (entry : X) → c.unstarted (left_by landed) ≡ Some entry → IsLost c IsAsked past Restarts entry
  pub cut : IsAsked Cuts c.cut
  pub started : IsAsked Restarts c.started
  pub spent : (past : List X) → MayNot (c.spent past)

-- The save of an input has failed, if one was due.
pub lost_met : {E X D : Type 0} {c : CoreRules E X} {IsAsked : Ask E → X → Type 0} (past : List X) (e : E) (made entry : X) (x : Option D)
    → IsLost c IsAsked past (Meets e) made → option_map (λ addition. made) x ≡ Some entry → IsLost c IsAsked past (Meets e) entry
lost_met past e made entry None h is = cc
lost_met {c = c} {IsAsked = IsAsked} past e made entry (Some addition) h is = subst (IsLost c IsAsked past (Meets e)) (same_Some made entry is) h

accepted : {E X D : Type 0} {w : Words E X D} {c : CoreRules E X} {IsAsked : Ask E → X → Type 0} → Known w c IsAsked → (past : List X) (ask : Ask E) (entry : X)
    → refusal w c past ask ≡ None → added_entry w c past ask ≡ Some entry → IsAsked ask entry
accepted {w = w} {c = c} {IsAsked = IsAsked} k past (Meets e) entry free is =
    subst (IsAsked (Meets e)) (same_Some (answered_by w past e) entry is) (k.answered past e (free_core (w.is_up past) (w.refusal past e) free))
accepted {w = w} {c = c} {IsAsked = IsAsked} k past Cuts entry free is = subst (IsAsked Cuts) (same_Some c.cut entry is) k.cut
accepted {w = w} {c = c} {IsAsked = IsAsked} k past Restarts entry free is = subst (IsAsked Restarts) (same_Some c.started entry is) k.started
accepted k past Nothing entry free is = cc

lost_save : {E X D : Type 0} {w : Words E X D} {c : CoreRules E X} {IsAsked : Ask E → X → Type 0} → Known w c IsAsked → (past : List X) (ask : Ask E) (landed : Bool) (entry : X)
    → refusal w c past ask ≡ None → unsaved_entry w c past ask landed ≡ Some entry → IsLost c IsAsked past ask entry
lost_save {w = w} {c = c} k past (Meets e) landed entry free is = k.unsaved past e landed entry (free_core (w.is_up past) (w.refusal past e) free) is
lost_save k past Restarts landed entry free is = k.unstarted past landed entry is
lost_save k past Cuts landed entry free is = cc
lost_save k past Nothing landed entry free is = cc

-- ---- a tag that is dropped

drops : {E X D : Type 0} {w : Words E X D} {c : CoreRules E X} {IsAsked : Ask E → X → Type 0} → Known w c IsAsked → (past : List X) (ask : Ask E) (fault : Fault)
    (sent : List (List ℕ)) (after : List X) → is_drop fault ≡ true → Passes (rules_of w c) past ask fault sent after → Adds c IsAsked past ask sent after
drops {w = w} {c = c} k past (Meets e) fault sent after d p =
    let why = refused (w.refusal past e) (w.is_up past) p.why in
    record {
      entry = w.met e NoSave;
      after_is = p.after_is ∙ ap (λ b. if b then w.met e NoSave ∷ past else past) d;
      sent_are = p.sends_none ∙ sym (ap (map frame_spelling) (k.refused past e why.0 why.1));
      is_asked = k.dropped past e (as_core (w.is_up past) (w.refusal past e) (drop_for (refusal w c past (Meets e)) false fault d p.why));
    }
  where
    refused : (x : Option Fault) (up : Bool) → IsFor (if up then x else Some NodeOff) false fault → (other : Fault) × (x ≡ Some other)
    refused x true (inl h) = (fault, h)
    refused x true (inr h) = cc
    refused x false h = absurd (no_pass NodeOff refl (drop_for (Some NodeOff) false fault d h))
drops {w = w} {c = c} k past Cuts fault sent after d p = absurd (no_power (refusal w c past Cuts) false fault d p.why (cuts (w.is_up past)))
  where
    cuts : (up : Bool) → MayNot (if up then None else Some NodeOff)
    cuts true = inl refl
    cuts false = inr (NodeOff, refl, refl)
drops {w = w} {c = c} k past Restarts fault sent after d p =
    absurd (no_power (refusal w c past Restarts) (not (w.is_up past)) fault d p.why (restarts (w.is_up past) (c.spent past) (k.spent past)))
  where
    restarts : (up : Bool) (x : Option Fault) → MayNot x → MayNot (if up then Some NodeOn else x)
    restarts true x h = inr (NodeOn, refl, refl)
    restarts false x h = h
drops k past Nothing fault sent after d p = absurd (no_power None false fault d p.why (inl refl))

-- ---- each event

-- What isn't left out adds an entry.
pub adds : {E X D : Type 0} {w : Words E X D} {c : CoreRules E X} {IsAsked : Ask E → X → Type 0} → Known w c IsAsked → (past : List X) (ask : Ask E)
    (answer : Result Reply Fault) (sent : List (List ℕ)) (after : List X)
    → is_left_out answer ≡ false → Ends (rules_of w c) past ask answer sent after → Adds c IsAsked past ask sent after
adds k past ask (Ok said) sent after h ends =
    record { entry = ends.entry; after_is = ends.after_is; sent_are = ends.sent_are; is_asked = accepted k past ask ends.entry ends.free ends.entry_is }
adds {w = w} {c = c} {IsAsked = IsAsked} k past ask (Err fault) sent after h ends = by_sort (sort_of fault) h ends
  where
    by_sort : (sort : FaultSort) → not (is_save sort || is_drop fault) ≡ false → Stops (rules_of w c) past ask sort fault sent after
        → Adds c IsAsked past ask sent after
    by_sort sorts.Memory h ends = absurd ends
    by_sort sorts.Save h ends =
        let gone = lost_save k past ask ends.landed ends.entry ends.free ends.entry_is in
        record {
          entry = ends.entry;
          after_is = ends.after_is;
          sent_are = ends.sends_none ∙ sym (ap (map frame_spelling) gone.silent);
          is_asked = gone.is_asked;
        }
    by_sort sorts.Refusal h ends = drops k past ask fault sent after (dropped (is_drop fault) h) ends

passed_none : {E X D : Type 0} (w : Words E X D) (past : List X) (ask : Ask E) (fault : Fault) → is_drop fault ≡ false
    → entries_past_refusal w past ask fault ≡ past
passed_none w past (Meets e) fault h = ap (λ b. if b then w.met e NoSave ∷ past else past) h
passed_none w past Cuts fault h = refl
passed_none w past Restarts fault h = refl
passed_none w past Nothing fault h = refl

-- What is left out changes nothing.
pub stays : {E X D : Type 0} (w : Words E X D) (c : CoreRules E X) (past : List X) (ask : Ask E) (answer : Result Reply Fault) (sent : List (List ℕ)) (after : List X)
    → is_left_out answer ≡ true → Ends (rules_of w c) past ask answer sent after → after ≡ past
stays w c past ask answer sent after h ends = left_out_stays (rules_of w c) (passed_none w) past ask answer sent after h ends

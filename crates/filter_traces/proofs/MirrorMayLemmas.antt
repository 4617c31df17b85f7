-- What comes to the mirror of a fleet may come.
use Rattle.std.proofs.Common.{◌≡◌, refl, ◌∙◌, ap, inl, inr, ℕ, List, [], ◌∷◌, ◌++◌, Option, Some, None, Result, Ok, Err}
use Rattle.std.specs.Prelude.{IfSome}
use Rattle.std.specs.List.{AllByRecursion}
use Rattle.fc_base.specs.declared.fault.Fault.{Fault}
use Rattle.disk_model.specs.SaveOutcome.{saved_for}
use Rattle.messages.specs.declared.frame.Frame.{Frame}
use Rattle.messages.specs.declared.node.Node.TheVariants.{Mirror}
use Rattle.messages.specs.FrameBytes.{frame_at, frame_faults}
use Rattle.mirror_core.specs.History.{Entry, Met, Cut, Restart}
use Rattle.mirror_core.specs.Words.{refusal, due}
use Rattle.net_world.specs.Trace.{mirror_opening}
use Rattle.filters.specs.declared.kinds.InRecordKind.{InRecordKind}
use Rattle.filters.specs.declared.kinds.InRecordKind.TheVariants as told
use Rattle.filters.specs.Kinds.{told_numbered}
use Rattle.filters.specs.NodeCuts.{CutsAnswer}
use Rattle.filters.specs.NodeSteps.{Leaves, with_frame}
use Rattle.filters.specs.MirrorLives.{MirrorAt, TakesBody, TakesKind, at_by, reply_by, frame_in}
use Rattle.filter_traces.specs.Members.{Happening, Answers, Ends, EndsWithin, Becomes, mirror_member}
use Rattle.filter_traces.proofs.MayLemmas.{GoesTo, MirrorMay, frame_if, frame_read}

-- What was added to the list of the mirror may come there.
pub record Added (sent : List Frame) (old new : MirrorAt) : Type 0 where
  pub more : List Entry
  pub list_is : new.list ≡ more ++ old.list
  pub may : AllByRecursion (MirrorMay sent) more

none_more : (sent : List Frame) (old new : MirrorAt) → new ≡ old → Added sent old new
none_more sent old new is = record { more = []; list_is = ap (λ (c : MirrorAt). c.list) is; may = tt }

-- The frame that is asked for may come.
abbrev AskedMay : List Frame → Result Frame Fault → Type 0
AskedMay sent (Ok f) = GoesTo sent Mirror f
AskedMay sent (Err why) = Unit {0}

frame_may : (sent : List Frame) (faults : List Fault) (x : Option Frame) → IfSome x (GoesTo sent Mirror) → AskedMay sent (with_frame (λ f. f) faults x)
frame_may sent [] (Some f) h = h
frame_may sent [] None h = tt
frame_may sent (fault ∷ faults) x h = tt

module _ (sent : List Frame) where
  frame_adds : (why : Option Fault) (f : Frame) (at now : MirrorAt) (answer : List ℕ) → GoesTo sent Mirror f
      → Leaves (at_by why mirror_opening at f) (reply_by why mirror_opening at.list f) now answer → Added sent at now
  frame_adds None f at now answer may (is, said) =
      record { more = Met f (saved_for (due mirror_opening at.list f)) ∷ []; list_is = ap (λ (c : MirrorAt). c.list) is; may = (may, tt) }
  frame_adds (Some fault) f at now answer may (is, said) = none_more sent at now is

  body_adds : (asked : Result Frame Fault) (at now : MirrorAt) (answer : List ℕ) → AskedMay sent asked → TakesBody mirror_opening at asked now answer
      → Added sent at now
  body_adds (Ok f) at now answer may (inl leaves) = frame_adds (refusal mirror_opening at.list f) f at now answer may leaves
  body_adds (Ok f) at now answer may (inr (fault, memory, (is, said))) = none_more sent at now is
  body_adds (Err why) at now answer may (is, said) = none_more sent at now is

  kind_adds : (kind : Option InRecordKind) (body : List ℕ) (at now : MirrorAt) (answer : List ℕ) → IfSome (frame_if kind body) (GoesTo sent Mirror)
      → TakesKind mirror_opening at kind body now answer → Added sent at now
  kind_adds (Some told.Frame) body at now answer h takes =
      body_adds (frame_in body) at now answer (frame_may sent (frame_faults body) (frame_at body) h) takes
  kind_adds None body at now answer h (is, said) = none_more sent at now is
  kind_adds (Some told.Note) body at now answer h (is, said) = none_more sent at now is
  kind_adds (Some told.Done) body at now answer h (is, said) = none_more sent at now is
  kind_adds (Some told.Failed) body at now answer h (is, said) = none_more sent at now is
  kind_adds (Some told.Blocks) body at now answer h (is, said) = none_more sent at now is
  kind_adds (Some told.Unread) body at now answer h (is, said) = none_more sent at now is
  kind_adds (Some told.Begin) body at now answer h (is, said) = none_more sent at now is
  kind_adds (Some told.Trigger) body at now answer h (is, said) = none_more sent at now is
  kind_adds (Some told.Stop) body at now answer h (is, said) = none_more sent at now is
  kind_adds (Some told.Verify) body at now answer h (is, said) = none_more sent at now is
  kind_adds (Some told.Tick) body at now answer h (is, said) = none_more sent at now is
  kind_adds (Some told.Look) body at now answer h (is, said) = none_more sent at now is
  kind_adds (Some told.Show) body at now answer h (is, said) = none_more sent at now is
  kind_adds (Some told.Ends) body at now answer h (is, said) = none_more sent at now is

begins_anew : (sent : List Frame) (at left now : MirrorAt) → Added sent at left → now ≡ record { list = Restart ∷ (Cut ∷ left.list); note = left.note }
    → Added sent at now
begins_anew sent at left now a is = record {
  more = Restart ∷ (Cut ∷ a.more);
  list_is = ap (λ (c : MirrorAt). c.list) is ∙ ap (λ list. Restart ∷ (Cut ∷ list)) a.list_is;
  may = (tt, (tt, a.may));
}

left_adds : (sent : List Frame) (at after left : MirrorAt) (part : List ℕ) → Added sent at after → CutsAnswer (λ (c : MirrorAt). c.note) at after part left
    → Added sent at left
left_adds sent at after left part a (inl (is, save)) =
    record { more = a.more; list_is = ap (λ (c : MirrorAt). c.list) is ∙ a.list_is; may = a.may }
left_adds sent at after left part a (inr (is, save)) = none_more sent at left is

pub mirror_added : (sent : List Frame) (h : Happening) (at now : MirrorAt) → IfSome (frame_read h) (GoesTo sent Mirror) → Becomes mirror_member at h now
    → Added sent at now
mirror_added sent (Answers r answer) at now reads takes = kind_adds sent (told_numbered r.kind) r.body at now answer reads takes.0
mirror_added sent Ends at now reads begins = begins_anew sent at at now (none_more sent at at refl) begins
mirror_added sent (EndsWithin r part) at now reads cut =
    begins_anew sent at cut.left now
    (left_adds sent at cut.after cut.left part (kind_adds sent (told_numbered r.kind) r.body at cut.after (part ++ cut.rest) reads cut.takes.0) cut.within)
    cut.begins

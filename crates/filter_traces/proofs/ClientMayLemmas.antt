-- What comes to the client of a fleet may come.
use Rattle.std.proofs.Common.{◌≡◌, refl, ◌∙◌, ap, subst, ◌⊎◌, inl, inr, ℕ, Bool, true, false, List, [], ◌∷◌, ◌++◌, length, Option, Some, None, Result, Ok, Err}
use Rattle.std.specs.Prelude.{IfSome, IsTrue, ◌==◌, nat_lt, drop, if◌then◌else◌}
use Rattle.std.proofs.lemmas.Bool.{and_parts}
use Rattle.std.specs.Option.{option_map}
use Rattle.std.specs.Int.{w64}
use Rattle.fc_base.specs.Layouts.{number_in}
use Rattle.fc_base.specs.declared.fault.Fault.{Fault}
use Rattle.fc_base.specs.declared.fault.Fault.TheVariants.{BadNotice}
use Rattle.disk_model.specs.declared.save_outcome.SaveOutcome.{SaveOutcome}
use Rattle.disk_model.specs.declared.save_outcome.SaveOutcome.TheVariants.{NoSave, Saved}
use Rattle.disk_model.specs.SaveOutcome.{saved_for}
use Rattle.messages.specs.declared.frame.Frame.{Frame}
use Rattle.messages.specs.declared.node.Node.TheVariants.{Client}
use Rattle.messages.specs.FrameBytes.{frame_at, frame_faults}
use Rattle.messages.specs.Senses.{is_drop}
use Rattle.client_core.specs.Inputs.{FrameInput}
use Rattle.client_core.specs.Inputs as inputs
use Rattle.client_core.specs.History.{Opening}
use Rattle.client_core.specs.Hearing.{FrameEntry, Met, Cut, Restart, Renew, Lose}
use Rattle.client_core.specs.FrameAnswers.{sense, refusal, due}
use Rattle.net_world.specs.Setup.{Setup}
use Rattle.net_world.specs.Trace.{client_opening}
use Rattle.filters.specs.declared.kinds.InRecordKind.{InRecordKind}
use Rattle.filters.specs.declared.kinds.InRecordKind.TheVariants as told
use Rattle.filters.specs.Kinds.{told_numbered}
use Rattle.filters.specs.ClientAsks.{ends_in, input_in, or_bad, trigger_in, number_alone}
use Rattle.filters.specs.NodeCuts.{CutsAnswer}
use Rattle.filters.specs.NodeSteps.{Leaves, with_frame}
use Rattle.filters.specs.ClientLives.{ClientAt, TakesBody, TakesKind, TellsEnds, at_by, reply_by}
use Rattle.filter_traces.specs.Members.{Happening, Answers, Ends, EndsWithin, Becomes, ClientRestarts, ClientRenews, client_member, may_restart, may_renew}
use Rattle.filter_traces.proofs.MayLemmas.{GoesTo, ClientMay, AllMay, frame_if, frame_read}

-- What was added to the list of a client may come there.
pub record Added (w : Setup) (sent : List Frame) (old new : ClientAt) : Type 0 where
  pub more : List FrameEntry
  pub list_is : new.list ≡ more ++ old.list
  pub may : AllMay w sent old.list more

-- What a body asks may come, whatever its save leaves, and behind whatever list.
abbrev EntryMay : Setup → List Frame → FrameInput → Type 0
EntryMay w sent e = (past : List FrameEntry) (left : SaveOutcome) → ClientMay w sent past (Met e left)

abbrev AskedMay : Setup → List Frame → Result FrameInput Fault → Type 0
AskedMay w sent (Ok e) = EntryMay w sent e
AskedMay w sent (Err why) = Unit {0}

none_more : (w : Setup) (sent : List Frame) (old new : ClientAt) → new ≡ old → Added w sent old new
none_more w sent old new is = record { more = []; list_is = ap (λ (c : ClientAt). c.list) is; may = tt }

-- ---- what is asked

frame_may : (w : Setup) (sent : List Frame) (faults : List Fault) (x : Option Frame) → IfSome x (GoesTo sent Client)
    → AskedMay w sent (with_frame inputs.Deliver faults x)
frame_may w sent [] (Some f) h = λ past left. h
frame_may w sent [] None h = tt
frame_may w sent (fault ∷ faults) x h = tt

-- What is asked by something, if it is there.
each_may : {T : Type 0} (w : Setup) (sent : List Frame) (asks : Option T → Result FrameInput Fault) → AskedMay w sent (asks None)
    → ((t : T) → AskedMay w sent (asks (Some t))) → (x : Option T) → AskedMay w sent (asks x)
each_may w sent asks none some None = none
each_may w sent asks none some (Some t) = some t

verify_may : (w : Setup) (sent : List Frame) (b : Bool) (body : List ℕ)
    → AskedMay w sent (if b then Err BadNotice else Ok (inputs.Verify (number_in w64 body) (drop 8 body)))
verify_may w sent true body = tt
verify_may w sent false body = λ past left. tt

tick_may : (w : Setup) (sent : List Frame) (b : Bool) → AskedMay w sent (if b then Ok inputs.Tick else Err BadNotice)
tick_may w sent true = λ past left. tt
tick_may w sent false = tt

asked_may : (w : Setup) (sent : List Frame) (kind : InRecordKind) (body : List ℕ) → IfSome (frame_if (Some kind) body) (GoesTo sent Client)
    → AskedMay w sent (input_in kind body)
asked_may w sent told.Frame body h = frame_may w sent (frame_faults body) (frame_at body) h
asked_may w sent told.Begin body h = λ past left. tt
asked_may w sent told.Trigger body h =
    each_may w sent (λ x. or_bad (option_map (λ t. inputs.Trigger t.run t.act) x)) tt (λ t past left. tt) (trigger_in body)
asked_may w sent told.Stop body h = each_may w sent (λ x. or_bad (option_map inputs.Stop x)) tt (λ t past left. tt) (number_alone body)
asked_may w sent told.Verify body h = verify_may w sent (nat_lt (length body) 8) body
asked_may w sent told.Tick body h = tick_may w sent (length body == 0)
asked_may w sent told.Note body h = tt
asked_may w sent told.Done body h = tt
asked_may w sent told.Failed body h = tt
asked_may w sent told.Blocks body h = tt
asked_may w sent told.Unread body h = tt
asked_may w sent told.Look body h = tt
asked_may w sent told.Show body h = tt
asked_may w sent told.Ends body h = tt

-- ---- what it adds

module _ (w : Setup) (o : Opening) (sent : List Frame) where
  refused_adds : (e : FrameInput) (at now : ClientAt) (b : Bool) → is_drop (sense o at.list e) ≡ b → EntryMay w sent e
      → now.list ≡ (if is_drop (sense o at.list e) then Met e NoSave ∷ at.list else at.list) → Added w sent at now
  refused_adds e at now true is may list =
      record { more = Met e NoSave ∷ []; list_is = list ∙ ap (λ c. if c then Met e NoSave ∷ at.list else at.list) is; may = (may at.list NoSave, tt) }
  refused_adds e at now false is may list =
      record { more = []; list_is = list ∙ ap (λ c. if c then Met e NoSave ∷ at.list else at.list) is; may = tt }

  input_adds : (why : Option Fault) (e : FrameInput) (at now : ClientAt) (answer : List ℕ) → EntryMay w sent e
      → Leaves (at_by why o at e) (reply_by why o at.list e) now answer → Added w sent at now
  input_adds None e at now answer may (is, said) = record {
    more = Met e (saved_for (due o at.list e)) ∷ [];
    list_is = ap (λ (c : ClientAt). c.list) is;
    may = (may at.list (saved_for (due o at.list e)), tt);
  }
  input_adds (Some fault) e at now answer may (is, said) =
      refused_adds e at now (is_drop (sense o at.list e)) refl may (ap (λ (c : ClientAt). c.list) is)

  body_adds : (asked : Result FrameInput Fault) (at now : ClientAt) (answer : List ℕ) → AskedMay w sent asked → TakesBody o at asked now answer
      → Added w sent at now
  body_adds (Ok e) at now answer may (inl leaves) = input_adds (refusal o at.list e) e at now answer may leaves
  body_adds (Ok e) at now answer may (inr (fault, memory, (is, said))) = none_more w sent at now is
  body_adds (Err why) at now answer may (is, said) = none_more w sent at now is

  ends_adds : (asked : _) (at now : ClientAt) (answer : List ℕ) → TellsEnds o at asked now answer → Added w sent at now
  ends_adds (Some asked) at now answer (inl (is, said)) = none_more w sent at now is
  ends_adds (Some asked) at now answer (inr (fault, memory, (is, said))) = none_more w sent at now is
  ends_adds None at now answer (is, said) = none_more w sent at now is

  kind_adds : (kind : Option InRecordKind) (body : List ℕ) (at now : ClientAt) (answer : List ℕ) → IfSome (frame_if kind body) (GoesTo sent Client)
      → TakesKind o at kind body now answer → Added w sent at now
  kind_adds None body at now answer h (is, said) = none_more w sent at now is
  kind_adds (Some told.Look) body at now answer h (is, said) = none_more w sent at now is
  kind_adds (Some told.Show) body at now answer h (is, said) = none_more w sent at now is
  kind_adds (Some told.Ends) body at now answer h takes = ends_adds (ends_in body) at now answer takes
  kind_adds (Some told.Note) body at now answer h takes = body_adds (input_in told.Note body) at now answer (asked_may w sent told.Note body h) takes
  kind_adds (Some told.Frame) body at now answer h takes = body_adds (input_in told.Frame body) at now answer (asked_may w sent told.Frame body h) takes
  kind_adds (Some told.Done) body at now answer h takes = body_adds (input_in told.Done body) at now answer (asked_may w sent told.Done body h) takes
  kind_adds (Some told.Failed) body at now answer h takes = body_adds (input_in told.Failed body) at now answer (asked_may w sent told.Failed body h) takes
  kind_adds (Some told.Blocks) body at now answer h takes = body_adds (input_in told.Blocks body) at now answer (asked_may w sent told.Blocks body h) takes
  kind_adds (Some told.Unread) body at now answer h takes = body_adds (input_in told.Unread body) at now answer (asked_may w sent told.Unread body h) takes
  kind_adds (Some told.Begin) body at now answer h takes = body_adds (input_in told.Begin body) at now answer (asked_may w sent told.Begin body h) takes
  kind_adds (Some told.Trigger) body at now answer h takes = body_adds (input_in told.Trigger body) at now answer (asked_may w sent told.Trigger body h) takes
  kind_adds (Some told.Stop) body at now answer h takes = body_adds (input_in told.Stop body) at now answer (asked_may w sent told.Stop body h) takes
  kind_adds (Some told.Verify) body at now answer h takes = body_adds (input_in told.Verify body) at now answer (asked_may w sent told.Verify body h) takes
  kind_adds (Some told.Tick) body at now answer h takes = body_adds (input_in told.Tick body) at now answer (asked_may w sent told.Tick body h) takes

-- ---- a life that ends

begins_anew : (w : Setup) (sent : List Frame) (at left now : ClientAt) → Added w sent at left → ClientRestarts w left now ⊎ ClientRenews w left now
    → Added w sent at now
begins_anew w sent at left now a (inl r) = record {
  more = Restart w.mirror ∷ (Cut ∷ a.more);
  list_is = ap (λ (c : ClientAt). c.list) r.is ∙ ap (λ list. Restart w.mirror ∷ (Cut ∷ list)) a.list_is;
  may = ((refl, subst (λ list. IsTrue (may_restart w list)) (cut_list a.list_is) (still r.may)), (tt, a.may));
}
  where
    cut_list : left.list ≡ a.more ++ at.list → Cut ∷ left.list ≡ Cut ∷ (a.more ++ at.list)
    cut_list is = ap (λ list. Cut ∷ list) is

    still : IsTrue (may_restart w left.list) → IsTrue (may_restart w (Cut ∷ left.list))
    still h = h
begins_anew w sent at left now a (inr r) = record {
  more = Renew r.generation Saved ∷ (Lose ∷ (Cut ∷ a.more));
  list_is = ap (λ (c : ClientAt). c.list) r.is ∙ ap (λ list. Renew r.generation Saved ∷ (Lose ∷ (Cut ∷ list))) a.list_is;
  may = (subst (λ list. IsTrue (may_renew w list r.generation)) (ap (λ list. Lose ∷ (Cut ∷ list)) a.list_is) (still r.may), (has_mirror r.may, (tt, a.may)));
}
  where
    still : IsTrue (may_renew w left.list r.generation) → IsTrue (may_renew w (Lose ∷ (Cut ∷ left.list)) r.generation)
    still h = h

    has_mirror : IsTrue (may_renew w left.list r.generation) → w.mirror ≡ true
    has_mirror h = (and_parts w.mirror _ h).0

left_adds : (w : Setup) (sent : List Frame) (at after left : ClientAt) (part : List ℕ) → Added w sent at after
    → CutsAnswer (λ (c : ClientAt). c.note) at after part left → Added w sent at left
left_adds w sent at after left part a (inl (is, save)) =
    record { more = a.more; list_is = ap (λ (c : ClientAt). c.list) is ∙ a.list_is; may = a.may }
left_adds w sent at after left part a (inr (is, save)) = none_more w sent at left is

pub client_added : (w : Setup) (sent : List Frame) (h : Happening) (at now : ClientAt) → IfSome (frame_read h) (GoesTo sent Client)
    → Becomes (client_member w) at h now → Added w sent at now
client_added w sent (Answers r answer) at now reads takes = kind_adds w (client_opening w) sent (told_numbered r.kind) r.body at now answer reads takes.0
client_added w sent Ends at now reads begins = begins_anew w sent at at now (none_more w sent at at refl) begins
client_added w sent (EndsWithin r part) at now reads cut =
    begins_anew w sent at cut.left now
    (left_adds w sent at cut.after cut.left part
    (kind_adds w (client_opening w) sent (told_numbered r.kind) r.body at cut.after (part ++ cut.rest) reads cut.takes.0) cut.within)
    cut.begins

-- The attempts that the client's filter knows, behind what comes to it.
use Rattle.std.proofs.Common.{◌≡◌, ◌∙◌, ℕ, Bool, true, false, ◌&&◌, List, [], ◌∷◌, ◌++◌, Option, None, Some, Result, Ok, Err, refl, sym, ap, append-nil, ◌+◌, if◌then◌else◌}
use Rattle.std.specs.Prelude.{is_none}
use Rattle.fc_base.specs.declared.fault.Fault.{Fault}
use Rattle.fc_base.specs.declared.fault.FaultSort.{FaultSort}
use Rattle.fc_base.specs.declared.fault.FaultSort.TheVariants as sorts
use Rattle.fc_base.specs.Fault.{sort_of}
use Rattle.disk_model.specs.SaveOutcome.{saved_for}
use Rattle.disk_model.specs.Notes.{Note}
use Rattle.disk_model.specs.declared.save_outcome.SaveOutcome.{SaveOutcome}
use Rattle.disk_model.specs.declared.save_outcome.SaveOutcome.TheVariants.{NoSave}
use Rattle.messages.specs.declared.frame.Frame.{Frame}
use Rattle.messages.specs.Hearing.{Meaning, Says, Waits, Spoils, Strays, meaning, heard_by, with_entry}
use Rattle.messages.specs.Senses.{is_drop}
use Rattle.client_core.specs.declared.client.Client.{Client}
use Rattle.client_core.specs.Inputs as inputs
use Rattle.client_core.specs.Inputs.{PacketInput, FrameInput, Begin, Trigger, Stop, Verify, Deliver, Tick}
use Rattle.client_core.specs.History as history
use Rattle.client_core.specs.History.{Opening}
use Rattle.client_core.specs.Hearing.{FrameEntry, Met, packets_heard, heard_at, rules}
use Rattle.client_core.specs.FrameAnswers.{sense, refusal, due}
use Rattle.client_core.specs.FrameEnds.{note_in, steps}
use Rattle.client_core.specs.Refusals.{refusal_by}
use Rattle.client_core.specs.Saves.{Addition, is_answer}
use Rattle.client_core.specs.Words as words
use Rattle.client_core.specs.Words.{words_noted, is_on, is_answered}
use Rattle.client_core.specs.Laws.{LooksAtAll}
use Rattle.attempt_ends.specs.declared.asked.AskedPlace.{AskedPlace}
use Rattle.attempt_ends.specs.Asked.{places_asked}
use Rattle.attempt_ends.specs.Attempts.{attempt_by, attempts_made}
use Rattle.filters.specs.declared.node_step.NodeStep.{NodeStep}
use Rattle.filters.specs.NodeSteps.{BodyEnds, NotTaken, with_frame}
use Rattle.filters.specs.ClientSteps.{answer_to, noted, after_answer, after_refusal}
use Rattle.filters.specs.declared.beginning.Beginning.{Beginning}
use Rattle.filters.specs.declared.beginning.Beginning.TheVariants.{Alone, Mirrored, Renewed}
use Rattle.filters.specs.declared.client_filter.ClientFilter.{ClientFilter}
use Rattle.filters.specs.Kept.{note_kept}
use Rattle.filters.specs.ClientLives.{ClientAt, IsAt, BeginsBehind, first_entry}
use Rattle.filters.specs.ClientRuns.{FilterIsAt, attempts_by, attempts_numbered, attempts_added}
use Rattle.filters.proofs.TakeLemmas.{body_taken, not_taken}

-- The entry of a call that makes no attempt.
none_more : (o : Opening) (b : Bool) (past : List history.Entry)
    → (if b then attempts_made o past ++ [] else attempts_made o past) ≡ attempts_made o past
none_more o true past = append-nil (attempts_made o past)
none_more o false past = refl

-- Nothing that a frame says makes an attempt.
heard_none : (o : Opening) (past : List FrameEntry) (left : SaveOutcome) (m : Meaning)
    → attempts_made o (with_entry (heard_by (rules o) left m) (packets_heard o past)) ≡ attempts_made o (packets_heard o past)
heard_none o past left (Says p) = none_more o (is_answered o (packets_heard o past) (inputs.Deliver p) left) (packets_heard o past)
heard_none o past left Waits = refl
heard_none o past left Spoils = refl
heard_none o past left Strays = refl

own_answer : (d : Option Addition) → is_answer d (saved_for d) ≡ true
own_answer None = refl
own_answer (Some a) = refl

answered_now : (o : Opening) (past : List history.Entry) (c : PacketInput) → words.refusal o past c ≡ None
    → is_answered o past c (saved_for (words.due o past c)) ≡ true
answered_now o past c free =
    ap (λ r. is_none r && is_answer (words.due o past c) (saved_for (words.due o past c))) free ∙ own_answer (words.due o past c)

-- What an input that is answered makes of the attempts.
pub answered_attempts : (o : Opening) (past : List FrameEntry) (e : FrameInput) → refusal o past e ≡ None
    → attempts_made o (packets_heard o (after_answer o past e)) ≡ attempts_made o (packets_heard o past) ++ attempts_by o past e
answered_attempts o past (Begin text) free =
    none_more o (is_answered o (packets_heard o past) (inputs.Begin text) _) (packets_heard o past) ∙ sym (append-nil _)
answered_attempts o past (Trigger run act) free =
    none_more o (is_answered o (packets_heard o past) (inputs.Trigger run act) _) (packets_heard o past) ∙ sym (append-nil _)
answered_attempts o past (Stop run) free =
    none_more o (is_answered o (packets_heard o past) (inputs.Stop run) _) (packets_heard o past) ∙ sym (append-nil _)
answered_attempts o past (Verify run text) free =
    let before = packets_heard o past in
    ap (λ b. if b then attempts_made o before ++ attempt_by o.servers (words_noted o before) (inputs.Verify run text) else attempts_made o before)
    (answered_now o before (inputs.Verify run text) free)
answered_attempts o past (Deliver f) free =
    heard_none o past (saved_for (due o past (Deliver f))) (meaning (rules o) (heard_at o past) f) ∙ sym (append-nil _)
answered_attempts o past Tick free =
    none_more o (is_answered o (packets_heard o past) inputs.Tick _) (packets_heard o past) ∙ sym (append-nil _)

dropped : (o : Opening) (past : List FrameEntry) (e : FrameInput) (b : Bool) → is_drop (sense o past e) ≡ b
    → attempts_made o (packets_heard o (Met e NoSave ∷ past)) ≡ attempts_made o (packets_heard o past)
    → attempts_made o (packets_heard o (if b then Met e NoSave ∷ past else past)) ≡ attempts_made o (packets_heard o past)
dropped o past e true is same = same
dropped o past e false is same = refl

-- One that is refused makes none.
pub refused_attempts : (o : Opening) (past : List FrameEntry) (e : FrameInput)
    → attempts_made o (packets_heard o (after_refusal o past e)) ≡ attempts_made o (packets_heard o past)
refused_attempts o past (Begin text) = refl
refused_attempts o past (Trigger run act) = refl
refused_attempts o past (Stop run) = refl
refused_attempts o past (Verify run text) = refl
refused_attempts o past (Deliver f) =
    dropped o past (Deliver f) (is_drop (sense o past (Deliver f))) refl (heard_none o past NoSave (meaning (rules o) (heard_at o past) f))
refused_attempts o past Tick = refl

-- What an input that isn't answered makes of them.
not_taken_attempts : {T : Type 0} (note : T → Note) (o : Opening) (at : ClientAt) (e : FrameInput) (old new : Client T) (sort : FaultSort) (fault : Fault)
    (is : sort_of fault ≡ sort) (was : (note_in note old).bytes ≡ at.note) (ends : NotTaken (steps note o) at.list e sort fault old new)
    → attempts_made o (packets_heard o (not_taken note o at e old new sort fault is was ends).0.list) ≡ attempts_made o (packets_heard o at.list)
unfolding not_taken
not_taken_attempts note o at e old new sorts.Memory fault is was ends = refl
not_taken_attempts note o at e old new sorts.Save fault is was ends = absurd ends
not_taken_attempts note o at e old new sorts.Refusal fault is was ends = refused_attempts o at.list e

-- What a body makes of them.
pub taken_attempts : {T : Type 0} (note : T → Note) (o : Opening) (at : ClientAt) (asked : Result FrameInput Fault) (old new : Client T)
    (result : Result NodeStep Fault) (is : IsAt note old o at) (h : BodyEnds (steps note o) (answer_to o at.list) at.list asked old new result)
    → attempts_made o (packets_heard o (body_taken note o at asked old new result is h).0.list)
    ≡ attempts_made o (packets_heard o at.list) ++ attempts_added o at.list asked result
unfolding body_taken not_taken
taken_attempts note o at (Ok e) old new (Ok a) is h = answered_attempts o at.list e h.free
taken_attempts note o at (Ok e) old new (Err fault) is h =
    not_taken_attempts note o at e old new (sort_of fault) fault refl is.1 h ∙ sym (append-nil _)
taken_attempts note o at (Err why) old new (Ok a) is h = absurd h
taken_attempts note o at (Err why) old new (Err fault) is h = sym (append-nil _)

-- The bytes of a frame make no attempt.
pub frame_adds : (o : Opening) (past : List FrameEntry) (faults : List Fault) (frame : Option Frame) (r : Result NodeStep Fault)
    → attempts_added o past (with_frame inputs.Deliver faults frame) r ≡ []
frame_adds o past [] (Some f) (Ok a) = refl
frame_adds o past [] (Some f) (Err fault) = refl
frame_adds o past [] None r = refl
frame_adds o past (fault ∷ faults) frame r = refl

-- ---- an attempt that is made

on_if_free : (on : Bool) (o : Opening) (past : List history.Entry) (c : PacketInput)
    → refusal_by on (words.peers o past) (words_noted o past) c ≡ None → on ≡ true
on_if_free true o past c free = refl
on_if_free false o past c free = cc

-- A call that isn't refused comes to a client that is on.
pub free_is_on : (o : Opening) (past : List FrameEntry) (run : ℕ) (text : List ℕ) → refusal o past (Verify run text) ≡ None
    → is_on (packets_heard o past) ≡ true
free_is_on o past run text free = on_if_free (is_on (packets_heard o past)) o (packets_heard o past) (inputs.Verify run text) free

-- What is known of an attempt that is answered is what the list says.
pub made_now : LooksAtAll → (o : Opening) (past : List FrameEntry) (run : ℕ) (text : List ℕ) (servers : ℕ) (asked : List AskedPlace) (number : Option ℕ)
    → refusal o past (Verify run text) ≡ None → o.servers ≡ servers
    → asked ≡ places_asked servers run text (words_noted o (words.shown_entries (packets_heard o past))).kept
    → number ≡ Some ((noted o past).attempts + 1) → attempts_numbered run asked number ≡ attempts_by o past (Verify run text)
made_now all o past run text servers asked number free is places given =
    let shown = all (packets_heard o past) (free_is_on o past run text free) in
    ap (attempts_numbered run asked) given
    ∙ ap (λ (a : List AskedPlace). record { attempt = (noted o past).attempts + 1; run = run; asked = a } ∷ [])
    (places ∙ ap (λ s. places_asked s run text (words_noted o (words.shown_entries (packets_heard o past))).kept) (sym is)
    ∙ ap (λ p. places_asked o.servers run text (words_noted o p).kept) shown)

-- ---- a life that begins

first_attempts : (begins : Beginning) (o : Opening) (past : List FrameEntry) → attempts_made o (packets_heard o (first_entry begins ∷ past)) ≡ []
first_attempts Alone o past = refl
first_attempts Mirrored o past = refl
first_attempts (Renewed g) o past = refl

-- A filter that begins knows no attempt, as there is none.
pub begun : (filter : ClientFilter) (begins : Beginning) (note : List ℕ) (o : Opening) (at : ClientAt) → filter.attempts.made ≡ []
    → BeginsBehind begins filter.servers note o at → IsAt note_kept filter.client o at → FilterIsAt filter o at
begun filter begins note o at none h is = record {
  client = is;
  servers = h.servers_are;
  attempts = none ∙ sym (ap (λ (x : ClientAt). attempts_made o (packets_heard o x.list)) h.begins ∙ first_attempts begins o h.past);
}

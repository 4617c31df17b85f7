-- Which lists a mirror stands for behind a frame.
use Rattle.std.proofs.Common.{◌≡◌, ◌⊎◌, inl, inr, refl, sym, ap, subst, ◌∙◌, Bool, true, false, ◌&&◌, List, [], ◌∷◌, ◌++◌, Option, None, Some, ℕ}
use Rattle.std.specs.Prelude.{if◌then◌else◌, not, is_none, is_some, slice_get, Ok, Err}
use Rattle.fc_base.specs.declared.fault.Fault.{Fault}
use Rattle.fc_base.specs.declared.fault.Fault.TheVariants.{Down}
use Rattle.fc_base.specs.declared.fault.FaultSort.{FaultSort}
use Rattle.fc_base.specs.declared.fault.FaultSort.TheVariants as sorts
use Rattle.fc_base.specs.Fault.{sort_of}
use Rattle.fc_base.specs.Faults.{when}
use Rattle.disk_model.specs.declared.save_outcome.SaveOutcome.{SaveOutcome}
use Rattle.disk_model.specs.declared.save_outcome.SaveOutcome.TheVariants.{NoSave, LostNew, LostOld}
use Rattle.disk_model.specs.SaveOutcome.{saved_for, is_lost, has_new, bytes_left}
use Rattle.disk_model.specs.Notes.{Note}
use Rattle.node.specs.Saving.{Unsaved}
use Rattle.node.specs.Steps.{LeavesNote, Answers, Fails, Faults}
use Rattle.node.proofs.StepLemmas.{and_true, is_own_answer, not_lost, lost_off}
use Rattle.messages.specs.declared.frame.Frame.{Frame}
use Rattle.mirror_core.specs.declared.mirror.Mirror.{Mirror}
use Rattle.mirror_core.specs.declared.note.MirrorNote.{MirrorNote}
use Rattle.mirror_core.specs.declared.request.Request.{Request}
use Rattle.mirror_core.specs.Note.{IsNoted, Says, SaysWhatIsWritten, spelling}
use Rattle.mirror_core.specs.History.{Entry, Met}
use Rattle.mirror_core.specs.Requests.{request_in}
use Rattle.mirror_core.specs.Refusals.{faults_of, faults_of_request, refusal_by}
use Rattle.mirror_core.specs.Saves.{Addition, with_addition, addition_by, addition_of, unless_refused, noted_after, is_answer}
use Rattle.mirror_core.specs.Words.{is_on, words_noted, shown_entries, refusal, due, would_save, is_answered}
use Rattle.mirror_core.specs.Packets.{replies, packets, packets_for, frame_bytes}
use Rattle.mirror_core.specs.Stands.{StandsFor}
use Rattle.mirror_core.specs.Ends.{answered_entry, steps, save_of, Stores}
use Rattle.mirror_core.proofs.Looked.{looks_at_all}
use Rattle.mirror_core.proofs.RequestLemmas.{refusal_sort}

-- ---- what a mirror knows of its list

not_not : (b : Bool) → not (not b) ≡ b
not_not true = refl
not_not false = refl

stands_on : {T : Type 0} (note : T → Note) (mirror : Mirror T) (o : MirrorNote) (past : List Entry) → StandsFor note mirror o past → not mirror.durable.down ≡ is_on past
stands_on note mirror o past s = ap not s.on ∙ not_not (is_on past)

stands_known : {T : Type 0} (note : T → Note) (mirror : Mirror T) (o : MirrorNote) (past : List Entry) → StandsFor note mirror o past → is_on past ≡ true
    → mirror.noted ≡ words_noted o past
stands_known note mirror o past s on = s.knows ∙ ap (words_noted o) (looks_at_all past on)

same_refusal : (on : Bool) (n m : MirrorNote) (f : Frame) → (on ≡ true → m ≡ n) → refusal_by on m f ≡ refusal_by on n f
same_refusal true n m f e = ap (λ x. refusal_by true x f) (e refl)
same_refusal false n m f e = refl

-- What the mirror refuses is what the list says.
refusal_is : {T : Type 0} (note : T → Note) (mirror : Mirror T) (o : MirrorNote) (past : List Entry) (f : Frame) → StandsFor note mirror o past
    → refusal_by (not mirror.durable.down) mirror.noted f ≡ refusal o past f
refusal_is note mirror o past f s =
    ap (λ on. refusal_by on mirror.noted f) (stands_on note mirror o past s)
    ∙ same_refusal (is_on past) (words_noted o past) mirror.noted f (stands_known note mirror o past s)

-- A frame that isn't refused comes to a mirror that is on, which knows what the list says.
record Free {T : Type 0} (mirror : Mirror T) (o : MirrorNote) (past : List Entry) (f : Frame) (r : Request) : Type 0 where
  on : is_on past ≡ true
  knows : mirror.noted ≡ words_noted o past
  free : refusal o past f ≡ None
  due_is : due o past f ≡ addition_by mirror.noted r
  sends : frame_bytes (replies mirror.noted r) ≡ frame_bytes (packets o past (answered_entry o past f))

free_now : {T : Type 0} (note : T → Note) (mirror : Mirror T) (o : MirrorNote) (past : List Entry) (f : Frame) (r : Request) → mirror.durable.down ≡ false
    → faults_of_request mirror.noted r ≡ [] → request_in f ≡ Some r → StandsFor note mirror o past → Free mirror o past f r
free_now note mirror o past f r up none asked s =
    let on : is_on past ≡ true = sym (stands_on note mirror o past s) ∙ ap not up in
    let knows = stands_known note mirror o past s on in
    let free : refusal o past f ≡ None =
    sym (refusal_is note mirror o past f s) ∙ ap (λ down. refusal_by (not down) mirror.noted f) up ∙ ap (λ q. slice_get (faults_of mirror.noted q) 0) asked
    ∙ ap (λ fs. slice_get fs 0) none in
    let answers : is_answered o past f (saved_for (due o past f)) ≡ true =
    ap (λ x. is_none x && is_answer (due o past f) (saved_for (due o past f))) free ∙ is_own_answer (due o past f) in
    record {
      on = on;
      knows = knows;
      free = free;
      due_is = ap (λ x. unless_refused x (addition_of (words_noted o past) (request_in f))) free
          ∙ (ap (addition_of (words_noted o past)) asked ∙ ap (λ n. addition_by n r) (sym knows));
      sends = ap (λ n. frame_bytes (replies n r)) knows ∙ (ap (λ q. frame_bytes (packets_for (words_noted o past) q)) (sym asked)
          ∙ ap (λ b. frame_bytes (if b then packets_for (words_noted o past) (request_in f) else [])) (sym answers));
    }

-- ---- a refused frame

after_none : (new : Bool) (d : Option Addition) (n : MirrorNote) → new ≡ false → noted_after new d n ≡ n
after_none new None n e = refl
after_none true (Some a) n e = cc
after_none false (Some a) n e = refl

-- A refused frame in the list changes none of its words.
refused_stands : {T : Type 0} (note : T → Note) (mirror : Mirror T) (o : MirrorNote) (past : List Entry) (f : Frame) → StandsFor note mirror o past
    → StandsFor note mirror o (Met f NoSave ∷ past)
refused_stands note mirror o past f s = record {
  on = s.on ∙ ap not (sym (and_true (is_on past)));
  durable = subst (λ n. Says (note mirror.durable.notes).bytes n) (sym same_noted) s.durable;
  knows = s.knows ∙ sym (by_on (is_on past) (shown_entries past) (λ on. same_noted ∙ ap (words_noted o) (sym (looks_at_all past on))));
}
  where
    same_noted : words_noted o (Met f NoSave ∷ past) ≡ words_noted o past
    same_noted = after_none false (due o past f) (words_noted o past) refl

    by_on : (b : Bool) (y : List Entry) → (b ≡ true → words_noted o (Met f NoSave ∷ past) ≡ words_noted o y)
        → words_noted o (if b then Met f NoSave ∷ past else y) ≡ words_noted o y
    by_on true y e = e refl
    by_on false y e = refl

pub refuses : {T : Type 0} (note : T → Note) (mirror : Mirror T) (o : MirrorNote) (past : List Entry) (f : Frame) (fault : Fault)
    → refusal_by (not mirror.durable.down) mirror.noted f ≡ Some fault → StandsFor note mirror o past
    → Faults (steps note o) past f (sort_of fault) fault mirror mirror
refuses note mirror o past f fault r s =
    let why = sym (refusal_is note mirror o past f s) ∙ r in
    subst (λ t. Faults (steps note o) past f t fault mirror mirror) (sym (refusal_sort (not mirror.durable.down) mirror.noted (request_in f) fault r))
    (record { why = why; same_note = refl; unchanged = s; stands = refused_stands note mirror o past f s })

-- ---- a frame that is answered

new_noted : (d : Option Addition) (n : MirrorNote) → noted_after (has_new (saved_for d)) d n ≡ noted_after true d n
new_noted None n = refl
new_noted (Some a) n = refl

answered_stands : {T : Type 0} (note : T → Note) (mirror : Mirror T) (o : MirrorNote) (past : List Entry) (f : Frame) → is_on past ≡ true → mirror.durable.down ≡ false
    → Says (note mirror.durable.notes).bytes (noted_after true (due o past f) (words_noted o past))
    → mirror.noted ≡ noted_after true (due o past f) (words_noted o past) → StandsFor note mirror o (answered_entry o past f ∷ past)
answered_stands note mirror o past f on up says knows = record {
  on = up ∙ sym (ap not (ap (λ b. b && not (is_lost (saved_for (due o past f)))) on ∙ ap not (not_lost (due o past f))));
  durable = subst (Says (note mirror.durable.notes).bytes) (sym noted_is) says;
  knows = knows ∙ sym (ap (words_noted o) look ∙ noted_is);
}
  where
    noted_is : words_noted o (answered_entry o past f ∷ past) ≡ noted_after true (due o past f) (words_noted o past)
    noted_is = new_noted (due o past f) (words_noted o past)

    look : shown_entries (answered_entry o past f ∷ past) ≡ answered_entry o past f ∷ past
    look = ap (λ b. if b then (if is_lost (saved_for (due o past f)) then past else answered_entry o past f ∷ past) else shown_entries past) on
        ∙ ap (λ b. if b then past else answered_entry o past f ∷ past) (not_lost (due o past f))

-- A frame is answered without a save.
pub answers_plain : {T : Type 0} (note : T → Note) (mirror : Mirror T) (o : MirrorNote) (past : List Entry) (f : Frame) (r : Request) (frames : List (List ℕ))
    → mirror.durable.down ≡ false → faults_of_request mirror.noted r ≡ [] → request_in f ≡ Some r
    → addition_by mirror.noted r ≡ None → frames ≡ frame_bytes (replies mirror.noted r) → StandsFor note mirror o past
    → Answers (steps note o) past f mirror mirror frames
answers_plain note mirror o past f r frames up none asked adds sends s =
    let k = free_now note mirror o past f r up none asked s in
    let nothing : due o past f ≡ None = k.due_is ∙ adds in
    let same : words_noted o past ≡ noted_after true (due o past f) (words_noted o past) = ap (λ d. noted_after true d (words_noted o past)) (sym nothing) in
    record {
      free = k.free;
      sends = sends ∙ k.sends;
      leaves = subst (λ d. LeavesNote d (spelling (words_noted o (answered_entry o past f ∷ past))) (note mirror.durable.notes) (note mirror.durable.notes)) (sym nothing) refl;
      stands = answered_stands note mirror o past f k.on up (subst (Says (note mirror.durable.notes).bytes) same s.durable) (k.knows ∙ same);
    }

-- A frame is answered with a save.
pub answers_stored : {T : Type 0} (note : T → Note) (old new : Mirror T) (a : Addition) (o : MirrorNote) (past : List Entry) (f : Frame) (r : Request)
    (frames : List (List ℕ)) → SaysWhatIsWritten → old.durable.down ≡ false → faults_of_request old.noted r ≡ [] → request_in f ≡ Some r
    → addition_by old.noted r ≡ Some a → (IsNoted old.noted → IsNoted (with_addition a old.noted)) → (u : Unit {0}) → Stores note a old new (Ok u)
    → frames ≡ frame_bytes (replies old.noted r)
    → StandsFor note old o past → Answers (steps note o) past f old new frames
answers_stored note old new a o past f r frames read up none asked adds fits u stored sends s =
    let k = free_now note old o past f r up none asked s in
    let makes_one : due o past f ≡ Some a = k.due_is ∙ adds in
    let is : with_addition a old.noted ≡ with_addition a (words_noted o past) = ap (with_addition a) k.knows in
    let grown : with_addition a (words_noted o past) ≡ noted_after true (due o past f) (words_noted o past) =
    ap (λ d. noted_after true d (words_noted o past)) (sym makes_one) in
    let noted_now : IsNoted (with_addition a (words_noted o past)) = subst IsNoted is (fits (subst IsNoted (sym k.knows) s.durable.note)) in
    record {
      free = k.free;
      sends = sends ∙ k.sends;
      leaves = subst (λ d. LeavesNote d (spelling (noted_after (has_new (saved_for d)) d (words_noted o past))) (note old.durable.notes) (note new.durable.notes))
          (sym makes_one)
          (stored.0 ∙ ap (λ n. record (note old.durable.notes) { bytes = spelling n }) is);
      stands = answered_stands note new o past f k.on (ap (λ (m : Mirror _). m.durable.down) stored.1 ∙ up)
          (subst (λ bytes. Says bytes (noted_after true (due o past f) (words_noted o past))) (sym (ap (λ (n : Note). n.bytes) stored.0 ∙ ap spelling is))
          (subst (Says (spelling (with_addition a (words_noted o past)))) grown (read (with_addition a (words_noted o past)) noted_now)))
          (ap (λ (m : Mirror _). m.noted) stored.1 ∙ is ∙ grown);
    }

-- ---- a frame whose save isn't answered

-- A mirror that is down at a failed save stands for the list with what was lost.
lost_stands : {T : Type 0} (note : T → Note) (mirror : Mirror T) (notes : T) (o : MirrorNote) (past : List Entry) (f : Frame) (left : SaveOutcome) → is_on past ≡ true
    → is_lost left ≡ true → StandsFor note mirror o past
    → Says (note notes).bytes (noted_after (has_new left) (due o past f) (words_noted o past))
    → StandsFor note (record mirror { durable = record { notes = notes; down = true } }) o (Met f left ∷ past)
lost_stands note mirror notes o past f left on lost s says = record {
  on = lost_off (is_on past) left lost;
  durable = says;
  knows = s.knows ∙ ap (words_noted o) (looks_at_all past on ∙ sym look);
}
  where
    look : shown_entries (Met f left ∷ past) ≡ past
    look = ap (λ b. if b then (if is_lost left then past else Met f left ∷ past) else shown_entries past) on
        ∙ ap (λ b. if b then past else Met f left ∷ past) lost

unsaved : {T : Type 0} (note : T → Note) (old new : Mirror T) (a : Addition) (fault : Fault) (o : MirrorNote) (past : List Entry) (f : Frame) (r : Request)
    → SaysWhatIsWritten → StandsFor note old o past → Free old o past f r
    → addition_by old.noted r ≡ Some a → IsNoted (with_addition a (words_noted o past)) → (t : FaultSort)
    → Unsaved (λ m. note m.durable.notes) (save_of (with_addition a old.noted) old new) t fault old new → Faults (steps note o) past f t fault old new
unsaved note old new a fault o past f r read s k adds fits sorts.Memory u = record {
  why = u.0;
  same_note = u.1;
  unchanged = subst (λ m. StandsFor note m o past) (sym u.2)
      (record { on = s.on; durable = subst (λ (n : Note). Says n.bytes (words_noted o past)) (sym u.1) s.durable; knows = s.knows });
}
unsaved note old new a fault o past f r read s k adds fits sorts.Refusal u = absurd u
unsaved note old new a fault o past f r read s k adds fits sorts.Save u = by_bytes u.1
  where
    makes_one : due o past f ≡ Some a
    makes_one = k.due_is ∙ adds

    failed : (left : SaveOutcome) → is_lost left ≡ true → (note new.durable.notes).bytes
        ≡ bytes_left left (spelling (noted_after (has_new left) (due o past f) (words_noted o past))) (note old.durable.notes).bytes
        → Says (note new.durable.notes).bytes (noted_after (has_new left) (Some a) (words_noted o past)) → Fails (steps note o) past f old new
    failed left lost bytes says = record {
      cause = u.0;
      free = k.free;
      addition = a;
      makes_one = makes_one;
      left = left;
      lost = lost;
      bytes_are = bytes;
      stands = subst (λ x. StandsFor note x o (Met f left ∷ past)) (sym u.2)
          (lost_stands note old new.durable.notes o past f left k.on lost s
          (subst (λ d. Says (note new.durable.notes).bytes (noted_after (has_new left) d (words_noted o past))) (sym makes_one) says));
    }

    by_bytes : ((note new.durable.notes).bytes ≡ (note old.durable.notes).bytes) ⊎ ((note new.durable.notes).bytes ≡ spelling (with_addition a old.noted))
        → Fails (steps note o) past f old new
    by_bytes (inl e) = failed LostOld refl e (subst (λ bytes. Says bytes (words_noted o past)) (sym e) s.durable)
    by_bytes (inr e) =
        let is : (note new.durable.notes).bytes ≡ spelling (with_addition a (words_noted o past)) = e ∙ ap (λ n. spelling (with_addition a n)) k.knows in
        failed LostNew refl (is ∙ ap (λ d. spelling (noted_after true d (words_noted o past))) (sym makes_one))
        (subst (λ bytes. Says bytes (with_addition a (words_noted o past))) (sym is) (read (with_addition a (words_noted o past)) fits))

-- The frame's save fails, or finds no memory.
pub fails_stored : {T : Type 0} (note : T → Note) (old new : Mirror T) (a : Addition) (fault : Fault) (o : MirrorNote) (past : List Entry) (f : Frame) (r : Request)
    → SaysWhatIsWritten → old.durable.down ≡ false → faults_of_request old.noted r ≡ [] → request_in f ≡ Some r
    → addition_by old.noted r ≡ Some a → (IsNoted old.noted → IsNoted (with_addition a old.noted)) → Stores note a old new (Err fault)
    → StandsFor note old o past → Faults (steps note o) past f (sort_of fault) fault old new
fails_stored note old new a fault o past f r read up none asked adds fits stored s =
    let k = free_now note old o past f r up none asked s in
    unsaved note old new a fault o past f r read s k adds (subst (λ n. IsNoted (with_addition a n)) k.knows (fits (subst IsNoted (sym k.knows) s.durable.note)))
    (sort_of fault) stored

-- ---- whether a frame would make a save

would_by : (r : Option Fault) (d : Option Addition) → r ≡ None → is_some (unless_refused r d) ≡ is_some d
would_by None d e = refl
would_by (Some f) d e = cc

would_not : (r : Option Fault) (d : Option Addition) (fault : Fault) → r ≡ Some fault → false ≡ is_some (unless_refused r d)
would_not None d fault e = cc
would_not (Some f) d fault e = refl

on_of : (on : Bool) (fs : List Fault) → slice_get (when (not on) Down ++ fs) 0 ≡ None → on ≡ true
on_of true fs h = refl
on_of false fs h = cc

pub would_save_one : {T : Type 0} (note : T → Note) (mirror : Mirror T) (o : MirrorNote) (past : List Entry) (f : Frame) (r : Request)
    → refusal_by (not mirror.durable.down) mirror.noted f ≡ None → request_in f ≡ Some r → StandsFor note mirror o past
    → is_some (addition_by mirror.noted r) ≡ would_save o past f
would_save_one note mirror o past f r free asked s =
    let none = sym (refusal_is note mirror o past f s) ∙ free in
    let on : is_on past ≡ true = sym (stands_on note mirror o past s) ∙ on_of (not mirror.durable.down) (faults_of mirror.noted (request_in f)) free in
    ap (λ n. is_some (addition_by n r)) (stands_known note mirror o past s on)
    ∙ (ap (λ q. is_some (addition_of (words_noted o past) q)) (sym asked)
    ∙ sym (would_by (refusal o past f) (addition_of (words_noted o past) (request_in f)) none))

pub would_save_none : {T : Type 0} (note : T → Note) (mirror : Mirror T) (o : MirrorNote) (past : List Entry) (f : Frame) (fault : Fault)
    → refusal_by (not mirror.durable.down) mirror.noted f ≡ Some fault → StandsFor note mirror o past → false ≡ would_save o past f
would_save_none note mirror o past f fault refused s =
    would_not (refusal o past f) (addition_of (words_noted o past) (request_in f)) fault (sym (refusal_is note mirror o past f s) ∙ refused)

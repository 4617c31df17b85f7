-- What is answered to a record by the mirror's filter, from how its mirror's calls end.
use Rattle.std.proofs.Common.{◌≡◌, ◌++◌, ◌∙◌, ℕ, List, None, Result, Ok, Err, refl, sym, ap, subst, inl, inr, arith}
use Rattle.fc_base.specs.Fault.{sort_of}
use Rattle.fc_base.specs.declared.fault.Fault.{Fault}
use Rattle.fc_base.specs.declared.fault.Fault.TheVariants as faults
use Rattle.fc_base.specs.declared.fault.FaultSort.{FaultSort}
use Rattle.fc_base.specs.declared.fault.FaultSort.TheVariants as sorts
use Rattle.disk_model.specs.Notes.{Note}
use Rattle.messages.specs.declared.frame.Frame.{Frame}
use Rattle.mirror_core.specs.declared.mirror.Mirror.{Mirror}
use Rattle.mirror_core.specs.declared.note.MirrorNote.{MirrorNote}
use Rattle.mirror_core.specs.Ends.{steps}
use Rattle.mirror_core.specs.Note.{Says}
use Rattle.mirror_core.specs.Stands.{Opens, NotOpened}
use Rattle.mirror_core.specs.Words.{words_noted, due}
use Rattle.filters.specs.declared.node_step.NodeStep.{NodeStep}
use Rattle.filters.specs.Records.{end_bytes}
use Rattle.filters.specs.NodeSteps.{BodyEnds, NotTaken}
use Rattle.filters.specs.NodeTells.{result_bytes}
use Rattle.filters.specs.MirrorLives.{MirrorAt, IsAt, TakesBody, BeginsBehind, RefusesNote, answer_to, at_by, new_note, reply_by}
use Rattle.filters.proofs.NodeLemmas.{answer_is, note_so}

-- The note of a mirror says what its list does.
pub note_says : {T : Type 0} (note : T → Note) (mirror : Mirror T) (o : MirrorNote) (at : MirrorAt) → IsAt note mirror o at → Says at.note (words_noted o at.list)
note_says note mirror o at (stands, is) = subst (λ bytes. Says bytes (words_noted o at.list)) is stands.durable

-- What a frame that isn't answered leaves.
frame_not_taken : {T : Type 0} (note : T → Note) (o : MirrorNote) (at : MirrorAt) (f : Frame) (old new : Mirror T) (sort : FaultSort) (fault : Fault)
    → sort_of fault ≡ sort → (note old.durable.notes).bytes ≡ at.note → NotTaken (steps note o) at.list f sort fault old new
    → (now : MirrorAt) × IsAt note new o now × TakesBody o at (Ok f) now (end_bytes (Err fault))
frame_not_taken note o at f old new sorts.Memory fault is was (same, stands) =
    (at, (stands, ap (λ (n : Note). n.bytes) same ∙ was), inr (fault, is, (refl, refl)))
frame_not_taken note o at f old new sorts.Save fault is was ends = absurd ends
frame_not_taken note o at f old new sorts.Refusal fault is was h = (
  at,
  (h.unchanged, ap (λ (n : Note). n.bytes) h.same_note ∙ was),
  inl (sym (ap (λ w. at_by w o at f) h.why), sym (ap (λ w. reply_by w o at.list f) h.why)),
)

-- What the mirror makes of a body, by how its call ends.
pub body_taken : {T : Type 0} (note : T → Note) (o : MirrorNote) (at : MirrorAt) (asked : Result Frame Fault) (old new : Mirror T)
    (result : Result NodeStep Fault)
    → IsAt note old o at → BodyEnds (steps note o) (answer_to o at.list) at.list asked old new result
    → (now : MirrorAt) × IsAt note new o now × TakesBody o at asked now (result_bytes (note new.durable.notes).bytes result)
body_taken note o at (Ok f) old new (Ok a) is h = (
  at_by None o at f,
  (h.stands, note_so (due o at.list f) (new_note o at.list f) at.note (note old.durable.notes) (note new.durable.notes) h.leaves is.1),
  inl (
    sym (ap (λ w. at_by w o at f) h.free),
    ap (λ l. l ++ end_bytes (Ok tt)) (answer_is (steps note o) (answer_to o at.list) at.list f old new a refl h)
        ∙ sym (ap (λ w. reply_by w o at.list f) h.free),
  ),
)
body_taken note o at (Ok f) old new (Err fault) is h = frame_not_taken note o at f old new (sort_of fault) fault refl is.1 h
body_taken note o at (Err why) old new (Ok a) is h = absurd h
body_taken note o at (Err why) old new (Err fault) is (told, same) =
    (at, subst (λ mirror. IsAt note mirror o at) (sym same) is, (refl, ap (λ (f : Fault). end_bytes (Err f)) told))

-- A mirror that was opened is where it begins.
pub begins_at : {T : Type 0} (note : T → Note) (bytes : List ℕ) (old : Note) (mirror : Mirror T) → old.bytes ≡ bytes → Opens note old mirror
    → (o : MirrorNote) (first : MirrorAt) → BeginsBehind bytes o first → IsAt note mirror o first
begins_at note bytes old mirror is opens o first h =
    subst (IsAt note mirror o) (sym h.begins) (
      opens.stands o h.past (subst (λ b. Says b (words_noted o h.past)) (sym is) h.says),
      ap (λ (n : Note). n.bytes) opens.same ∙ is,
    )

-- Why one isn't opened.
pub refuses : (bytes : List ℕ) (old new : Note) (fault : Fault) → old.bytes ≡ bytes → new.failures ≡ old.failures → NotOpened old new fault
    → RefusesNote bytes fault
refuses bytes old new faults.LoadFault is same (more, kept) = absurd (omega (arith, more, same))
refuses bytes old new faults.BadNote is same (kept, bad) = λ said says. bad said (subst (λ b. Says b said) (sym is) says)
refuses bytes old new faults.NoMemory is same kept = tt
refuses bytes old new _ is same why = absurd why

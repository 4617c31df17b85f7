-- The client over its note.
use Rattle.std.proofs.Common.{◌≡◌, ◌≢◌, ◌++◌, ◌∙◌, ℕ, Bool, true, false, List, [], ◌∷◌, refl, sym, ap, subst, inr, arith, Ok}
use Rattle.fc_base.specs.declared.fault.Fault.{Fault}
use Rattle.fc_base.specs.declared.fault.Fault.TheVariants as faults
use Rattle.disk_model.specs.Notes.{Note}
use Rattle.client_core.specs.declared.client.Client.{Client}
use Rattle.client_core.specs.Hearing.{FrameEntry, Restart}
use Rattle.client_core.specs.Note.{Says, blank}
use Rattle.client_core.specs.Stands.{IsBadNote, NotOpened, NotRenewed}
use Rattle.client_core.specs.FrameEnds.{Opens, BeginsAnew}
use Rattle.filters.specs.declared.beginning.Beginning.{Beginning}
use Rattle.filters.specs.declared.beginning.Beginning.TheVariants.{Alone, Mirrored, Renewed}
use Rattle.filters.specs.declared.note_buffer.NoteBuffer.{NoteBuffer}
use Rattle.filters.specs.Kept.{note_kept}
use Rattle.filters.specs.Records.{end_bytes}
use Rattle.filters.specs.ClientSteps.{noted}
use Rattle.filters.specs.NodeTells.{save_bytes}
use Rattle.filters.specs.ClientLives.{IsAt, MayBegin, NotRestarted, RefusesNote, restarts, starts, is_renewal, first_note, opening_bytes}
use Rattle.filters.specs.ClientRuns.{IsOpened}

-- What is answered to the note is what was saved, and the end.
pub opening_is : (beginning : Beginning) (note : List ℕ) → save_bytes (is_renewal beginning) (first_note beginning note) ++ end_bytes (Ok tt) ≡ opening_bytes beginning
opening_is Alone note = refl
opening_is Mirrored note = refl
opening_is (Renewed g) note = refl

-- ---- a restart

may_begin : (mirror : Bool) (bytes : List ℕ) → (mirror ≡ true → bytes ≢ []) → MayBegin (restarts mirror) bytes
may_begin false bytes some = tt
may_begin true bytes some = some refl

note_is : (mirror : Bool) (bytes : List ℕ) → first_note (restarts mirror) bytes ≡ bytes
note_is false bytes = refl
note_is true bytes = refl

pub first_is : (mirror : Bool) (past : List FrameEntry) (bytes : List ℕ)
    → starts (restarts mirror) past bytes ≡ record { list = Restart mirror ∷ past; note = bytes }
first_is false past bytes = refl
first_is true past bytes = refl

-- A client that was restarted is where it begins.
pub restarted : (mirror : Bool) (servers : ℕ) (bytes : List ℕ) (old : Note) (client : Client NoteBuffer) → old.bytes ≡ bytes
    → Opens note_kept servers mirror old client → IsOpened (restarts mirror) servers bytes client
restarted mirror servers bytes old client is opens = record {
  may = may_begin mirror bytes (λ has none. opens.some has (is ∙ none));
  said = opens.said;
  says = subst (λ b. Says b opens.said) is opens.says;
  saved = ap (λ (n : Note). n.bytes) opens.same ∙ is ∙ sym (note_is mirror bytes);
  begins = λ o first h. subst (IsAt note_kept client o) (sym (h.begins ∙ first_is mirror h.past bytes)) (
    opens.stands o h.past h.servers_are (subst (λ b. Says b (noted o h.past)) (sym is) h.says),
    ap (λ (n : Note). n.bytes) opens.same ∙ is,
  );
}

-- Why one isn't restarted.
pub not_restarted : (mirror : Bool) (bytes : List ℕ) (old new : Note) (fault : Fault) → old.bytes ≡ bytes → new.failures ≡ old.failures
    → NotOpened mirror old new fault → RefusesNote (restarts mirror) bytes fault
not_restarted mirror bytes old new fault is same why = refused mirror fault (by fault why)
  where
    by : (f : Fault) → NotOpened mirror old new f → NotRestarted mirror bytes f
    by faults.LoadFault (more, kept) = absurd (omega (arith, more, same))
    by faults.BadNote (kept, bad) = subst (IsBadNote mirror) is bad
    by faults.NoMemory kept = tt
    by _ none = absurd none

    refused : (m : Bool) (f : Fault) → NotRestarted m bytes f → RefusesNote (restarts m) bytes f
    refused false f h = h
    refused true f h = h

-- ---- a client that begins anew

-- No bytes say what a blank note says.
pub blank_said : Says [] blank
blank_said = record {
  note = record { generation = omega arith; runs = omega arith; attempts = omega arith; count = omega arith; states = tt; keys = refl };
  spelled = inr (refl, refl);
}

-- A client that was begun anew is where it begins.
pub renewed : (g servers : ℕ) (bytes : List ℕ) (old : Note) (client : Client NoteBuffer) → old.bytes ≡ bytes
    → BeginsAnew note_kept servers g old client → IsOpened (Renewed g) servers bytes client
renewed g servers bytes old client is anew = record {
  may = (sym is ∙ anew.empty, anew.free);
  said = blank;
  says = subst (λ b. Says b blank) (sym anew.empty ∙ is) blank_said;
  saved = ap (λ (n : Note). n.bytes) anew.leaves;
  begins = λ o first h. subst (IsAt note_kept client o) (sym h.begins) (
    anew.stands o h.past h.servers_are (subst (λ b. Says b (noted o h.past)) (sym is) h.says),
    ap (λ (n : Note). n.bytes) anew.leaves,
  );
}

-- Why one isn't begun anew.
pub not_renewed : (g : ℕ) (bytes : List ℕ) (old new : Note) (fault : Fault) → old.bytes ≡ bytes → new.failures ≡ old.failures
    → NotRenewed g old new fault → RefusesNote (Renewed g) bytes fault
not_renewed g bytes old new faults.BadGeneration is same (kept, none) = none
not_renewed g bytes old new faults.LoadFault is same (more, kept, free) = absurd (omega (arith, more, same))
not_renewed g bytes old new faults.BadNote is same (kept, free, some) = (free, λ none. some (is ∙ none))
not_renewed g bytes old new faults.NoMemory is same kept = tt
not_renewed g bytes old new faults.SaveFault is same (more, free, none, half) = absurd (omega (arith, more, same))
not_renewed g bytes old new _ is same why = absurd why

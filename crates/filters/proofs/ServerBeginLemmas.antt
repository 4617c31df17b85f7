-- A server over its note.
use Rattle.std.proofs.Common.{◌≡◌, ℕ, List, ◌++◌, true, Ok, Option, sym, ap, subst, arith}
use Rattle.fc_base.specs.declared.fault.Fault.{Fault}
use Rattle.fc_base.specs.declared.fault.Fault.TheVariants as faults
use Rattle.disk_model.specs.Notes.{Note}
use Rattle.server_core.specs.declared.server.Server.{Server}
use Rattle.server_core.specs.Note.{Says}
use Rattle.server_core.specs.Ends.{NotOpened}
use Rattle.server_core.specs.FrameEnds.{Restarts, note_in}
use Rattle.filters.specs.declared.note_buffer.NoteBuffer.{NoteBuffer}
use Rattle.filters.specs.declared.checking.Checking.{Checking}
use Rattle.filters.specs.Kept.{note_kept}
use Rattle.filters.specs.ServerAt.{IsAt, no_checks, noted}
use Rattle.filters.specs.Records.{end_bytes}
use Rattle.filters.specs.NodeTells.{save_bytes}
use Rattle.filters.specs.Steps.{IsOpened}
use Rattle.filters.specs.ServerLives.{RefusesNote, server_filter}
use Rattle.filters.specs.CheckRuns.{AreChecks}

-- A server that was opened is where it begins.
pub opened_over : (me : ℕ) (bytes : List ℕ) (notes : NoteBuffer) (server : Server NoteBuffer) (checks : List (Option Checking)) → (note_kept notes).bytes ≡ bytes
    → AreChecks checks no_checks → Restarts note_kept me notes server
    → IsOpened (server_filter me) (λ o at. IsAt note_kept server o at × AreChecks checks at.checks) bytes
    (save_bytes true (note_in note_kept server).bytes ++ end_bytes (Ok tt))
opened_over me bytes notes server checks is none opens = record {
  said = opens.said;
  says = subst (λ b. Says b opens.said) is opens.says;
  answered_is = ap (λ (n : Note). save_bytes true n.bytes ++ end_bytes (Ok tt)) opens.leaves;
  begins = λ o first h. subst (λ at. IsAt note_kept server o at × AreChecks checks at.checks) (sym h.begins) (
    (opens.stands o h.past h.me_is (subst (λ b. Says b (noted o h.past)) (sym is) h.says), ap (λ (n : Note). n.bytes) opens.leaves),
    none,
  );
}

-- Why one isn't opened.
pub refuses : (bytes : List ℕ) (old new : Note) (fault : Fault) → old.bytes ≡ bytes → new.failures ≡ old.failures → NotOpened old new fault
    → RefusesNote bytes fault
refuses bytes old new faults.LoadFault is same (more, kept) = absurd (omega (arith, more, same))
refuses bytes old new faults.BadNote is same (kept, none) = λ said says. none said (subst (λ b. Says b said) (sym is) says)
refuses bytes old new faults.NumbersSpent is same (kept, last) = λ said says. last said (subst (λ b. Says b said) (sym is) says)
refuses bytes old new faults.NoMemory is same kept = tt
refuses bytes old new faults.SaveFault is same (more, half) = absurd (omega (arith, more, same))
refuses bytes old new _ is same why = absurd why

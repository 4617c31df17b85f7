-- The answers of the mirror's filter that are cut.
use Rattle.std.proofs.Common.{◌≡◌, ℕ, List, [], ◌∷◌, length, Option, None, Some, Result, Ok, Err, refl, ap, inl, inr, arith}
use Rattle.fc_base.specs.declared.fault.Fault.{Fault}
use Rattle.messages.specs.declared.frame.Frame.{Frame}
use Rattle.mirror_core.specs.declared.note.MirrorNote.{MirrorNote}
use Rattle.mirror_core.specs.History.{Cut}
use Rattle.mirror_core.specs.Note.{Says, note_of, spelling}
use Rattle.mirror_core.specs.Words.{words_noted, refusal, due}
use Rattle.filters.specs.declared.kinds.InRecordKind.{InRecordKind}
use Rattle.filters.specs.declared.kinds.InRecordKind.TheVariants as told
use Rattle.filters.specs.Kinds.{told_numbered}
use Rattle.filters.specs.Lives.{RecordParts}
use Rattle.filters.specs.NodeSteps.{Leaves}
use Rattle.filters.specs.Records.{end_bytes}
use Rattle.filters.specs.MirrorLives.{MirrorAt, MirrorTakes, TakesBody, TakesKind, after_answer, at_by, frame_in, new_note, reply_by}
use Rattle.filters.specs.MirrorCuts.{LivesGoOn}
use Rattle.filters.proofs.NodeCutLemmas.{SaysFirst, cut_anywhere, due_first, left_keeps}

abbrev note : MirrorAt → List ℕ
note at = at.note

-- A note that is saved isn't empty.
some_bytes : (x : ℕ) (xs : List ℕ) → x ∷ xs ≡ [] → ⊥
some_bytes x xs is = absurd (omega (arith, ap length is))

some_note : (n : MirrorNote) → spelling n ≡ [] → ⊥
unfolding note_of
some_note n is = some_bytes 70 _ is

frame_first : (o : MirrorNote) (why : Option Fault) (before : MirrorAt) (f : Frame) (after : MirrorAt) (answer : List ℕ)
    → Leaves (at_by why o before f) (reply_by why o before.list f) after answer → SaysFirst note before after answer
frame_first o None before f after answer (is, said) =
    due_first note (due o before.list f) (new_note o before.list f) _ (end_bytes (Ok tt)) answer before after
    (some_note (words_noted o (after_answer o before.list f))) (ap note is) said
frame_first o (Some fault) before f after answer (is, said) = inl (ap note is)

body_first : (o : MirrorNote) (before : MirrorAt) (asked : Result Frame Fault) (after : MirrorAt) (answer : List ℕ) → TakesBody o before asked after answer
    → SaysFirst note before after answer
body_first o before (Ok f) after answer (inl leaves) = frame_first o (refusal o before.list f) before f after answer leaves
body_first o before (Ok f) after answer (inr (fault, memory, (is, said))) = inl (ap note is)
body_first o before (Err why) after answer (is, said) = inl (ap note is)

kind_first : (o : MirrorNote) (before : MirrorAt) (kind : Option InRecordKind) (body : List ℕ) (after : MirrorAt) (answer : List ℕ)
    → TakesKind o before kind body after answer → SaysFirst note before after answer
kind_first o before (Some told.Frame) body after answer takes = body_first o before (frame_in body) after answer takes
kind_first o before None body after answer (is, said) = inl (ap note is)
kind_first o before (Some told.Note) body after answer (is, said) = inl (ap note is)
kind_first o before (Some told.Done) body after answer (is, said) = inl (ap note is)
kind_first o before (Some told.Failed) body after answer (is, said) = inl (ap note is)
kind_first o before (Some told.Blocks) body after answer (is, said) = inl (ap note is)
kind_first o before (Some told.Unread) body after answer (is, said) = inl (ap note is)
kind_first o before (Some told.Begin) body after answer (is, said) = inl (ap note is)
kind_first o before (Some told.Trigger) body after answer (is, said) = inl (ap note is)
kind_first o before (Some told.Stop) body after answer (is, said) = inl (ap note is)
kind_first o before (Some told.Verify) body after answer (is, said) = inl (ap note is)
kind_first o before (Some told.Tick) body after answer (is, said) = inl (ap note is)
kind_first o before (Some told.Look) body after answer (is, said) = inl (ap note is)
kind_first o before (Some told.Show) body after answer (is, said) = inl (ap note is)
kind_first o before (Some told.Ends) body after answer (is, said) = inl (ap note is)

takes_first : (o : MirrorNote) (before after : MirrorAt) (r : RecordParts) (answer : List ℕ) → MirrorTakes o before r after answer
    → SaysFirst note before after answer
takes_first o before after r answer (takes, says) = kind_first o before (told_numbered r.kind) r.body after answer takes

pub lives_go_on : LivesGoOn
lives_go_on o first now records front back says lived =
    let c = cut_anywhere note (MirrorTakes o) (takes_first o) first now records front back lived in
    record {
      left = c.0;
      cuts = c.1;
      next = record {
        past = Cut ∷ c.0.list;
        says = left_keeps note (MirrorTakes o) (takes_first o) (λ at. Says at.note (words_noted o at.list))
            (λ before after r answer takes said. takes.1) first c.0 records front says c.1;
        begins = refl;
      };
    }

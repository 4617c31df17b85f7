-- A server keeps the laws of a node: what a cut and a lost save leave.
use Rattle.std.proofs.Common.{◌≡◌, refl, subst, ℕ, Bool, true, false, List, Option, Some, None}
use Rattle.std.specs.Prelude.{if◌then◌else◌, is_some}
use Rattle.std.proofs.lemmas.Bool.{false≢true}
use Rattle.fc_base.specs.declared.fault.Fault.TheVariants.{Down}
use Rattle.disk_model.specs.Notes.{Note}
use Rattle.disk_model.specs.declared.save_outcome.SaveOutcome.TheVariants.{Saved, LostNew, LostOld}
use Rattle.node.specs.Kinds.{Laws}
use Rattle.node.proofs.LawLemmas.{Saving, free, stays, falls, new, old}
use Rattle.server_core.specs.declared.note.ServerNote.{ServerNote}
use Rattle.server_core.specs.Request.{Request, ToStart, request_of}
use Rattle.server_core.specs.Run.{Work}
use Rattle.server_core.specs.Replies.{Now}
use Rattle.server_core.specs.History.{Opening, Entry}
use Rattle.server_core.specs.Note.{Says}
use Rattle.server_core.specs.Words.{Staged, is_on, boot, last_run, staged_run, work, due_by, due, last_run_after, words_noted}
use Rattle.server_core.specs.Answers.{now, refusal_of}
use Rattle.server_core.specs.HearingKind.{hearing_kind, hearing_laws}
use Rattle.server_core.specs.FrameEnds.{server_node}
use Rattle.server_core.specs.NodeKind.{server_kind}

free_by : (on : Bool) (w : Now) (last : ℕ) (s : Option Staged) (x : Option Work) (r : Request) → is_some (due_by on last s x r) ≡ true
    → (if on then refusal_of w r else Some Down) ≡ None
free_by true w last s x (ToStart run) h = refl
free_by false w last s x (ToStart run) h = absurd (false≢true h)
free_by on w last s x _ h = absurd (false≢true h)

recorded_old : (x : Option Staged) (last : ℕ) → last ≡ last_run_after LostOld x last
recorded_old None last = refl
recorded_old (Some s) last = refl

recorded_new : (x : Option Staged) (last : ℕ) → last_run_after Saved x last ≡ last_run_after LostNew x last
recorded_new None last = refl
recorded_new (Some s) last = refl

noted : {T : Type 0} → (T → Note) → Opening → List Entry → T → Type 0
noted note o list notes = Says (note notes).bytes (words_noted o list)

with_run : Opening → List Entry → ℕ → ServerNote
with_run o list last = record { boot = boot o list; last_run = last }

saving : {T : Type 0} (note : T → Note) (o : Opening) → Saving (hearing_kind note o) (noted note o)
unfolding noted with_run
saving note o = record {
  free = λ list x h. free_by (is_on list) (now o list) (last_run o list) (staged_run o list) (work o list) (request_of o.me x) h;
  new = λ list x notes s. subst (λ last. Says (note notes).bytes (with_run o list last)) (recorded_new (due o list x) (last_run o list)) s;
  old = λ list x notes s. subst (λ last. Says (note notes).bytes (with_run o list last)) (recorded_old (due o list x) (last_run o list)) s;
}

pub laws : {T : Type 0} (note : T → Note) (o : Opening) → Laws (server_kind note o)
unfolding noted
laws note o = record {
  off = λ past. refl;
  says = λ past notes s. s;
  free = free (server_node note o) (λ e left. refl) (hearing_laws note o) (noted note o) (saving note o);
  stays = stays (server_node note o) (λ e left. refl) (hearing_laws note o) (noted note o) (saving note o);
  falls = falls (server_node note o) (λ e left. refl) (hearing_laws note o) (noted note o) (saving note o);
  new = λ past e notes due. new (server_node note o) (λ e left. refl) (hearing_laws note o) (noted note o) (saving note o) past e notes;
  old = λ past e notes due. old (server_node note o) (λ e left. refl) (hearing_laws note o) (noted note o) (saving note o) past e notes;
}

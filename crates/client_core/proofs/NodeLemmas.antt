-- A client keeps the laws of a node: what a cut and a lost save leave.
use Rattle.std.proofs.Common.{◌≡◌, refl, subst, true, false, List, Option, Some, None}
use Rattle.std.specs.Prelude.{is_some}
use Rattle.fc_base.specs.declared.fault.Fault.{Fault}
use Rattle.disk_model.specs.Notes.{Note}
use Rattle.node.specs.Kinds.{Laws}
use Rattle.node.proofs.LawLemmas.{Saving, free, stays, falls, new, old}
use Rattle.client_core.specs.declared.note.ClientNote.{ClientNote}
use Rattle.client_core.specs.History.{Opening, Entry}
use Rattle.client_core.specs.Note.{Says}
use Rattle.client_core.specs.Words.{words_noted, refusal, due}
use Rattle.client_core.specs.Saves.{Addition, unless_refused, noted_after}
use Rattle.client_core.specs.HearingKind.{hearing_kind, hearing_laws}
use Rattle.client_core.specs.FrameEnds.{client_node}
use Rattle.client_core.specs.NodeKind.{client_kind}

free_by : (r : Option Fault) (x : Option Addition) → is_some (unless_refused r x) ≡ true → r ≡ None
free_by None x h = refl
free_by (Some fault) x h = cc

none_new : (x : Option Addition) (n : ClientNote) → n ≡ noted_after false x n
none_new None n = refl
none_new (Some a) n = refl

noted : {T : Type 0} → (T → Note) → Opening → List Entry → T → Type 0
noted note o list notes = Says (note notes).bytes (words_noted o list)

saving : {T : Type 0} (note : T → Note) (o : Opening) → Saving (hearing_kind note o) (noted note o)
unfolding noted
saving note o = record {
  free = λ list x h. free_by (refusal o list x) _ h;
  new = λ list x notes s. s;
  old = λ list x notes s. subst (Says (note notes).bytes) (none_new (due o list x) (words_noted o list)) s;
}

pub laws : {T : Type 0} (note : T → Note) (o : Opening) → Laws (client_kind note o)
unfolding noted
laws note o = record {
  off = λ past. refl;
  says = λ past notes s. s;
  free = free (client_node note o) (λ e left. refl) (hearing_laws note o) (noted note o) (saving note o);
  stays = stays (client_node note o) (λ e left. refl) (hearing_laws note o) (noted note o) (saving note o);
  falls = falls (client_node note o) (λ e left. refl) (hearing_laws note o) (noted note o) (saving note o);
  new = λ past e notes due. new (client_node note o) (λ e left. refl) (hearing_laws note o) (noted note o) (saving note o) past e notes;
  old = λ past e notes due. old (client_node note o) (λ e left. refl) (hearing_laws note o) (noted note o) (saving note o) past e notes;
}

-- How a client that isn't on is started.
use Rattle.std.proofs.Common.{◌≡◌, refl, sym, ap, subst, inl, inr, ℕ, true, false, List, ◌∷◌, Some, None, Result, Ok, Err}
use Rattle.std.specs.Prelude.{if◌then◌else◌, not}
use Rattle.fc_base.specs.declared.fault.Fault.{Fault}
use Rattle.fc_base.specs.declared.fault.Fault.TheVariants.{NoMemory, LoadFault, BadNote, NodeOn}
use Rattle.disk_model.specs.Notes.{Note}
use Rattle.client_core.specs.declared.note.ClientNote.{ClientNote}
use Rattle.client_core.specs.declared.client.Client.{Client}
use Rattle.client_core.specs.History.{Opening}
use Rattle.client_core.specs.Note.{Says}
use Rattle.client_core.specs.Words.{words_noted}
use Rattle.client_core.specs.Stands.{IsBadNote, NotOpened}
use Rattle.client_core.specs.Hearing.{FrameEntry, Restart, packets_heard, is_up}
use Rattle.client_core.specs.FrameEnds as ends
use Rattle.client_core.specs.FrameEnds.{note_in}
use Rattle.cells.specs.declared.answer.Reply.{Reply}
use Rattle.node.specs.declared.power.Power.TheVariants.{Off}
use Rattle.client_core.specs.NodeKind.{client_kind}
use Rattle.cells.specs.ClientRules.{core, ask_of_frame}
use Rattle.cells.specs.Failures.{Counts}
use Rattle.cells.specs.Moves.{TaskEnds}
use Rattle.node.specs.Kinds.{left_by, note_by}
use Rattle.node.specs.Kinds as nodes
use Rattle.cells.specs.Powers.{told_of}
use Rattle.cells.specs.Rules.{Restarts}
use Rattle.messages.specs.NetworkLaws.{FramesAreSpelled}
use Rattle.client_core.specs.Laws.{PacketsAreInRange}
use Rattle.client_core.specs.Inputs.{Deliver}
use Rattle.cells.specs.CoreLaws.{Laws}
use Rattle.cells.proofs.ClientHearLemmas.{spelled}

-- Without a mirror a bad note says nothing.
no_note : (bytes : List ℕ) → IsBadNote false bytes → (said : ClientNote) → Says bytes said → ⊥
no_note bytes (inl bad) said says = bad said says
no_note bytes (inr empty) said says = cc

unstarted : {T : Type 0} (note : T → Note) (o : Opening) (past : List FrameEntry) (notes back : T) (fault : Fault) → is_up o past ≡ false
    → Says (note notes).bytes (words_noted o (packets_heard o past)) → NotOpened false (note notes) (note back) fault
    → TaskEnds (client_kind note o) (core o) past Restarts (Off back) (Err fault)
unstarted note o past notes back LoadFault off says h = record {
  after = past;
  ends = record { why = inr (refl, ap not off); sends_none = refl; after_is = refl };
  stands = (subst (λ bytes. Says bytes (words_noted o (packets_heard o past))) (sym h.1) says, off);
  ranges = λ h. h;
}
unstarted note o past notes back BadNote off says h = absurd (no_note (note notes).bytes h.1 (words_noted o (packets_heard o past)) says)
unstarted note o past notes back NoMemory off says h = (refl, (subst (λ (n : Note). Says n.bytes (words_noted o (packets_heard o past))) (sym h) says, off))
unstarted note o past notes back _ off says h = absurd h

pub starts : {T : Type 0} (note : T → Note) (o : Opening) (past : List FrameEntry) (servers : ℕ) (notes : T) (result : Result (Client T) (T × Fault))
    → o.servers ≡ servers → is_up o past ≡ false → Says (note notes).bytes (words_noted o (packets_heard o past))
    → ends.Restarts note servers false (note notes) result
    → TaskEnds (client_kind note o) (core o) past Restarts (left_by result) (told_of (nodes.told_of result))
starts note o past servers notes (Ok client) is off says h = record {
  after = Restart false ∷ past;
  ends = record {
    free = ap (λ b. if b then Some NodeOn else None) off;
    said_is = refl;
    entry = Restart false;
    entry_is = refl;
    sent_are = refl;
    after_is = refl;
  };
  stands = h.stands o past is says;
  ranges = λ h. h;
}
starts note o past servers notes (Err back) is off says h = unstarted note o past notes back.0 back.1 off says h

-- A restart that fails counts why.
unstarted_counts : (old new : Note) (fault : Fault) → NotOpened false old new fault → Counts {X = Reply} true old.failures new.failures (Err fault)
unstarted_counts old new LoadFault h = h.0
unstarted_counts old new BadNote h = ap (λ (n : Note). n.failures) h.0
unstarted_counts old new NoMemory h = ap (λ (n : Note). n.failures) h
unstarted_counts old new _ h = absurd h

pub start_counts : {T : Type 0} (note : T → Note) (servers : ℕ) (notes : T) (result : Result (Client T) (T × Fault))
    → ends.Restarts note servers false (note notes) result
    → Counts true (note notes).failures (note_by (λ (client : Client T). note_in note client) note (left_by result)).failures (told_of (nodes.told_of result))
start_counts note servers notes (Ok client) h = tt
start_counts note servers notes (Err back) h = unstarted_counts (note notes) (note back.0) back.1 h

-- ---- the laws of cells

-- Its rules keep the laws of cells.
pub laws : {T : Type 0} (note : T → Note) (o : Opening) → FramesAreSpelled → PacketsAreInRange
    → Laws (client_kind note o) (core o) (λ notes made. ends.Restarts note o.servers false (note notes) made) Deliver
laws note o law ranges = record {
  cuts = λ past. record { sends_none = refl; off = refl; ranges = λ h. h; says = λ notes h. h };
  starts = record {
    ends = λ past notes made off says h. starts note o past o.servers notes made refl off says h;
    counts = λ notes made h. start_counts note o.servers notes made h;
  };
  asked = λ bytes f is. ap ask_of_frame is;
  spelled = spelled law ranges o;
}

-- A mirror's node takes what comes as its list does, and loses its power within a save.
use Rattle.std.proofs.Common.{◌≡◌, refl, sym, subst, inl, inr, ℕ, arith, false, List, [], Result, Ok, Err}
use Rattle.fc_base.specs.declared.fault.Fault.{Fault}
use Rattle.fc_base.specs.declared.fault.Fault.TheVariants.{NoMemory, LoadFault, BadNote}
use Rattle.disk_model.specs.MemNotes.{Saved as Kept, note_of}
use Rattle.disk_model.specs.Notes.{Note}
use Rattle.disk_model.specs.SaveOutcome.{is_lost}
use Rattle.mirror_core.specs.declared.mirror.Mirror.{Mirror}
use Rattle.mirror_core.specs.declared.note.MirrorNote.{MirrorNote}
use Rattle.mirror_core.specs.History.{Entry, Cut}
use Rattle.mirror_core.specs.Note.{Says, blank}
use Rattle.mirror_core.specs.Words.{is_on, words_noted}
use Rattle.mirror_core.specs.Stands.{NotOpened, Restarts as Opened}
use Rattle.node.specs.Kinds as nodes
use Rattle.mirror_core.specs.NodeKind.{mirror_kind}
use Rattle.node.specs.declared.power.Power.TheVariants.{Off}
use Rattle.net_world.specs.MirrorNodes.{MirrorNode, mirror_nodes, Stands, Restarts}
use Rattle.net_world.proofs.NodeLemmas.{Laws, stays}

pub laws : (o : MirrorNote) → Laws (mirror_nodes o) Cut
laws o = record {
  fails_never = λ core. refl;
  stays_up = λ past f left up kept. stays (is_on past) (is_lost left) up kept;
  off = λ past. refl;
  says = λ past notes s. s;
}

-- No bytes at all are a blank note.
pub says_blank : (bytes : List ℕ) → bytes ≡ [] → Says bytes blank
says_blank bytes none = record {
  note = record { generation = omega arith; count = omega arith; states = tt; keys = refl };
  spelled = inr (none, refl);
}

-- ---- a start

says_same : (old new : Note) (n : MirrorNote) → new ≡ old → Says old.bytes n → Says new.bytes n
says_same old new n h s = subst (λ (x : Note). Says x.bytes n) (sym h) s

unstarted : (o : MirrorNote) (past : List Entry) (notes back : Kept) (fault : Fault) → is_on past ≡ false → Says (note_of notes).bytes (words_noted o past)
    → NotOpened (note_of notes) (note_of back) fault → Restarts o past (Off back) (Err fault)
unstarted o past notes back LoadFault off says h = absurd (omega (arith, h.0))
unstarted o past notes back BadNote off says h = absurd (h.1 (words_noted o past) says)
unstarted o past notes back NoMemory off says h = (off, (says_same (note_of notes) (note_of back) (words_noted o past) h says, off))
unstarted o past notes back _ off says h = absurd h

pub restarted : (o : MirrorNote) (past : List Entry) (old new : MirrorNode) (done : Result (Unit {0}) Fault) → Stands o past old
    → nodes.Restarts (mirror_kind note_of o) (λ notes result. Opened note_of (note_of notes) result) past old new done → Restarts o past new done
restarted o past old new done s (inl w) = rw (w.told, w.same) (w.on, s)
restarted o past old new done s (inr h) = rw (h.new_is, h.told) (by_made h.made h.opens)
  where
    by_made : (made : Result (Mirror Kept) (Kept × Fault)) → Opened note_of (note_of h.notes) made
        → Restarts o past (nodes.left_by made) (nodes.told_of made)
    by_made (Ok mirror) opens = (h.off, (opens.stands o past h.left.says, refl))
    by_made (Err back) opens = unstarted o past h.notes back.0 back.1 h.off h.left.says opens

-- A server's node loses its power, and is started again.
use Rattle.std.proofs.Common.{◌≡◌, refl, sym, subst, inl, inr, ℕ, ◌+◌, ◌^◌, arith, List, Result, Ok, Err}
use Rattle.std.proofs.lemmas.Bool.{lt-ltb, le-ltb}
use Rattle.fc_base.specs.declared.fault.Fault.{Fault}
use Rattle.fc_base.specs.declared.fault.Fault.TheVariants.{NoMemory, LoadFault, SaveFault, BadNote, NumbersSpent}
use Rattle.disk_model.specs.MemNotes.{Saved as Kept, note_of}
use Rattle.disk_model.specs.Notes.{Note}
use Rattle.server_core.specs.declared.note.ServerNote.{ServerNote}
use Rattle.server_core.specs.declared.server.Server.{Server}
use Rattle.server_core.specs.History.{Opening}
use Rattle.server_core.specs.Note.{Says}
use Rattle.server_core.specs.Words.{boot, words_noted}
use Rattle.server_core.specs.Ends.{NotOpened}
use Rattle.server_core.specs.Hearing.{FrameEntry, packets_heard}
use Rattle.server_core.specs.FrameEnds.{Opens, Restarts as Opened}
use Rattle.node.specs.declared.power.Power.TheVariants.{On, Off}
use Rattle.node.specs.Kinds as nodes
use Rattle.server_core.specs.NodeKind.{server_kind}
use Rattle.net_world.specs.ServerNodes.{ServerNode, Stands, Restarts}

says_same : (old new : Note) (n : ServerNote) → new ≡ old → Says old.bytes n → Says new.bytes n
says_same old new n h s = subst (λ (x : Note). Says x.bytes n) (sym h) s

pub restart_ok : (o : Opening) (past : List FrameEntry) (notes : Kept) (server : Server Kept) (me : ℕ) → o.me ≡ me → Stands o past (Off notes)
    → Opened note_of me notes server → Restarts o past (On server) (Ok tt)
restart_ok o past notes server me is s h =
    let stands = h.stands o past is s.0 in
    (s.1, lt-ltb (boot o (packets_heard o past) + 1) (2 ^ 64) stands.core.durable.boot_range, (stands, refl))

pub restart_err : (o : Opening) (past : List FrameEntry) (notes back : Kept) (fault : Fault) → Stands o past (Off notes)
    → NotOpened (note_of notes) (note_of back) fault → Restarts o past (Off back) (Err fault)
restart_err o past notes back LoadFault s h = absurd (omega (arith, h.0))
restart_err o past notes back BadNote s h = absurd (h.1 (words_noted o (packets_heard o past)) s.0)
restart_err o past notes back NumbersSpent s h = (
  s.1,
  le-ltb (boot o (packets_heard o past) + 1) (2 ^ 64) (omega (arith, h.1 (words_noted o (packets_heard o past)) s.0)),
  (says_same (note_of notes) (note_of back) (words_noted o (packets_heard o past)) h.0 s.0, s.1),
  refl,
)
restart_err o past notes back NoMemory s h = (s.1, (says_same (note_of notes) (note_of back) (words_noted o (packets_heard o past)) h s.0, s.1))
restart_err o past notes back SaveFault s h = absurd (omega (arith, h.0))
restart_err o past notes back _ s h = absurd h

pub restarted : (o : Opening) (past : List FrameEntry) (me : ℕ) (old new : ServerNode) (done : Result (Unit {0}) Fault) → o.me ≡ me → Stands o past old
    → nodes.Restarts (server_kind note_of o) (Opens note_of me) past old new done → Restarts o past new done
restarted o past me old new done is s (inl w) = rw (w.told, w.same) (w.on, s)
restarted o past me old new done is s (inr h) = rw (h.new_is, h.told) (by_made h.made h.opens)
  where
    by_made : (made : Result (Server Kept) (Kept × Fault)) → Opens note_of me h.notes made → Restarts o past (nodes.left_by made) (nodes.told_of made)
    by_made (Ok server) opens = restart_ok o past h.notes server me is (h.left.says, h.off) opens
    by_made (Err back) opens = restart_err o past h.notes back.0 back.1 (h.left.says, h.off) opens

-- The client of a world loses its power, and is started again.
use Rattle.std.proofs.Common.{◌≡◌, refl, sym, subst, inl, inr, ℕ, Bool, true, false, ◌&&◌, List, ◌∷◌, Option, Some, None, Result, Ok, Err}
use Rattle.std.specs.Borrow.{Bor}
use Rattle.std.specs.Option.{option_copied}
use Rattle.fc_base.specs.declared.fault.Fault.{Fault}
use Rattle.disk_model.specs.MemNotes.{Saved as Kept, note_of}
use Rattle.disk_model.specs.Notes.{Note}
use Rattle.messages.specs.Ranges.{is_generation}
use Rattle.client_core.specs.declared.client.Client.{Client}
use Rattle.client_core.specs.History.{Opening}
use Rattle.client_core.specs.Hearing.{FrameEntry, Cut, packets_heard, is_up}
use Rattle.client_core.specs.FrameEnds.{Restarts as Opened, Renews as Renewed}
use Rattle.client_core.specs.Note.{Says, SaysOneThing, is_blank}
use Rattle.client_core.specs.Words.{words_noted}
use Rattle.node.specs.declared.power.Power.TheVariants.{On, Off, Lent}
use Rattle.node.specs.Kinds as nodes
use Rattle.client_core.specs.NodeKind.{client_kind}
use Rattle.net_world.specs.ClientNodes.{ClientNode, client_nodes, HasNone, IsEmptyIfBlank, Stands, Restarts, Renews}
use Rattle.net_world.proofs.NodeLemmas.{never, stays_off}
use Rattle.net_world.proofs.ClientNodeLemmas.{laws}
use Rattle.net_world.proofs.RenewalLemmas.{says_nothing, may_start, not_started, may_renew, not_renewed}

-- The client of a world is one that may have no power.
pub weak : (o : Opening) (past : List FrameEntry) (node : ClientNode) → Stands o past node → nodes.Stands (client_kind note_of o) past node
weak o past (On client) s = s.0
weak o past (Off notes) s = (s.0.0, s.1)
weak o past Lent s = s

pub shows : (o : Opening) (past : List FrameEntry) (node : ClientNode) (shown : Option (Bor (Client Kept)))
    → nodes.Shows (client_kind note_of o) past node (option_copied shown) → nodes.Shows (client_nodes o) past node (option_copied shown)
shows o past node None s = s
shows o past node (Some client) s = s

-- The notes that it leaves have no bytes where they say nothing, as they had.
pub kept : (o : Opening) (past : List FrameEntry) (old : ClientNode) (notes : Kept) → Stands o past old → is_up o past ≡ false
    → Says (note_of notes).bytes (words_noted o (packets_heard o past)) → note_of notes ≡ nodes.note_of (client_kind note_of o) old
    → Stands o past (Off notes)
kept o past (On client) notes s off says same = absurd (never (is_up o past) s.1 off)
kept o past (Off old) notes s off says same =
    ((says, subst (λ (m : Note). IsEmptyIfBlank m.bytes (words_noted o (packets_heard o past))) (sym same) s.0.1), off)
kept o past Lent notes s off says same = absurd s

up_written : (up blank : Bool) → up ≡ true → (up && blank) ≡ false → blank ≡ false
up_written true blank h k = k
up_written false blank h k = absurd cc

-- A cut of one whose note says something, or that is off.
pub cut_written : (o : Opening) (past : List FrameEntry) (old new : ClientNode) (done : Result (Unit {0}) Fault) → Stands o past old
    → (is_up o past && is_blank (words_noted o (packets_heard o past))) ≡ false → nodes.Cuts (client_kind note_of o) past old new done
    → Stands o (Cut ∷ past) new
cut_written o past old new (Ok t) s w c =
    subst (Stands o (Cut ∷ past)) (sym c.off)
    ((c.left.says, inr (up_written (is_up o past) (is_blank (words_noted o (packets_heard o past))) c.on w)), refl)
cut_written o past old new (Err fault) s w (is, off, same) =
    subst (Stands o (Cut ∷ past)) (sym same) (stays_off (client_nodes o) Cut (laws o) past old s off)

-- One that is on is off behind a cut.
pub cut_off : (o : Opening) (past : List FrameEntry) (old new : ClientNode) (done : Result (Unit {0}) Fault) → is_up o past ≡ true
    → nodes.Cuts (client_kind note_of o) past old new done → (notes : Kept) × (new ≡ Off notes)
cut_off o past old new (Ok t) up c = (c.notes, c.off)
cut_off o past old new (Err fault) up (is, off, same) = absurd (never (is_up o past) up off)

-- Where it has no note, that says nothing.
pub none_said : (o : Opening) (past : List FrameEntry) (node : ClientNode) → HasNone node → is_up o past ≡ false
    → is_blank (words_noted o (packets_heard o past)) ≡ true → Stands o past node
none_said o past (On client) h off blank = absurd h
none_said o past (Off notes) h off blank = ((says_nothing (note_of notes).bytes (words_noted o (packets_heard o past)) h blank, inl h), off)
none_said o past Lent h off blank = absurd h

-- One that is off is its notes.
pub is_off : (o : Opening) (past : List FrameEntry) (node : ClientNode) → Stands o past node → is_up o past ≡ false → (notes : Kept) × (node ≡ Off notes)
is_off o past (On client) s off = absurd (never (is_up o past) s.1 off)
is_off o past (Off notes) s off = (notes, refl)
is_off o past Lent s off = absurd s

pub restarted : SaysOneThing → (o : Opening) (past : List FrameEntry) (servers : ℕ) (mirror : Bool) (old new : ClientNode) (done : Result (Unit {0}) Fault)
    → o.servers ≡ servers → Stands o past old
    → nodes.Restarts (client_kind note_of o) (λ notes result. Opened note_of servers mirror (note_of notes) result) past old new done
    → Restarts o past mirror new done
restarted one o past servers mirror old new done is s (inl w) = rw (w.told, w.same) (w.on, s)
restarted one o past servers mirror old new done is s (inr h) = rw (h.new_is, h.told) (by_made h.made h.opens)
  where
    left : Stands o past (Off h.notes)
    left = kept o past old h.notes s h.off h.left.says h.left.same

    by_made : (made : Result (Client Kept) (Kept × Fault)) → Opened note_of servers mirror (note_of h.notes) made
        → Restarts o past mirror (nodes.left_by made) (nodes.told_of made)
    by_made (Ok client) opens = (
      h.off,
      may_start mirror (note_of h.notes).bytes (words_noted o (packets_heard o past)) opens.some left.0.1,
      (opens.stands o past is h.left.says, refl),
    )
    by_made (Err back) opens = not_started one o past mirror h.notes back.0 back.1 left opens

pub renewed : SaysOneThing → (o : Opening) (past : List FrameEntry) (servers g : ℕ) (notes : Kept) (new : ClientNode) (done : Result (Unit {0}) Fault)
    (made : Result (Client Kept) (Kept × Fault)) → o.servers ≡ servers → is_generation g ≡ true → is_up o past ≡ false → Stands o past (Off notes)
    → Renewed note_of servers g (note_of notes) made → new ≡ nodes.left_by made → done ≡ nodes.told_of made → Renews o past g new done
renewed one o past servers g notes new done (Ok client) is fits off s opens new_is told =
    rw (new_is, told) (off, may_renew one (note_of notes).bytes (words_noted o (packets_heard o past)) opens.empty s.0.0, (opens.stands o past is s.0.0, refl))
renewed one o past servers g notes new done (Err back) is fits off s opens new_is told =
    rw (new_is, told) (not_renewed o past g notes back.0 back.1 fits s opens)

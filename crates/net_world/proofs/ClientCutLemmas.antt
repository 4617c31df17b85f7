-- A client's node loses its power within a save.
use Rattle.std.proofs.Common.{◌≡◌, refl, sym, ◌∙◌, ap, subst, inl, inr, ℕ, ◌+◌, arith, Bool, true, false, ◌&&◌, List, [], ◌∷◌, ◌++◌, length, Option, Some, None, Ok, Err}
use Rattle.std.specs.Prelude.{◌⊎◌, ◌==◌, is_some}
use Rattle.std.proofs.lemmas.Bool.Decides.{nat_tests}
use Rattle.std.proofs.lemmas.List.{length-append}
use Rattle.fc_base.specs.declared.fault.Fault.{Fault}
use Rattle.fc_base.specs.declared.fault.Fault.TheVariants.{NodeOff, NoMemory}
use Rattle.fc_base.specs.declared.fault.Fault.TheVariants as faults
use Rattle.disk_model.specs.MemNotes.{Saved as Kept, note_of}
use Rattle.disk_model.specs.declared.save_outcome.SaveOutcome.{SaveOutcome}
use Rattle.disk_model.specs.declared.save_outcome.SaveOutcome.TheVariants.{LostNew, LostOld}
use Rattle.messages.specs.Hearing.{with_entry}
use Rattle.messages.specs.Senses.{Sense, Hears, Keeps, Drops, Misses, heard_or}
use Rattle.messages.proofs.SenseLemmas.{entry_by, entries_are}
use Rattle.node.specs.Kinds as powers
use Rattle.node.specs.declared.power.Power.TheVariants.{On, Off, Lent}
use Rattle.client_core.specs.Inputs.{PacketInput, FrameInput}
use Rattle.client_core.specs.declared.note.ClientNote.{ClientNote}
use Rattle.client_core.specs.History as client
use Rattle.client_core.specs.History.{Opening}
use Rattle.client_core.specs.Note.{is_blank}
use Rattle.client_core.specs.Words as words
use Rattle.client_core.specs.Words.{words_noted}
use Rattle.client_core.specs.Saves.{Addition, NextRun, NextAttempt, Keep, with_addition, noted_after}
use Rattle.client_core.specs.Hearing.{FrameEntry, Met, rules, heard_at, packets_heard, arrival, is_up}
use Rattle.client_core.specs.FrameAnswers.{sense, due}
use Rattle.client_core.specs.NodeKind.{client_kind}
use Rattle.net_world.specs.Nodes.{CutsIn}
use Rattle.net_world.specs.ClientNodes.{ClientNode, client_nodes, HasNone, Stands}
use Rattle.net_world.proofs.NodeLemmas.{never}
use Rattle.net_world.proofs.ClientPowerLemmas.{none_said}

-- ---- what the note says behind a lost save

said : Opening → List FrameEntry → ClientNote
said o past = words_noted o (packets_heard o past)

-- What is heard behind an input, by what the input is.
heard_behind : (o : Opening) (past : List FrameEntry) (e : FrameInput) (left : SaveOutcome)
    → packets_heard o (Met e left ∷ past) ≡ with_entry (entry_by (rules o) left (sense o past e)) (packets_heard o past)
heard_behind o past e left = entries_are (rules o) (heard_at o past) (arrival e) left (sense o past e) refl

none_new : (x : Option Addition) (n : ClientNote) → noted_after false x n ≡ n
none_new None n = refl
none_new (Some a) n = refl

sense_old : (o : Opening) (list : List client.Entry) (s : Sense PacketInput) → words_noted o (with_entry (entry_by (rules o) LostOld s) list) ≡ words_noted o list
sense_old o list (Hears c) = none_new (words.due o list c) (words_noted o list)
sense_old o list Keeps = refl
sense_old o list Drops = refl
sense_old o list Misses = refl

same_old : (o : Opening) (past : List FrameEntry) (e : FrameInput) → said o (Met e LostOld ∷ past) ≡ said o past
unfolding said
same_old o past e = ap (words_noted o) (heard_behind o past e LostOld) ∙ sense_old o (packets_heard o past) (sense o past e)

-- ---- what is added is something

not_zero : (n : ℕ) → (n + 1 == 0) ≡ false
not_zero n = grind (arith, nat_tests)

and_false : (a : Bool) → (a && false) ≡ false
and_false true = refl
and_false false = refl

not_blank : (g r a k : Bool) → (r ≡ false) → (g && (r && (a && k))) ≡ false
not_blank g r a k h = ap (λ b. g && (b && (a && k))) h ∙ and_false g

not_blank_attempts : (g r a k : Bool) → (a ≡ false) → (g && (r && (a && k))) ≡ false
not_blank_attempts g r a k h = ap (λ b. g && (r && (b && k))) h ∙ ap (λ b. g && b) (and_false r) ∙ and_false g

not_blank_kept : (g r a k : Bool) → (k ≡ false) → (g && (r && (a && k))) ≡ false
not_blank_kept g r a k h = ap (λ b. g && (r && (a && b))) h ∙ ap (λ b. g && (r && b)) (and_false a) ∙ ap (λ b. g && b) (and_false r) ∙ and_false g

added : (a : Addition) (n : ClientNote) → is_blank (with_addition a n) ≡ false
added NextRun n = not_blank (n.generation == 0) (n.runs + 1 == 0) (n.attempts == 0) (length n.kept == 0) (not_zero n.runs)
added NextAttempt n = not_blank_attempts (n.generation == 0) (n.runs == 0) (n.attempts + 1 == 0) (length n.kept == 0) (not_zero n.attempts)
added (Keep state) n =
    not_blank_kept (n.generation == 0) (n.runs == 0) (n.attempts == 0) (length (n.kept ++ state ∷ []) == 0)
    (ap (λ (l : ℕ). l == 0) (length-append n.kept (state ∷ [])) ∙ not_zero (length n.kept))

noted_new : (x : Option Addition) (n : ClientNote) → is_some x ≡ true → is_blank (noted_after true x n) ≡ false
noted_new None n h = cc
noted_new (Some a) n h = added a n

sense_new : (o : Opening) (list : List client.Entry) (s : Sense PacketInput) → is_some (heard_or None (words.due o list) s) ≡ true
    → is_blank (words_noted o (with_entry (entry_by (rules o) LostNew s) list)) ≡ false
sense_new o list (Hears c) h = noted_new (words.due o list c) (words_noted o list) h
sense_new o list Keeps h = absurd cc
sense_new o list Drops h = absurd cc
sense_new o list Misses h = absurd cc

written : (o : Opening) (past : List FrameEntry) (e : FrameInput) → is_some (due o past e) ≡ true → is_blank (said o (Met e LostNew ∷ past)) ≡ false
unfolding said
written o past e h = ap (λ l. is_blank (words_noted o l)) (heard_behind o past e LostNew) ∙ sense_new o (packets_heard o past) (sense o past e) h

-- ---- a cut

-- Its first save didn't land: it has no note.
pub cut_blank : (o : Opening) (past : List FrameEntry) (e : FrameInput) (mid new : ClientNode) → is_blank (words_noted o (packets_heard o past)) ≡ true
    → powers.IsCutWithin (client_kind note_of o) past false e mid → ((notes : Kept) → mid ≡ Off notes → HasNone new) → CutsIn (client_nodes o) past false e new (Ok tt)
unfolding said
cut_blank o past e mid new blank c forgot =
    (c.on, c.due, none_said o (Met e LostOld ∷ past) new (forgot c.notes c.off) c.down (ap is_blank (same_old o past e) ∙ blank))

-- Its note says something, as it did before;
cut_written : (o : Opening) (past : List FrameEntry) (e : FrameInput) (new : ClientNode) → is_blank (words_noted o (packets_heard o past)) ≡ false
    → powers.IsCutWithin (client_kind note_of o) past false e new → CutsIn (client_nodes o) past false e new (Ok tt)
unfolding said
cut_written o past e new says c =
    (c.on, c.due, subst (Stands o (Met e LostOld ∷ past)) (sym c.off) ((c.says, inr (ap is_blank (same_old o past e) ∙ says)), c.down))

-- or by what was saved.
cut_saved : (o : Opening) (past : List FrameEntry) (e : FrameInput) (new : ClientNode) → powers.IsCutWithin (client_kind note_of o) past true e new
    → CutsIn (client_nodes o) past true e new (Ok tt)
unfolding said
cut_saved o past e new c = (c.on, c.due, subst (Stands o (Met e LostNew ∷ past)) (sym c.off) ((c.says, inr (written o past e c.due)), c.down))

written_still : (up blank : Bool) → up ≡ true → (up && blank) ≡ false → blank ≡ false
written_still true blank h k = k
written_still false blank h k = absurd cc

-- It has a note where that said something, or was saved.
pub cut_noted : (o : Opening) (past : List FrameEntry) (e : FrameInput) (landed said_nothing : Bool) (new : ClientNode)
    → said_nothing ≡ (is_up o past && is_blank (words_noted o (packets_heard o past)))
    → ((said_nothing ≡ true) × (landed ≡ true)) ⊎ (said_nothing ≡ false) → powers.IsCutWithin (client_kind note_of o) past landed e new
    → CutsIn (client_nodes o) past landed e new (Ok tt)
cut_noted o past e true said_nothing new is either c = cut_saved o past e new c
cut_noted o past e false said_nothing new is (inl h) c = absurd (never false h.1 refl)
cut_noted o past e false said_nothing new is (inr h) c =
    cut_written o past e new (written_still (is_up o past) (is_blank (words_noted o (packets_heard o past))) c.on (sym is ∙ h)) c

still_on : (o : Opening) (past : List FrameEntry) (node : ClientNode) → powers.Stands (client_kind note_of o) past node → is_up o past ≡ true → Stands o past node
still_on o past (On core) s up = (s, up)
still_on o past (Off notes) s up = absurd (never (is_up o past) up s.1)
still_on o past Lent s up = s

none_failed : (o : Opening) (node : ClientNode) → (powers.note_of (client_kind note_of o) node).failures ≡ 0
none_failed o (On core) = refl
none_failed o (Off notes) = refl
none_failed o Lent = refl

-- It wasn't cut.
pub uncut : (o : Opening) (past : List FrameEntry) (landed : Bool) (e : FrameInput) (fault : Fault) (old new : ClientNode) → Stands o past old
    → powers.CutsIn (client_kind note_of o) past landed e old new (Err fault) → CutsIn (client_nodes o) past landed e new (Err fault)
uncut o past landed e NodeOff old new s c = (c.0, subst (Stands o past) (sym c.1) s)
uncut o past landed e faults.NoSave old new s c = (c.0, c.1, subst (Stands o past) (sym c.2) s)
uncut o past landed e NoMemory old new s c = (c.0, still_on o past new c.2 c.0)
uncut o past landed e _ old new s c = absurd (omega (arith, c.2.cause, none_failed o new))

-- A client's node that has no note, and is begun anew.
use Rattle.std.proofs.Common.{◌≡◌, refl, sym, ap, subst, inl, inr, ℕ, arith, Bool, true, false, ◌&&◌, ◌==◌, List, [], ◌∷◌, length, Err}
use Rattle.std.specs.Prelude.{◌≢◌}
use Rattle.std.proofs.lemmas.Bool.{and_parts, eqb-true}
use denote.Enum.Bare.{sameb}
use Rattle.fc_base.specs.contracts.fault.Fault.{the_type as fault_type}
use Rattle.fc_base.specs.declared.fault.Fault.{Fault}
use Rattle.fc_base.specs.declared.fault.Fault.TheVariants.{NoMemory, LoadFault, SaveFault, BadNote, BadGeneration, NodeOn, NoSave as SavesNothing}
use Rattle.verify_state.specs.State.{State}
use Rattle.disk_model.specs.MemNotes.{Saved as Kept, note_of}
use Rattle.disk_model.specs.Notes.{Note}
use Rattle.disk_model.specs.declared.save_outcome.SaveOutcome.TheVariants.{Saved, LostNew}
use Rattle.messages.specs.Ranges.{is_generation}
use Rattle.client_core.specs.declared.note.ClientNote.{ClientNote}
use Rattle.client_core.specs.History.{Opening}
use Rattle.client_core.specs.Hearing.{FrameEntry, Renew, Cut, packets_heard}
use Rattle.client_core.specs.Note.{Says, SaysOneThing, blank, is_blank}
use Rattle.client_core.specs.Words.{words_noted}
use Rattle.client_core.specs.Stands.{IsBadNote, NotOpened, NotRenewed}
use Rattle.node.specs.declared.power.Power.TheVariants.{Off}
use Rattle.net_world.specs.ClientNodes.{ClientNode, client_nodes, Stands, IsEmptyIfBlank, Restarts, Renews, CutsInRenewal}
use Rattle.net_world.proofs.NodeLemmas.{never, relabel}
use Rattle.net_world.proofs.ClientNodeLemmas.{says_blank}

-- ---- notes that say nothing

no_states : (states : List State) → length states ≡ 0 → states ≡ []
no_states [] h = refl
no_states (s ∷ states) h = absurd (omega (arith, h))

blank_is : (n : ClientNote) → is_blank n ≡ true → n ≡ blank
blank_is n h =
    let a = and_parts (n.generation == 0) _ h in
    let b = and_parts (n.runs == 0) _ a.1 in
    let c = and_parts (n.attempts == 0) (length n.kept == 0) b.1 in
    made (eqb-true n.generation 0 a.0) (eqb-true n.runs 0 b.0) (eqb-true n.attempts 0 c.0) (no_states n.kept (eqb-true (length n.kept) 0 c.1))
  where
    made : n.generation ≡ 0 → n.runs ≡ 0 → n.attempts ≡ 0 → n.kept ≡ [] → n ≡ blank
    made g r a k = λ i. record { generation = g i; runs = r i; attempts = a i; kept = k i }

-- No bytes say a note that says nothing.
pub says_nothing : (bytes : List ℕ) (n : ClientNote) → bytes ≡ [] → is_blank n ≡ true → Says bytes n
says_nothing bytes n none h = subst (Says bytes) (sym (blank_is n h)) (says_blank bytes none)

-- And what no bytes say is that.
said_is : SaysOneThing → (bytes : List ℕ) (n : ClientNote) → bytes ≡ [] → Says bytes n → is_blank n ≡ true
said_is one bytes n none s = ap is_blank (one bytes n blank s (says_blank bytes none))

-- Other notes with the same bytes stand for the same.
restand : (o : Opening) (past : List FrameEntry) (old new : Kept) → note_of new ≡ note_of old → Stands o past (Off old) → Stands o past (Off new)
restand o past old new e h = (
  (
    subst (λ (m : Note). Says m.bytes (words_noted o (packets_heard o past))) (sym e) h.0.0,
    subst (λ (m : Note). IsEmptyIfBlank m.bytes (words_noted o (packets_heard o past))) (sym e) h.0.1,
  ),
  h.1,
)

-- ---- a restart

pub may_start : (mirror : Bool) (bytes : List ℕ) (n : ClientNote) → (mirror ≡ true → bytes ≢ []) → IsEmptyIfBlank bytes n → (mirror && is_blank n) ≡ false
may_start false bytes n f e = refl
may_start true bytes n f (inl none) = absurd (f refl none)
may_start true bytes n f (inr written) = written

bad_note : SaysOneThing → (mirror : Bool) (bytes : List ℕ) (n : ClientNote) → Says bytes n → IsBadNote mirror bytes → (mirror && is_blank n) ≡ true
bad_note one mirror bytes n s (inl none) = absurd (none n s)
bad_note one mirror bytes n s (inr empty) = rw (empty.0, said_is one bytes n empty.1 s) refl

pub not_started : SaysOneThing → (o : Opening) (past : List FrameEntry) (mirror : Bool) (old new : Kept) (fault : Fault) → Stands o past (Off old)
    → NotOpened mirror (note_of old) (note_of new) fault → Restarts o past mirror (Off new) (Err fault)
not_started one o past mirror old new LoadFault h k = absurd (omega (arith, k.0))
not_started one o past mirror old new BadNote h k =
    (h.1, bad_note one mirror (note_of old).bytes (words_noted o (packets_heard o past)) h.0.0 k.1, restand o past old new k.0 h, refl)
not_started one o past mirror old new NoMemory h k = (h.1, restand o past old new k h)
not_started one o past mirror old new _ h k = absurd k

-- ---- a renewal

pub may_renew : SaysOneThing → (bytes : List ℕ) (n : ClientNote) → bytes ≡ [] → Says bytes n → is_blank n ≡ true
may_renew one bytes n none s = said_is one bytes n none s

written_note : (bytes : List ℕ) (n : ClientNote) → bytes ≢ [] → IsEmptyIfBlank bytes n → is_blank n ≡ false
written_note bytes n some (inl none) = absurd (some none)
written_note bytes n some (inr written) = written

pub not_renewed : (o : Opening) (past : List FrameEntry) (g : ℕ) (old new : Kept) (fault : Fault) → is_generation g ≡ true → Stands o past (Off old)
    → NotRenewed g (note_of old) (note_of new) fault → Renews o past g (Off new) (Err fault)
not_renewed o past g old new BadGeneration fits h k = absurd (never (is_generation g) fits k.1)
not_renewed o past g old new LoadFault fits h k = absurd (omega (arith, k.0))
not_renewed o past g old new SaveFault fits h k = absurd (omega (arith, k.0))
not_renewed o past g old new BadNote fits h k =
    (h.1, written_note (note_of old).bytes (words_noted o (packets_heard o past)) k.2 h.0.1, restand o past old new k.0 h, refl)
not_renewed o past g old new NoMemory fits h k = (h.1, restand o past old new k h)
not_renewed o past g old new _ fits h k = absurd k

-- ---- a cut within one

-- Behind the save.
pub cut_new : (o : Opening) (past : List FrameEntry) (g : ℕ) (new : ClientNode) → Stands o (Cut ∷ Renew g Saved ∷ past) new
    → Stands o (Renew g LostNew ∷ past) new
cut_new o past g new s = relabel (client_nodes o) (Cut ∷ Renew g Saved ∷ past) (Renew g LostNew ∷ past) refl refl (λ notes says. says) new s

-- A renewal that is refused saves nothing: there is a note, or it is refused as it is.
module _ (o : Opening) (past : List FrameEntry) (g : ℕ) (landed : Bool) (new : ClientNode) where
  pub found : (fault : Fault) → true ≡ sameb fault_type fault BadNote → Renews o past g new (Err fault) → CutsInRenewal o past landed g new (Err SavesNothing)
  found BadNote e h = (h.0, h.1, h.2, refl)
  found _ e h = absurd cc

  pub fails : (fault : Fault) → false ≡ sameb fault_type fault BadNote → Renews o past g new (Err fault) → CutsInRenewal o past landed g new (Err fault)
  fails BadNote e h = absurd cc
  fails NodeOn e h = h
  fails NoMemory e h = h
  fails _ e h = let wrong = h.3 in absurd cc

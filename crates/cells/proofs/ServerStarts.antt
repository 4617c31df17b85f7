-- How a server that isn't on is started.
use Rattle.std.proofs.Common.{◌≡◌, refl, sym, ap, subst, inl, inr, ℕ, ◌+◌, ◌-◌, ◌^◌, ◌<◌, arith, Bool, true, false, List, ◌∷◌, Some, None, Result, Ok, Err}
use Rattle.std.specs.Prelude.{◌⊎◌, if◌then◌else◌, not}
use Rattle.std.proofs.lemmas.Bool.{lt-ltb, le-ltb}
use Rattle.fc_base.specs.declared.fault.Fault.{Fault}
use Rattle.fc_base.specs.declared.fault.Fault.TheVariants.{NoMemory, LoadFault, SaveFault, BadNote, NumbersSpent, NodeOn}
use Rattle.disk_model.specs.declared.save_outcome.SaveOutcome.TheVariants as lefts
use Rattle.disk_model.specs.Notes.{Note}
use Rattle.server_core.specs.declared.note.ServerNote.{ServerNote}
use Rattle.server_core.specs.declared.server.Server.{Server}
use Rattle.server_core.specs.History.{Opening}
use Rattle.server_core.specs.Note.{Says, SaysOneThing, spelling}
use Rattle.server_core.specs.Words.{boot, has_boot, words_noted}
use Rattle.server_core.specs.Ends.{NotOpened}
use Rattle.server_core.specs.Hearing.{FrameEntry, Restart, packets_heard, is_up}
use Rattle.server_core.specs.FrameEnds as ends
use Rattle.server_core.specs.FrameEnds.{note_in}
use Rattle.cells.specs.declared.answer.Reply.{Reply}
use Rattle.node.specs.declared.power.Power.TheVariants.{Off}
use Rattle.cells.specs.Failures.{Counts}
use Rattle.cells.specs.Moves.{TaskEnds}
use Rattle.node.specs.Kinds.{left_by, note_by}
use Rattle.node.specs.Kinds as nodes
use Rattle.cells.specs.Powers.{told_of}
use Rattle.cells.specs.Rules.{Restarts}
use Rattle.server_core.specs.NodeKind.{server_kind}
use Rattle.cells.specs.ServerRules.{core, ask_of_frame}
use Rattle.cells.proofs.MoveLemmas.{refused, lost}
use Rattle.messages.specs.NetworkLaws.{FramesAreSpelled}
use Rattle.server_core.specs.Laws.{PacketsAreInRange}
use Rattle.server_core.specs.declared.input.Input.TheVariants.{Deliver}
use Rattle.cells.specs.CoreLaws.{Laws}
use Rattle.cells.proofs.ServerHearLemmas.{spelled}

-- ---- whether it may be

may_restart : (on boots : Bool) → on ≡ false → boots ≡ true → (if on then Some NodeOn else (if boots then None else Some NumbersSpent)) ≡ None
may_restart false true h k = refl
may_restart false false h k = cc
may_restart true boots h k = cc

is_spent : (on boots : Bool) → on ≡ false → boots ≡ false → (if on then Some NodeOn else (if boots then None else Some NumbersSpent)) ≡ Some NumbersSpent
is_spent false false h k = refl
is_spent false true h k = cc
is_spent true boots h k = cc

not_off : (b : Bool) → b ≡ false → not b ≡ true
not_off false h = refl
not_off true h = cc

-- A boot was left where what the note said left one.
left_one : SaysOneThing → (old : List ℕ) (o : Opening) (past : List FrameEntry) (n : ServerNote) → Says old n → n.boot < 2 ^ 64 - 1
    → Says old (words_noted o (packets_heard o past)) → has_boot o (packets_heard o past) ≡ true
left_one one old o past n read left says =
    let same = one old n (words_noted o (packets_heard o past)) read says in
    let below = subst (λ (m : ServerNote). m.boot < 2 ^ 64 - 1) same left in
    lt-ltb (boot o (packets_heard o past) + 1) (2 ^ 64) (omega (arith, below))

next_says : SaysOneThing → (old new : List ℕ) (o : Opening) (past : List FrameEntry) (n : ServerNote) → Says old n → n.boot < 2 ^ 64 - 1
    → Says old (words_noted o (packets_heard o past)) → new ≡ spelling (record { boot = n.boot + 1; last_run = n.last_run })
    → Says new (words_noted o (packets_heard o (Restart lefts.LostNew ∷ past)))
next_says one old new o past n read left says is =
    subst (λ (m : ServerNote). Says new (record { boot = m.boot + 1; last_run = m.last_run })) (one old n (words_noted o (packets_heard o past)) read says)
    (record { boot_range = omega (arith, left); last_range = read.last_range; spelled = inl is })

-- ---- how it ends

unstarted : {T : Type 0} (note : T → Note) (o : Opening) (past : List FrameEntry) (notes back : T) (fault : Fault) → SaysOneThing → is_up o past ≡ false
    → Says (note notes).bytes (words_noted o (packets_heard o past)) → NotOpened (note notes) (note back) fault
    → TaskEnds (server_kind note o) (core o) past Restarts (Off back) (Err fault)
unstarted note o past notes back LoadFault one off says h = record {
  after = past;
  ends = record { why = inr (refl, not_off (is_up o past) off); sends_none = refl; after_is = refl };
  stands = (subst (λ bytes. Says bytes (words_noted o (packets_heard o past))) (sym h.1) says, off);
  ranges = λ h. h;
}
unstarted note o past notes back BadNote one off says h = absurd (h.1 (words_noted o (packets_heard o past)) says)
unstarted note o past notes back NumbersSpent one off says h =
    refused (server_kind note o) (core o) past Restarts NumbersSpent (Off back) refl
    (is_spent (is_up o past) (has_boot o (packets_heard o past)) off (le-ltb (boot o (packets_heard o past) + 1) (2 ^ 64)
    (omega (arith, h.1 (words_noted o (packets_heard o past)) says)))) refl
    (subst (λ (n : Note). Says n.bytes (words_noted o (packets_heard o past))) (sym h.0) says, off)
unstarted note o past notes back NoMemory one off says h = (refl, (subst (λ (n : Note). Says n.bytes (words_noted o (packets_heard o past))) (sym h) says, off))
unstarted note o past notes back SaveFault one off says h = half h.1
  where
    half : (n : ServerNote) × Says (note notes).bytes n × (n.boot < 2 ^ 64 - 1)
        × (((note back).bytes ≡ (note notes).bytes) ⊎ ((note back).bytes ≡ spelling (record { boot = n.boot + 1; last_run = n.last_run })))
        → TaskEnds (server_kind note o) (core o) past Restarts (Off back) (Err SaveFault)
    half (n, read, left, inl is) =
        lost (server_kind note o) (core o) past Restarts SaveFault false (Restart lefts.LostOld) (Off back) refl
        (may_restart (is_up o past) (has_boot o (packets_heard o past)) off (left_one one (note notes).bytes o past n read left says)) refl
        (subst (λ bytes. Says bytes (words_noted o (packets_heard o past))) (sym is) says, refl) (λ h. h)
    half (n, read, left, inr is) =
        lost (server_kind note o) (core o) past Restarts SaveFault true (Restart lefts.LostNew) (Off back) refl
        (may_restart (is_up o past) (has_boot o (packets_heard o past)) off (left_one one (note notes).bytes o past n read left says)) refl
        (next_says one (note notes).bytes (note back).bytes o past n read left says is, refl) (λ h. h)
unstarted note o past notes back _ one off says h = absurd h

pub starts : {T : Type 0} (note : T → Note) (o : Opening) (past : List FrameEntry) (me : ℕ) (notes : T) (result : Result (Server T) (T × Fault)) → SaysOneThing
    → o.me ≡ me → is_up o past ≡ false → Says (note notes).bytes (words_noted o (packets_heard o past)) → ends.Opens note me notes result
    → TaskEnds (server_kind note o) (core o) past Restarts (left_by result) (told_of (nodes.told_of result))
starts note o past me notes (Ok server) one is off says h =
    let stands = h.stands o past is says in
    record {
      after = Restart lefts.Saved ∷ past;
      ends = record {
        free = may_restart (is_up o past) (has_boot o (packets_heard o past)) off (lt-ltb (boot o (packets_heard o past) + 1) (2 ^ 64) stands.core.durable.boot_range);
        said_is = refl;
        entry = Restart lefts.Saved;
        entry_is = refl;
        sent_are = refl;
        after_is = refl;
      };
      stands = stands;
      ranges = λ h. h;
    }
starts note o past me notes (Err back) one is off says h = unstarted note o past notes back.0 back.1 one off says h

-- A restart that fails counts why.
unstarted_counts : (old new : Note) (fault : Fault) → NotOpened old new fault → Counts {X = Reply} true old.failures new.failures (Err fault)
unstarted_counts old new LoadFault h = h.0
unstarted_counts old new BadNote h = ap (λ (n : Note). n.failures) h.0
unstarted_counts old new NumbersSpent h = ap (λ (n : Note). n.failures) h.0
unstarted_counts old new NoMemory h = ap (λ (n : Note). n.failures) h
unstarted_counts old new SaveFault h = h.0
unstarted_counts old new _ h = absurd h

pub start_counts : {T : Type 0} (note : T → Note) (me : ℕ) (notes : T) (result : Result (Server T) (T × Fault)) → ends.Opens note me notes result
    → Counts true (note notes).failures (note_by (λ (server : Server T). note_in note server) note (left_by result)).failures (told_of (nodes.told_of result))
start_counts note me notes (Ok server) h = tt
start_counts note me notes (Err back) h = unstarted_counts (note notes) (note back.0) back.1 h

-- ---- the laws of cells

-- Its rules keep the laws of cells.
pub laws : {T : Type 0} (note : T → Note) (o : Opening) → SaysOneThing → FramesAreSpelled → PacketsAreInRange
    → Laws (server_kind note o) (core o) (ends.Opens note o.me) Deliver
laws note o one law ranges = record {
  cuts = λ past. record { sends_none = refl; off = refl; ranges = λ h. h; says = λ notes h. h };
  starts = record {
    ends = λ past notes made off says h. starts note o past o.me notes made one refl off says h;
    counts = λ notes made h. start_counts note o.me notes made h;
  };
  asked = λ bytes f is. ap ask_of_frame is;
  spelled = spelled law ranges o;
}

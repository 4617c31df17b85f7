-- A server loses its power within a save.
use Rattle.std.proofs.Common.{◌≡◌, refl, sym, ◌∙◌, ap, subst, ℕ, ◌+◌, ◌-◌, ◌^◌, ◌<◌, ◌≤◌, arith, Bool}
use Rattle.std.proofs.Common.{true, false, List, ◌∷◌, Result, Ok, Err}
use Rattle.std.specs.Prelude.{if◌then◌else◌, nat_lt}
use Rattle.std.proofs.lemmas.Bool.Decides.{nat_tests}
use Rattle.fc_base.specs.declared.fault.Fault.{Fault}
use Rattle.fc_base.specs.declared.fault.Fault.TheVariants.{NoMemory, NodeOn, NoSave, NumbersSpent}
use Rattle.disk_model.specs.MemNotes.{Saved as Kept, note_of}
use Rattle.disk_model.specs.declared.save_outcome.SaveOutcome.TheVariants.{Saved, LostNew, LostOld}
use Rattle.server_core.specs.declared.note.ServerNote.{ServerNote}
use Rattle.server_core.specs.History.{Opening}
use Rattle.server_core.specs.Note.{Says as NoteSays, SaysOneThing}
use Rattle.server_core.specs.Words.{words_noted, has_boot}
use Rattle.server_core.specs.Answers.{now}
use Rattle.server_core.specs.Hearing.{FrameEntry, Cut, Restart, packets_heard, is_up}
use Rattle.net_world.specs.ServerNodes.{ServerNode}
use Rattle.node.specs.declared.power.Power.TheVariants.{Off}
use Rattle.net_world.specs.ServerNodes.{server_nodes, Stands, Restarts, CutsInRestart, no_save, boots}
use Rattle.net_world.proofs.NodeLemmas as of_nodes

-- A node that is off stands for each list that is off and says the same.
relabel : (o : Opening) (old new : List FrameEntry) (node : ServerNode) → Stands o old node → is_up o old ≡ false → is_up o new ≡ false
    → words_noted o (packets_heard o old) ≡ words_noted o (packets_heard o new) → Stands o new node
relabel o old new node s off down same =
    of_nodes.relabel (server_nodes o) old new off down (λ notes says. subst (λ x. NoteSays (note_of notes).bytes x) same says) node s

-- ---- a restart

pub restart_new : (o : Opening) (past : List FrameEntry) (node : ServerNode) → is_up o past ≡ false → has_boot o (packets_heard o past) ≡ true
    → Stands o (Cut ∷ (Restart Saved ∷ past)) node → CutsInRestart o past true node (Ok tt)
restart_new o past node off b s = (off, b, relabel o (Cut ∷ (Restart Saved ∷ past)) (Restart LostNew ∷ past) node s refl refl refl)

pub restart_old : (o : Opening) (past : List FrameEntry) (node : ServerNode) → is_up o past ≡ false → has_boot o (packets_heard o past) ≡ true → Stands o past node
    → CutsInRestart o past false node (Ok tt)
restart_old o past node off b s = (off, b, relabel o past (Restart LostOld ∷ past) node s off refl refl)

pub restart_fails : (o : Opening) (past : List FrameEntry) (landed : Bool) (node : ServerNode) (fault : Fault) → Restarts o past node (Err fault)
    → CutsInRestart o past landed node (Err (no_save fault))
restart_fails o past landed node NodeOn h = h
restart_fails o past landed node NumbersSpent h = (h.0, h.1, h.2, refl)
restart_fails o past landed node NoMemory h = h
restart_fails o past landed node _ h = let wrong = h.3 in absurd cc

-- ---- a note that says how many boots there were

boots_left : (b : ℕ) → b < 2 ^ 64 - 1 → nat_lt (b + 1) (2 ^ 64) ≡ true
boots_left b h = lt_true (b + 1) (2 ^ 64) (omega (arith, h))
  where
    lt_true : (a b : ℕ) → a < b → nat_lt a b ≡ true
    lt_true a b h = grind (arith, nat_tests)

boots_spent : (b : ℕ) → b < 2 ^ 64 → 2 ^ 64 - 1 ≤ b → nat_lt (b + 1) (2 ^ 64) ≡ false
boots_spent b l h = lt_false (b + 1) (2 ^ 64) (omega (arith, h))
  where
    lt_false : (a b : ℕ) → b ≤ a → nat_lt a b ≡ false
    lt_false a b h = grind (arith, nat_tests)

pub boots_yes : SaysOneThing → (bytes : List ℕ) (m n : ServerNote) → NoteSays bytes m → NoteSays bytes n → m.boot < 2 ^ 64 - 1 → Ok tt ≡ boots n
boots_yes law bytes m n s t h =
    ap (λ (x : Bool). if x then Ok tt else Err NoSave) (sym (boots_left m.boot h)) ∙ ap boots (law bytes m n s t)

pub boots_no : SaysOneThing → (bytes : List ℕ) (m n : ServerNote) → NoteSays bytes m → NoteSays bytes n → 2 ^ 64 - 1 ≤ m.boot → Err NoSave ≡ boots n
boots_no law bytes m n s t h =
    ap (λ (x : Bool). if x then Ok tt else Err NoSave) (sym (boots_spent m.boot s.boot_range h)) ∙ ap boots (law bytes m n s t)

tried_by : (o : Opening) (past : List FrameEntry) (notes : Kept) → Stands o past (Off notes) → (b : Bool) → has_boot o (packets_heard o past) ≡ b
    → CutsInRestart o past false (Off notes) (if b then Ok tt else Err NoSave)
tried_by o past notes s true h = restart_old o past (Off notes) s.1 h s
tried_by o past notes s false h = (s.1, h, s, refl)

pub tried : (o : Opening) (past : List FrameEntry) (notes now : Kept) (result : Result (Unit {0}) Fault) → Stands o past (Off notes) → now ≡ notes
    → result ≡ boots (words_noted o (packets_heard o past)) → CutsInRestart o past false (Off now) result
tried o past notes now result s e r =
    subst (λ x. CutsInRestart o past false (Off now) x) (sym r) (tried_by o past now (subst (λ k. Stands o past (Off k)) (sym e) s) (has_boot o (packets_heard o past)) refl)

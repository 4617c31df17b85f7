-- What a server's cell keeps.
use Rattle.std.proofs.Common.{◌≡◌, refl, sym, ◌∙◌, ap, subst, ℕ, zero, suc, ◌+◌, ◌-◌, ◌^◌, ◌<◌, ◌≤◌}
use Rattle.std.proofs.Common.{arith, Bool, true, false, List, [], ◌∷◌, ◌++◌, Option, Some, None}
use Rattle.std.specs.Prelude.{reverse, length, slice_index_or, slice_set, if◌then◌else◌, ◌==◌, ◌≢◌, Result, Err}
use Rattle.std.proofs.lemmas.List.{get_or-set_same, get_or-set_other, length-append, length-set, length-reverse}
use Rattle.std.proofs.lemmas.Bool.{eqb-true, eq-eqb, and_parts}
use Rattle.disk_model.specs.declared.save_outcome.SaveOutcome.TheVariants.{Saved}
use Rattle.disk_model.specs.Notes.{Note}
use Rattle.server_core.specs.declared.note.ServerNote.{ServerNote}
use Rattle.server_core.specs.declared.server.Server.{Server}
use Rattle.server_core.specs.declared.status.Status.{Status}
use Rattle.server_core.specs.History.{Opening}
use Rattle.server_core.specs.Answers.{shown_entries, status}
use Rattle.server_core.specs.Hearing.{FrameEntry, Restart, packets_heard}
use Rattle.server_core.specs.FrameEnds.{StandsFor, Restarts}
use Rattle.server_core.specs.NodeKind.{server_kind}
use Rattle.cells.specs.declared.entry.HistoryEntry.{HistoryEntry}
use Rattle.cells.specs.declared.input.NodeInput.{NodeInput}
use Rattle.cells.specs.declared.answer.Reply.{Reply}
use Rattle.cells.specs.declared.answer.Receipt.{Receipt}
use Rattle.cells.specs.declared.entry.Turn.{Turn}
use Rattle.cells.specs.Seated.{Seated}
use Rattle.cells.specs.ServerRules.{ask_of, core}
use Rattle.cells.specs.AtHub.{lacks_memory, told_by}
use Rattle.cells.specs.Failures.{Counts}
use Rattle.cells.specs.Moves.{Moves}
use Rattle.cells.specs.Seats.{times, with_turn}
use Rattle.fc_base.specs.declared.fault.Fault.{Fault}
use Rattle.fc_base.specs.declared.fault.Fault.TheVariants.{NoMemory}
use Rattle.cells.proofs.HubLemmas.{same_kept, entered as kept_more}
use Rattle.node.specs.declared.power.Power.{Power}
use Rattle.node.specs.declared.power.Power.TheVariants.{On}
use Rattle.cells.specs.declared.server_cell.task.ServerTask.{ServerTask}
use Rattle.cells.specs.ServerTasks.{came_by, loads_note}
use Rattle.node.specs.Kinds.{Stands}
use Rattle.cells.specs.ServerCalls.{is_right, logged_by, entry_of, Enters, Applies, AppliesBy}
use Rattle.cells.specs.ServerCells.{ServerLog, Replays, IsCell, AreCounted}

-- The opening with these numbers.
abbrev pub opening_with : ℕ → ℕ → ℕ → Opening
opening_with me boot last = record { me = me; boot = boot; last = last }

-- ---- a new cell

abbrev pub first : List FrameEntry
first = Restart Saved ∷ []

abbrev pub opening_by : ℕ → ServerNote → Opening
opening_by me n = record { me = me; boot = n.boot; last = n.last_run }

pub opened_once : {T : Type 0} (note : T → Note) (me : ℕ) (notes : T) (server : Server T) (h : Restarts note me notes server)
    → StandsFor note server (opening_by me h.said) first
opened_once note me notes server h = h.stands (opening_by me h.said) [] refl h.says

pub boot_is : (o : Opening) (shown : Status) → shown ≡ status o (shown_entries (packets_heard o first)) → shown.boot ≡ o.boot + 1
boot_is o shown h = ap (λ (s : Status). s.boot) h

pub last_is : (o : Opening) (shown : Status) → shown ≡ status o (shown_entries (packets_heard o first)) → shown.last_run ≡ o.last
last_is o shown h = ap (λ (s : Status). s.last_run) h

pub one_at_least : (a b : ℕ) → a ≡ b + 1 → 1 ≤ a
one_at_least a b h = omega (arith, h)

pub before : (a b : ℕ) → a ≡ b + 1 → b ≡ a - 1
before a b h = omega (arith, h)

-- So many zeros.
abbrev zeros : ℕ → List ℕ
zeros zero = []
zeros (suc n) = 0 ∷ zeros n

none_counted : (n seat : ℕ) → seat < n → slice_index_or (zeros n) seat 0 ≡ 0
none_counted zero seat h = absurd (omega (arith, h))
none_counted (suc n) zero h = refl
none_counted (suc n) (suc seat) h = none_counted n seat (omega (arith, h))

pub new_cell : {T : Type 0} (note : T → Note) (me : ℕ) (notes : T) (server : Server T) (h : Restarts note me notes server) (boot last : ℕ)
    (history : List HistoryEntry) → me < 8 → h.said.boot ≡ boot → h.said.last_run ≡ last → history ≡ []
    → IsCell note (record { me = me; boot = boot; last = last }) (On server) (reverse history) (zeros 17)
new_cell note me notes server h boot last history few b l none =
    rw (← b, ← l, none) (record {
      kept = record { past = first; made = refl; stands = opened_once note me notes server h; ranges = (record { me = few; last = h.says.last_range }, tt) };
      numbered = tt;
      counted = record { long = refl; each = none_counted 17 };
    })

-- ---- what is asked from a seat

times_few : (seat : ℕ) (history : List HistoryEntry) → times seat history ≤ length history
times_few seat [] = omega arith
times_few seat (l ∷ ls) = by_turn seat l.by (times seat ls) (length ls) (times_few seat ls)
  where
    by_turn : (seat : ℕ) (by : Option Turn) (n m : ℕ) → n ≤ m → with_turn seat by n ≤ suc m
    by_turn seat None n m h = omega (arith, h)
    by_turn seat (Some t) n m h = by_test (t.seat == seat) n m h
      where
        by_test : (b : Bool) (n m : ℕ) → n ≤ m → (if b then n + 1 else n) ≤ suc m
        by_test true n m h = omega (arith, h)
        by_test false n m h = omega (arith, h)

-- The count of a seat's events is a number of eight bytes, and so is the next.
pub count_fits : (applied : List ℕ) (items : List HistoryEntry) (seat : ℕ) → AreCounted applied (reverse items) → seat < 17 → length items + 1 < 2 ^ 64
    → slice_index_or applied seat 0 + 1 < 2 ^ 64
count_fits applied items seat counted few small =
    omega (arith, counted.each seat few, times_few seat (reverse items), length-reverse items, small)

-- For want of memory nothing changes.
pub lacks : (old new : ServerLog) (seat : Seated) (task : ServerTask) → is_right old seat ≡ true → new ≡ old → Applies old seat task new seat (Err NoMemory)
lacks old new seat task right same =
    subst (λ b. AppliesBy b old seat task new seat (Err NoMemory)) (sym right) (Err NoMemory, refl, (record { cell = same; seat_is = refl }, refl))

-- Where nothing is entered, a cell is what it was.
pub same_cell : {T : Type 0} (note : T → Note) (o : Opening) (power new : Power (Server T) T) (history : List HistoryEntry) (applied : List ℕ)
    (cell : IsCell note o power history applied) → Stands (server_kind note o) cell.kept.past new → IsCell note o new history applied
same_cell note o power new history applied cell s =
    record { kept = same_kept (server_kind note o) (core o) history power new cell.kept s; numbered = cell.numbered; counted = cell.counted }

clash : false ≡ true → ⊥
clash h = cc

differ : (a b : ℕ) → (a == b) ≡ false → b ≢ a
differ a b h e = clash (sym h ∙ eq-eqb a b (sym e))

same_or_not : (a b : ℕ) → (t : Bool) → (a == b) ≡ t → (applied : List ℕ) (n : ℕ) → a < length applied → slice_index_or applied b 0 ≡ n
    → slice_index_or (slice_set applied a (slice_index_or applied a 0 + 1)) b 0 ≡ (if t then n + 1 else n)
same_or_not a b true h applied n few is =
    let same = eqb-true a b h in
    subst (λ k. slice_index_or (slice_set applied a (slice_index_or applied a 0 + 1)) k 0 ≡ n + 1) same
    (get_or-set_same applied a (slice_index_or applied a 0 + 1) 0 few ∙ ap (λ k. k + 1) (ap (λ k. slice_index_or applied k 0) same ∙ is))
same_or_not a b false h applied n few is = get_or-set_other applied a b (slice_index_or applied a 0 + 1) 0 (differ a b h) ∙ is

counted_once_more : (applied : List ℕ) (history : List HistoryEntry) (seat : Seated) (came : NodeInput) (answer : Result Reply Fault) → seat.number < 17
    → AreCounted applied history
    → AreCounted (slice_set applied seat.number (slice_index_or applied seat.number 0 + 1)) (logged_by seat came answer ∷ history)
counted_once_more applied history seat came answer few counted = record {
  long = length-set applied seat.number (slice_index_or applied seat.number 0 + 1) ∙ counted.long;
  each = λ k h. same_or_not seat.number k (seat.number == k) refl applied (times k history) (subst (λ n. seat.number < n) (sym counted.long) few)
      (counted.each k h);
}

is_next : (log : ServerLog) (seat : Seated) → is_right log seat ≡ true → seat.applied ≡ times seat.number log.history
is_next log seat right =
    eqb-true seat.applied (times seat.number log.history) (and_parts (seat.server == log.opening.me) (seat.applied == times seat.number log.history) right).1

-- What was asked is entered.
pub entered : {T : Type 0} (note : T → Note) (o : Opening) (power new : Power (Server T) T) (history : List HistoryEntry) (applied : List ℕ) (failures : ℕ)
    (seat : Seated) (task : ServerTask) (answer : Result Reply Fault) → (cell : IsCell note o power history applied)
    → is_right (record { opening = o; history = history; failures = failures }) seat ≡ true → seat.number < 17
    → Moves (server_kind note o) (core o) cell.kept.past (ask_of (came_by task)) answer [] new
    → IsCell note o new (entry_of seat task answer ∷ history) (slice_set applied seat.number (slice_index_or applied seat.number 0 + 1))
entered note o power new history applied failures seat task answer cell right few m = record {
  kept = kept_more (server_kind note o) (core o) history power new cell.kept _ (came_by task) answer [] m;
  numbered = (cell.numbered, is_next (record { opening = o; history = history; failures = failures }) seat right);
  counted = counted_once_more applied history seat (came_by task) answer few cell.counted;
}

pub replayed : {T : Type 0} (note : T → Note) (o : Opening) {power new : Power (Server T) T} {history : List HistoryEntry} {applied : List ℕ}
    (cell : IsCell note o power history applied) (failures : ℕ) (seat : Seated) (task : ServerTask) (answer : Result Reply Fault)
    → is_right (record { opening = o; history = history; failures = failures }) seat ≡ true
    → Moves (server_kind note o) (core o) cell.kept.past (ask_of (came_by task)) answer [] new → (past : List FrameEntry) × Replays o (entry_of seat task answer ∷ history) past
replayed note o {history = history} cell failures seat task answer right m = (
  m.after,
  record {
    numbered = (cell.numbered, is_next (record { opening = o; history = history; failures = failures }) seat right);
    made = (cell.kept.past, cell.kept.made, m.ends);
  },
)

pub seat_fits : (items : List HistoryEntry) (cell : ServerLog) (seat : Seated) → is_right cell seat ≡ true → cell.history ≡ reverse items → length items + 1 < 2 ^ 64
    → seat.applied + 1 < 2 ^ 64
seat_fits items cell seat right is small =
    omega (arith, is_next cell seat right, times_few seat.number cell.history, ap length is, length-reverse items, small)

-- So a call ends that was entered.
pub applied : (old : ServerLog) (seat : Seated) (task : ServerTask) (answer : Result Reply Fault) (new : ServerLog) (after : Seated)
    (result : Result Receipt Fault) → is_right old seat ≡ true → lacks_memory answer ≡ false → new.opening ≡ old.opening
    → new.history ≡ entry_of seat task answer ∷ old.history
    → Counts (loads_note task) old.failures new.failures answer
    → after ≡ record { server = seat.server; number = seat.number; applied = seat.applied + 1; last = Some answer } → result ≡ told_by answer
    → Applies old seat task new after result
applied old seat task answer new after result right kept opening history counted seat_is told =
    subst (λ b. AppliesBy b old seat task new after result) (sym right) (
      answer,
      told,
      subst (λ b. Enters b old seat task new after answer) (sym kept) (record
          { opening = opening; history = history; failures = counted; seat_is = seat_is }),
    )

-- One entry more is a number of eight bytes, where they are counted behind it.
pub few_before : (items new : List HistoryEntry) (l : HistoryEntry) → new ≡ items ++ l ∷ [] → length new < 2 ^ 64 → length items + 1 < 2 ^ 64
few_before items new l is few = omega (arith, few, ap length is, length-append items (l ∷ []))

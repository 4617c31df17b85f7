-- What the client's cell keeps.
use Rattle.std.proofs.Common.{◌≡◌, refl, sym, subst, ℕ, ◌≤◌, false, List, [], ◌∷◌, Result, Err}
use Rattle.std.specs.Prelude.{reverse}
use Rattle.fc_base.specs.declared.fault.Fault.{Fault}
use Rattle.fc_base.specs.declared.fault.Fault.TheVariants.{NoMemory}
use Rattle.disk_model.specs.Notes.{Note}
use Rattle.client_core.specs.declared.client.Client.{Client}
use Rattle.client_core.specs.declared.note.ClientNote.{ClientNote}
use Rattle.client_core.specs.History.{Opening}
use Rattle.client_core.specs.Hearing.{FrameEntry, Restart}
use Rattle.client_core.specs.FrameEnds.{noted_in, StandsFor, Opens}
use Rattle.client_core.specs.NodeKind.{client_kind}
use Rattle.cells.specs.declared.answer.Reply.{Reply}
use Rattle.cells.specs.declared.answer.Receipt.{Receipt}
use Rattle.cells.specs.declared.input.NodeInput.{NodeInput}
use Rattle.cells.specs.declared.entry.HistoryEntry.{HistoryEntry}
use Rattle.cells.specs.ClientRules.{ask_of, core}
use Rattle.cells.specs.AtHub.{lacks_memory, told_by}
use Rattle.cells.specs.Failures.{Counts}
use Rattle.cells.specs.Moves.{Moves}
use Rattle.cells.proofs.HubLemmas.{same_kept, entered as kept_more}
use Rattle.node.specs.declared.power.Power.{Power}
use Rattle.node.specs.declared.power.Power.TheVariants.{On}
use Rattle.cells.specs.declared.client_cell.task.ClientTask.{ClientTask}
use Rattle.node.specs.Kinds.{Stands}
use Rattle.cells.specs.ClientCells.{ClientLog, opening_of, IsReplay, IsCell}
use Rattle.cells.specs.ClientCalls.{logged_by, Enters, Applies}
use Rattle.cells.specs.ClientTasks.{came_by, loads_note}

-- ---- a new cell

abbrev pub first : List FrameEntry
first = Restart false ∷ []

abbrev pub opening_by : ℕ → ClientNote → Opening
opening_by servers said = record { servers = servers; noted = said }

pub opened_once : {T : Type 0} (note : T → Note) (servers : ℕ) (notes : T) (client : Client T) (h : Opens note servers false (note notes) client)
    → StandsFor note client (opening_by servers h.said) first
opened_once note servers notes client h = h.stands (opening_by servers h.said) [] refl h.says

-- It knew then what its note said.
pub said_then : {T : Type 0} (note : T → Note) (servers : ℕ) (notes : T) (client : Client T) (h : Opens note servers false (note notes) client)
    → noted_in client ≡ h.said
said_then note servers notes client h = (opened_once note servers notes client h).core.knows

pub seen_said : {T : Type 0} (note : T → Note) (servers : ℕ) (notes : T) (client seen : Client T) (h : Opens note servers false (note notes) client)
    → seen ≡ client → noted_in seen ≡ h.said
seen_said note servers notes client seen h is = rw is (said_then note servers notes client h)

pub new_cell : {T : Type 0} (note : T → Note) (servers : ℕ) (notes : T) (client seen : Client T) (h : Opens note servers false (note notes) client)
    (history : List HistoryEntry) (failures : ℕ) → 1 ≤ servers → servers ≤ 8 → seen ≡ client → history ≡ []
    → IsCell note (record { opening = opening_of servers seen; history = reverse history; failures = failures }) (On client)
new_cell note servers notes client seen h history failures some few is none =
    rw none (subst (λ said. IsCell note (record { opening = opening_by servers said; history = []; failures = failures }) (On client))
    (sym (seen_said note servers notes client seen h is)) (record {
      kept = record { past = first; made = refl; stands = opened_once note servers notes client h; ranges = (record { servers = few; note = h.says.note }, tt) };
      some = some;
    }))

-- ---- what is asked

-- For want of memory nothing changes.
pub lacks : (old new : ClientLog) (task : ClientTask) → new ≡ old → Applies old task new (Err NoMemory)
lacks old new task same = (Err NoMemory, refl, (same, refl))

-- What a cell shows later.
abbrev pub with_history : ClientLog → List HistoryEntry → ℕ → ClientLog
with_history log history failures = record { opening = log.opening; history = history; failures = failures }

-- Where nothing is entered, a cell is what it was.
pub same_cell : {T : Type 0} (note : T → Note) (log : ClientLog) (power new : Power (Client T) T) (failures : ℕ) (cell : IsCell note log power)
    → Stands (client_kind note log.opening) cell.kept.past new → IsCell note (with_history log log.history failures) new
same_cell note log power new failures cell s =
    record { kept = same_kept (client_kind note log.opening) (core log.opening) log.history power new cell.kept s; some = cell.some }

-- What was asked is entered.
pub entered : {T : Type 0} (note : T → Note) (log : ClientLog) (power new : Power (Client T) T) (failures : ℕ) (came : NodeInput) (answer : Result Reply Fault)
    (cell : IsCell note log power)
    → Moves (client_kind note log.opening) (core log.opening) cell.kept.past (ask_of came) answer [] new
    → IsCell note (with_history log (logged_by came answer ∷ log.history) failures) new
entered note log power new failures came answer cell m =
    record { kept = kept_more (client_kind note log.opening) (core log.opening) log.history power new cell.kept _ came answer [] m; some = cell.some }

pub replayed : {T : Type 0} (note : T → Note) (log : ClientLog) (power new : Power (Client T) T) (failures : ℕ) (came : NodeInput) (answer : Result Reply Fault)
    (cell : IsCell note log power)
    → Moves (client_kind note log.opening) (core log.opening) cell.kept.past (ask_of came) answer [] new
    → (past : List FrameEntry) × IsReplay (with_history log (logged_by came answer ∷ log.history) failures) past
replayed note log power new failures came answer cell m = (m.after, (cell.kept.past, cell.kept.made, m.ends))

-- So a call ends that was entered.
pub applied : (old : ClientLog) (task : ClientTask) (answer : Result Reply Fault) (new : ClientLog) (result : Result Receipt Fault)
    → lacks_memory answer ≡ false → new.opening ≡ old.opening → new.history ≡ logged_by (came_by task) answer ∷ old.history
    → Counts (loads_note task) old.failures new.failures answer → result ≡ told_by answer → Applies old task new result
applied old task answer new result kept opening history counted told =
    (answer, told, subst (λ b. Enters b old task new answer) (sym kept) (record { opening = opening; history = history; failures = counted }))

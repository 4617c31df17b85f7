-- What a server's cell shows, and what is true of every one.
use Rattle.std.specs.Prelude.{◌≡◌, ℕ, ◌<◌, ◌==◌, ◌&&◌, Bool, List, length, slice_index_or}
use Rattle.fc_base.specs.declared.limits.TheConstants.{MAX_SEATS}
use Rattle.disk_model.specs.Notes.{Note}
use Rattle.server_core.specs.declared.server.Server.{Server}
use Rattle.server_core.specs.History.{Opening}
use Rattle.server_core.specs.Hearing.{FrameEntry}
use Rattle.server_core.specs.NodeKind.{server_kind}
use Rattle.cells.specs.declared.entry.HistoryEntry.{HistoryEntry}
use Rattle.node.specs.declared.power.Power.{Power}
use Rattle.cells.specs.Moves.{IsKept}
use Rattle.cells.specs.Replay.{Makes}
use Rattle.cells.specs.Seats.{times, IsNumbered}
use Rattle.cells.specs.ServerRules.{core, rules}

-- A server under its lock: what it was opened with, its history, newest first, and how often the
-- device of its note has failed.
pub record ServerLog : Type 0 where
  pub opening : Opening
  pub history : List HistoryEntry
  pub failures : ℕ

-- A server was opened over a note that says of no boot and no run.
abbrev pub is_blank : Opening → Bool
is_blank opening = (opening.boot == 0) && (opening.last == 0)

-- A history is numbered, and makes this list by the rules of a server that was opened so.
pub record Replays (opening : Opening) (history : List HistoryEntry)
    (past : List FrameEntry) : Type 0 where
  pub numbered : IsNumbered history
  pub made : Makes (rules opening) history past

-- The history of a server's cell is numbered, and makes this list by the rules of a server that was
-- opened as the cell was.
abbrev pub IsReplay : ServerLog → List FrameEntry → Type 0
IsReplay cell past = Replays cell.opening cell.history past

-- For each of 17 seats its events are counted.
pub record AreCounted (applied : List ℕ) (history : List HistoryEntry) : Type 0 where
  pub long : length applied ≡ 17
  pub each : (seat : ℕ) → seat < MAX_SEATS → slice_index_or applied seat 0 ≡ times seat history

-- What is true of every cell: the server stands for a list that its history makes, in which all is
-- in its ranges, and the events of each seat are numbered and counted.
pub record IsCell {T : Type 0} (note : T → Note) (opening : Opening) (power : Power (Server T) T)
    (history : List HistoryEntry) (applied : List ℕ) : Type 0 where
  pub kept : IsKept (server_kind note opening) (core opening) history power
  pub numbered : IsNumbered history
  pub counted : AreCounted applied history

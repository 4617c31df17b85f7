-- What the client's cell shows, and what is true of every one.
use Rattle.std.specs.Prelude.{ℕ, ◌≤◌, List}
use Rattle.disk_model.specs.Notes.{Note}
use Rattle.client_core.specs.declared.client.Client.{Client}
use Rattle.client_core.specs.History.{Opening}
use Rattle.client_core.specs.Hearing.{FrameEntry}
use Rattle.client_core.specs.FrameEnds.{noted_in}
use Rattle.client_core.specs.NodeKind.{client_kind}
use Rattle.cells.specs.declared.entry.HistoryEntry.{HistoryEntry}
use Rattle.node.specs.declared.power.Power.{Power}
use Rattle.cells.specs.Moves.{IsKept}
use Rattle.cells.specs.Replay.{Makes}
use Rattle.cells.specs.ClientRules.{core, rules}

-- The client under its lock: what it was opened with, its history, newest first, and how often the
-- device of its note has failed.
pub record ClientLog : Type 0 where
  pub opening : Opening
  pub history : List HistoryEntry
  pub failures : ℕ

-- With how many servers, and over what note, a client was opened that was then so.
abbrev pub opening_of : {T : Type 0} → ℕ → Client T → Opening
opening_of servers client = record { servers = servers; noted = noted_in client }

-- The history makes this list by the rules.
abbrev pub IsReplay : ClientLog → List FrameEntry → Type 0
IsReplay cell past = Makes (rules cell.opening) cell.history past

-- What is true of every cell: the client stands for a list that its history makes, in which all is
-- in its ranges.
pub record IsCell {T : Type 0} (note : T → Note) (cell : ClientLog)
    (power : Power (Client T) T) : Type 0 where
  pub kept : IsKept (client_kind note cell.opening) (core cell.opening) cell.history power
  pub some : 1 ≤ cell.opening.servers

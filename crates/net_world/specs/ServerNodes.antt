-- What kind of node a server of a world is, and how it is started.
use Rattle.std.specs.Prelude.{◌+◌, ◌^◌, nat_lt, if◌then◌else◌, Bool, true, List}
use Rattle.std.specs.Prelude.{Result, Ok, Err}
use Rattle.fc_base.specs.declared.fault.Fault.{Fault}
use Rattle.fc_base.specs.declared.fault.Fault.TheVariants.{NoSave, NumbersSpent}
use Rattle.disk_model.specs.MemNotes.{Saved as Kept, note_of}
use Rattle.disk_model.specs.declared.save_outcome.SaveOutcome.TheVariants.{Saved}
use Rattle.server_core.specs.Inputs.{FrameInput}
use Rattle.server_core.specs.declared.note.ServerNote.{ServerNote}
use Rattle.server_core.specs.declared.outs.Outs.{Outs}
use Rattle.server_core.specs.declared.server.Server.{Server}
use Rattle.server_core.specs.History.{Opening}
use Rattle.server_core.specs.Words.{Staged, has_boot}
use Rattle.server_core.specs.Hearing.{FrameEntry, Restart, packets_heard}
use Rattle.node.specs.declared.power.Power.{Power}
use Rattle.node.specs.Kinds.{Kind}
use Rattle.server_core.specs.NodeKind.{server_kind}
use Rattle.net_world.specs.Nodes as nodes
use Rattle.net_world.specs.Nodes.{Starts}
use Rattle.node.specs.Kinds.{lost_by}

-- A server of a world.
abbrev pub ServerNode : Type 0
ServerNode = Power (Server Kept) Kept

-- The kind of a server of a world that was opened so: one over notes in memory.
abbrev pub server_nodes : Opening → Kind (Server Kept) Kept FrameInput FrameEntry Staged Outs
server_nodes opening = server_kind note_of opening

-- For which lists a server of a world stands.
abbrev pub Stands : Opening → List FrameEntry → ServerNode → Type 0
Stands opening = nodes.Stands (server_nodes opening)

-- How a restart ends: the server runs in the next boot, unless its boots are used up.
abbrev pub Restarts : Opening → List FrameEntry → ServerNode → Result (Unit {0}) Fault → Type 0
Restarts opening past =
    Starts (server_nodes opening) past
    (has_boot opening (packets_heard opening past)) true NumbersSpent
    (Restart Saved)

-- There is a save where a note leaves a boot above those that were used.
abbrev pub boots : ServerNote → Result (Unit {0}) Fault
boots n = if nat_lt (n.boot + 1) (2 ^ 64) then Ok tt else Err NoSave

-- A restart whose boots are used up makes no save.
abbrev pub no_save : Fault → Fault
no_save NumbersSpent = NoSave
no_save fault = fault

-- How a cut within the save of a restart ends, likewise.
abbrev pub CutsInRestart : Opening → List FrameEntry →
    Bool → ServerNode → Result (Unit {0}) Fault → Type 0
CutsInRestart opening past landed =
    Starts (server_nodes opening) past (has_boot opening (packets_heard opening past)) true NoSave
    (Restart (lost_by landed))

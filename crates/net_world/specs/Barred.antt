-- What a world refuses before a node is asked: there is no such server or no mirror, the node is
-- off, the node is on, there is no such frame or no such write, a generation is none or was used.
use Rattle.std.specs.Prelude.{ℕ, Bool, not, nat_lt, List, Option, Some, None, is_some, slice_get, if◌then◌else◌}
use Rattle.std.specs.List.{list_all}
use Rattle.std.specs.Option.{option_or}
use Rattle.fc_base.specs.declared.fault.Fault.{Fault}
use Rattle.fc_base.specs.declared.fault.Fault.TheVariants.{NoServer, NoMirror, NodeOff, NodeOn, NoFrame, NoWrite, BadGeneration, UsedGeneration}
use Rattle.fc_base.specs.declared.limits.TheConstants.{MAX_JOBS}
use Rattle.messages.specs.declared.node.Node.{Node}
use Rattle.messages.specs.declared.node.Node.TheVariants.{Server, Client, Mirror}
use Rattle.messages.specs.declared.frame.Frame.{Frame}
use Rattle.messages.specs.Ranges.{is_generation}
use Rattle.server_core.specs.Words as servers
use Rattle.client_core.specs.Words as clients
use Rattle.client_core.specs.Numbering.{generations}
use Rattle.mirror_core.specs.Words as mirrors
use Rattle.net_world.specs.Setup.{Setup}
use Rattle.net_world.specs.Happenings.{Happening, Begin, Trigger, StopRun, Verify, Tick, Deliver, Issue}
use Rattle.net_world.specs.Happenings.{Land, Done, Fail, Rot, Check, Cut, Restart, LoseNote, Renew, CutIn}
use Rattle.net_world.specs.Trace.{Step, of_server, of_client, of_mirror}
use Rattle.net_world.specs.Frames.{to_of}
use Rattle.net_world.specs.Writes.{open_at}

-- The fault, unless the test passes.
abbrev pub unless : Bool → Fault → Option Fault
unless test fault = if test then None else Some fault

-- A world has no such server.
abbrev pub no_server : Setup → ℕ → Option Fault
no_server w s = unless (nat_lt s w.servers) NoServer

-- A world has no mirror.
abbrev pub no_mirror : Setup → Option Fault
no_mirror w = unless w.mirror NoMirror

-- A world has no such node.
abbrev pub no_node : Setup → Node → Option Fault
no_node w (Server s) = no_server w s
no_node w Client = None
no_node w Mirror = no_mirror w

-- A node is on.
abbrev pub is_on : Setup → List Step → Node → Bool
is_on w t (Server s) = servers.is_on (of_server s t)
is_on w t Client = clients.is_on (of_client w t)
is_on w t Mirror = mirrors.is_on (of_mirror t)

-- The node has to be on.
abbrev pub unless_on : Setup → List Step → Node → Option Fault
unless_on w t node = option_or (no_node w node) (unless (is_on w t node) NodeOff)

-- The node has to be off.
abbrev pub unless_off : Setup → List Step → Node → Option Fault
unless_off w t node = option_or (no_node w node) (unless (not (is_on w t node)) NodeOn)

-- The frame has to be there, and the node to which it goes to be on.
abbrev pub unless_sent : Setup → List Step → Option Frame → Option Fault
unless_sent w t None = Some NoFrame
unless_sent w t (Some f) = unless_on w t (to_of f)

-- The server has to be on, and the write to be open.
abbrev pub unless_open : Setup → List Step → ℕ → ℕ → ℕ → Option Fault
unless_open w t s j k =
    option_or (unless_on w t (Server s)) (unless (is_some (open_at t s j k)) NoWrite)

-- A server has 16 files.
abbrev pub no_file : Setup → ℕ → ℕ → Option Fault
no_file w s j = option_or (no_server w s) (unless (nat_lt j MAX_JOBS) NoWrite)

-- A generation is handed in once, and above all before it, those of stopped renewals too.
abbrev pub used_generation : Setup → List Step → ℕ → Option Fault
used_generation w t g =
    unless (list_all (λ earlier. nat_lt earlier g) (generations (of_client w t))) UsedGeneration

-- The number has to be one of a generation that was not used.
abbrev pub unless_unused : Setup → List Step → ℕ → Option Fault
unless_unused w t g = option_or (unless (is_generation g) BadGeneration) (used_generation w t g)

-- There has to be a mirror, and the client to be off.
abbrev pub unless_losable : Setup → List Step → Option Fault
unless_losable w t = option_or (no_mirror w) (unless_off w t Client)

-- Why the world refuses what may happen, by the trace and the frames that were sent. A cut within a
-- save is refused as what makes the save.
abbrev pub barring_fault : Setup → List Step → List Frame → Happening → Option Fault
barring_fault w t frames (Begin text) = unless_on w t Client
barring_fault w t frames (Trigger run act) = unless_on w t Client
barring_fault w t frames (StopRun run) = unless_on w t Client
barring_fault w t frames (Verify run text) = unless_on w t Client
barring_fault w t frames Tick = unless_on w t Client
barring_fault w t frames (Deliver i) = unless_sent w t (slice_get frames i)
barring_fault w t frames (Issue s j) = unless_on w t (Server s)
barring_fault w t frames (Land s j k mask) = unless_open w t s j k
barring_fault w t frames (Done s j k) = unless_open w t s j k
barring_fault w t frames (Fail s j k) = unless_open w t s j k
barring_fault w t frames (Rot s j sector bytes) = no_file w s j
barring_fault w t frames (Check s j) = unless_on w t (Server s)
barring_fault w t frames (Cut node) = unless_on w t node
barring_fault w t frames (Restart node) = unless_off w t node
barring_fault w t frames LoseNote = unless_losable w t
barring_fault w t frames (Renew g) = option_or (unless_losable w t) (unless_unused w t g)
barring_fault w t frames (CutIn landed (CutIn again e)) = None
barring_fault w t frames (CutIn landed e) = barring_fault w t frames e

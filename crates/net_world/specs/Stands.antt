-- For which changes a world stands.
use Rattle.std.specs.Prelude.{◌≡◌, ℕ, ◌+◌, ◌*◌, ◌<◌, ◌≤◌, nat_lt, true, false, List, length, Option, Some, None, slice_get}
use Rattle.std.specs.List.{list_all}
use Rattle.fc_base.specs.declared.limits.TheConstants.{MAX_JOBS, MAX_SERVERS}
use Rattle.disk_model.specs.File.{File}
use Rattle.disk_model.specs.MemDisk.{file_of}
use Rattle.disk_model.specs.declared.mem_disk.MemDisk.{MemDisk}
use Rattle.messages.specs.Ranges.{is_generation}
use Rattle.mirror_core.specs.History.{Entry}
use Rattle.net_world.specs.MirrorNodes.{MirrorNode}
use Rattle.net_world.specs.ServerNodes.{ServerNode}
use Rattle.net_world.specs.declared.world.World.{World}
use Rattle.net_world.specs.Setup.{Setup}
use Rattle.net_world.specs.Trace.{opening_of, client_opening, mirror_opening}
use Rattle.net_world.specs.Frames.{server_entries, client_entries, of_mirror}
use Rattle.net_world.specs.Changes.{Change, steps}
use Rattle.net_world.specs.Contents.{content}
use Rattle.net_world.specs.World.{frames}
use Rattle.net_world.specs.Sending.{sent_in}
use Rattle.net_world.specs.ServerNodes as servers
use Rattle.net_world.specs.ClientNodes as clients
use Rattle.net_world.specs.MirrorNodes as mirrors

-- The file of job j at server s. Its disk is never off.
abbrev pub file : Setup → List Change → ℕ → ℕ → File
file w past s j = record { content = content w past s j; power = Some 0; failures = 0 }

-- The mirror stands for its own list, where the world has one.
abbrev pub IsMirror : Setup → List Entry → Option MirrorNode → Type 0
IsMirror w past None = w.mirror ≡ false
IsMirror w past (Some node) = (w.mirror ≡ true) × mirrors.Stands mirror_opening past node

-- A number of a generation is above all that were handed in where it is above the greatest of them.
abbrev pub IsGreatest : ℕ → List ℕ → Type 0
IsGreatest greatest handed =
    (g : ℕ) → is_generation g ≡ true
    → list_all (λ earlier. nat_lt earlier g) handed ≡ nat_lt greatest g

-- A world stands for changes: its frames are those that were sent, each node stands for its
-- own list, and each file holds what it holds by them. A server has 16 files.
pub record StandsFor (w : Setup) (past : List Change) (now : World) : Type 0 where
  pub some : 1 ≤ w.servers
  pub few : w.servers ≤ MAX_SERVERS
  pub number : length now.servers.items ≡ w.servers
  pub sent_is : sent_in now.sent ≡ frames w past
  pub servers_are :
      (s : ℕ) (node : ServerNode) → slice_get now.servers.items s ≡ Some node
      → servers.Stands (opening_of s) (server_entries s (steps past)) node
  pub client_is : clients.Stands (client_opening w) (client_entries w (steps past)) now.client
  pub mirror_is : IsMirror w (of_mirror (steps past)) now.mirror.node
  pub greatest_is : IsGreatest now.mirror.greatest
      (clients.handed_in (client_entries w (steps past)))
  pub files : length now.files.items ≡ MAX_JOBS * w.servers
  pub files_are :
      (s j : ℕ) (disk : MemDisk) → j < MAX_JOBS
      → slice_get now.files.items (MAX_JOBS * s + j) ≡ Some disk
      → file_of disk ≡ file w past s j

-- What a world is made of.
use Rattle.std.specs.Prelude.{◌≡◌, ℕ, Bool, true, false, List, [], ◌∷◌, length, Option, Some, None, slice_get}
use Rattle.disk_model.specs.File.{File, zeros}
use Rattle.disk_model.specs.MemDisk.{file_of}
use Rattle.disk_model.specs.declared.mem_disk.MemDisk.{MemDisk}
use Rattle.disk_model.specs.declared.save_outcome.SaveOutcome.TheVariants.{Saved}
use Rattle.server_core.specs.Hearing.{Restart}
use Rattle.mirror_core.specs.History as mirror
use Rattle.net_world.specs.declared.config.Config.{Config}
use Rattle.net_world.specs.MirrorNodes.{MirrorNode}
use Rattle.net_world.specs.declared.mirror_node.MirrorSlot.{MirrorSlot}
use Rattle.net_world.specs.ServerNodes.{ServerNode}
use Rattle.net_world.specs.Trace.{opening_of, mirror_opening}
use Rattle.net_world.specs.MirrorNodes as mirrors
use Rattle.net_world.specs.ServerNodes.{Stands}

-- The servers of a world are this many, each on since its first restart.
pub record AreOpened (count : ℕ) (nodes : List ServerNode) : Type 0 where
  pub number : length nodes ≡ count
  pub each :
      (s : ℕ) (node : ServerNode) → slice_get nodes s ≡ Some node
      → Stands (opening_of s) (Restart Saved ∷ []) node

-- Where a world has a mirror that is on since its first restart, generation 1 was handed in, else
-- none.
abbrev pub OpensMirror : Bool → Option MirrorNode → ℕ → Type 0
OpensMirror false None greatest = greatest ≡ 0
OpensMirror true (Some node) greatest =
    mirrors.Stands mirror_opening (mirror.Restart ∷ []) node × (greatest ≡ 1)
OpensMirror _ _ greatest = ⊥

-- The mirror is on since its first restart, where the world has one, and the client's generation
-- was handed in.
abbrev pub HasOpened : Config → MirrorSlot → Type 0
HasOpened config m = OpensMirror config.mirror m.node m.greatest

-- A file that was never written, in a disk that is on.
abbrev pub blank : File
blank = record { content = λ _. zeros; power = Some 0; failures = 0 }

-- The files are this many, each never written, in a disk that is on.
pub record AreBlank (count : ℕ) (files : List MemDisk) : Type 0 where
  pub number : length files ≡ count
  pub each : (i : ℕ) (disk : MemDisk) → slice_get files i ≡ Some disk → file_of disk ≡ blank

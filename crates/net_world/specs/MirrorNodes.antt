-- What kind of node the mirror of a world is, and how it is started.
use Rattle.std.specs.Prelude.{◌≡◌, true, false, ℕ, List, ◌∷◌, Result, Ok, Err}
use Rattle.fc_base.specs.declared.fault.Fault.{Fault}
use Rattle.fc_base.specs.declared.fault.Fault.TheVariants.{NoMemory, NodeOn}
use Rattle.disk_model.specs.MemNotes.{Saved as Kept, note_of}
use Rattle.messages.specs.declared.frame.Frame.{Frame}
use Rattle.mirror_core.specs.declared.mirror.Mirror.{Mirror}
use Rattle.mirror_core.specs.declared.note.MirrorNote.{MirrorNote}
use Rattle.mirror_core.specs.History.{Entry, Restart}
use Rattle.mirror_core.specs.Saves.{Addition}
use Rattle.mirror_core.specs.Words.{is_on}
use Rattle.node.specs.declared.power.Power.{Power}
use Rattle.node.specs.Kinds.{Kind}
use Rattle.mirror_core.specs.NodeKind.{mirror_kind}
use Rattle.net_world.specs.Nodes as nodes

-- The mirror of a world.
abbrev pub MirrorNode : Type 0
MirrorNode = Power (Mirror Kept) Kept

-- The kind of the mirror of a world whose note said this: one over notes in memory.
abbrev pub mirror_nodes : MirrorNote → Kind (Mirror Kept) Kept Frame Entry Addition (List (List ℕ))
mirror_nodes opening = mirror_kind note_of opening

-- For which lists the mirror of a world stands.
abbrev pub Stands : MirrorNote → List Entry → MirrorNode → Type 0
Stands opening = nodes.Stands (mirror_nodes opening)

-- How a restart ends, which nothing hinders: the mirror runs; or it ran, or memory ran out, and
-- nothing changes.
abbrev pub Restarts : MirrorNote → List Entry → MirrorNode → Result (Unit {0}) Fault → Type 0
Restarts opening past new (Ok _) = (is_on past ≡ false) × Stands opening (Restart ∷ past) new
Restarts opening past new (Err NodeOn) = (is_on past ≡ true) × Stands opening past new
Restarts opening past new (Err NoMemory) = (is_on past ≡ false) × Stands opening past new
Restarts opening past new (Err _) = ⊥

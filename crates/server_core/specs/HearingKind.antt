-- What kind of core over packets a server has, so that it hears frames.
use Rattle.std.specs.Prelude.{refl, []}
use Rattle.disk_model.specs.Notes.{Note}
use Rattle.node.specs.Hearers.{CoreKind, Laws}
use Rattle.server_core.specs.Inputs.{PacketInput}
use Rattle.server_core.specs.declared.input.Input.TheVariants.{Deliver}
use Rattle.server_core.specs.declared.outs.Outs.{Outs}
use Rattle.server_core.specs.declared.packet_server.PacketServer.{PacketServer}
use Rattle.server_core.specs.History.{Opening, Entry}
use Rattle.server_core.specs.Words.{Staged}
use Rattle.server_core.specs.Ends.{steps}
use Rattle.server_core.specs.Handles.{sent_alone}
use Rattle.server_core.specs.Hearing.{is_piece_for, is_end}
use Rattle.server_core.specs.Ranges.{IsInRange}

-- The kind of the core of a server that was opened so.
abbrev pub hearing_kind : {T : Type 0} → (T → Note) → Opening →
    CoreKind (PacketServer T) PacketInput Entry Staged Outs
hearing_kind note opening = record {
  core = steps note opening;
  delivers = Deliver;
  is_for = is_piece_for opening.me;
  ends = is_end;
  nothing = sent_alone [];
  IsInRange = IsInRange;
}

-- The core of a server keeps the laws of hearing.
pub hearing_laws : {T : Type 0} (note : T → Note) (opening : Opening) →
    Laws (hearing_kind note opening)
hearing_laws note opening = record {
  goes_on = λ x left. refl;
  on_behind = λ past x left. refl;
  stays = λ past x core stands. stands;
  in_range = λ p range. range;
}

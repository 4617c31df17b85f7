-- What kind of core over packets a client has, so that it hears frames.
use Rattle.std.specs.Prelude.{refl, ℕ, List, []}
use Rattle.disk_model.specs.Notes.{Note}
use Rattle.node.specs.Hearers.{CoreKind, Laws}
use Rattle.client_core.specs.Inputs.{PacketInput, Deliver}
use Rattle.client_core.specs.declared.packet_client.PacketClient.{PacketClient}
use Rattle.client_core.specs.History.{Opening, Entry}
use Rattle.client_core.specs.Saves.{Addition}
use Rattle.client_core.specs.Ends.{steps}
use Rattle.client_core.specs.Hearing.{is_piece_for, is_end}
use Rattle.client_core.specs.Ranges.{IsInRange}

-- The kind of the core of a client that was opened so.
abbrev pub hearing_kind : {T : Type 0} → (T → Note) → Opening →
    CoreKind (PacketClient T) PacketInput Entry Addition (List (List ℕ))
hearing_kind note opening = record {
  core = steps note opening;
  delivers = Deliver;
  is_for = is_piece_for opening.servers;
  ends = is_end;
  nothing = [];
  IsInRange = IsInRange;
}

-- The core of a client keeps the laws of hearing.
pub hearing_laws : {T : Type 0} (note : T → Note) (opening : Opening) →
    Laws (hearing_kind note opening)
hearing_laws note opening = record {
  goes_on = λ x left. refl;
  on_behind = λ past x left. refl;
  stays = λ past x core stands. stands;
  in_range = λ p range. range;
}

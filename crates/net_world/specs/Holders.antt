-- Who holds which verify state, and what was taken.
use Rattle.std.specs.Prelude.{◌≡◌, ℕ, if◌then◌else◌, List, [], ◌∷◌, Option, Some, None, Contains}
use Rattle.fc_base.specs.declared.numbers.Key.{Key}
use Rattle.verify_state.specs.State.{State}
use Rattle.messages.specs.declared.packet.PacketParts.{PacketParts}
use Rattle.messages.specs.declared.body.Body.{Body}
use Rattle.messages.specs.declared.body.Body.TheVariants as bodies
use Rattle.disk_model.specs.SaveOutcome.{is_lost}
use Rattle.server_core.specs.History.{Opening, Entry, Met, Cut, Restart}
use Rattle.server_core.specs.Request.{request_of}
use Rattle.server_core.specs.Words.{work}
use Rattle.server_core.specs.Taken.{takes, and_those, takings}
use Rattle.server_core.specs.Check.{With, progress}
use Rattle.client_core.specs.Words.{kept_state}
use Rattle.mirror_core.specs.Words as mirrors
use Rattle.net_world.specs.Setup.{Setup}
use Rattle.net_world.specs.Trace.{Step, opening_of, client_opening, mirror_opening, of_server, of_client, of_mirror, sent_packets}

-- The key of job j of a run at this server.
abbrev pub key_at : ℕ → ℕ → ℕ → Key
key_at run s j = record { run = run; server = s; job = j }

-- The states of a key that its server took, over all its lives.
abbrev pub taken_of : Key → List Step → List State
taken_of key t = takings (opening_of key.server) key.run key.job (of_server key.server t)

-- The states of a run's job that a server took in this life.
abbrev pub taken_in_life : Opening → ℕ → ℕ → List Entry → List State
taken_in_life opening run j [] = []
taken_in_life opening run j (Met e left ∷ past) =
    if is_lost left then []
    else and_those (takes run j (request_of opening.me e) (work opening past))
    (taken_in_life opening run j past)
taken_in_life opening run j (Cut ∷ past) = []
taken_in_life opening run j (Restart left ∷ past) = []

-- The state that a body carries.
abbrev pub carried_state : Body → Option State
carried_state (bodies.State jobs state) = Some state
carried_state (bodies.Saved attempt state) = Some state
carried_state (bodies.Copy state) = Some state
carried_state _ = None

-- Who holds a state of a key: its server, which took it in this life; a server whose open check is
-- made with it; the client and the mirror, which keep it; a packet that was sent with it.
pub data Holds (w : Setup) (t : List Step) (key : Key) (state : State) : Type 0 where
  ByTaking : Contains (taken_in_life (opening_of key.server) key.run key.job
      (of_server key.server t)) state → Holds w t key state
  ByCheck : (s j : ℕ) → progress (opening_of s) (of_server s t) j ≡ Some (With state)
      → state.key ≡ key → Holds w t key state
  ByClient : kept_state (client_opening w) (of_client w t) key ≡ Some state → Holds w t key state
  ByMirror : mirrors.kept_state mirror_opening (of_mirror t) key ≡ Some state → Holds w t key state
  ByPacket : (p : PacketParts) → Contains (sent_packets w t) p → carried_state p.body ≡ Some state
      → state.key ≡ key → Holds w t key state

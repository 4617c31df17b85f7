-- How much a client sends in answer to one call.
use Rattle.std.specs.Prelude.{ℕ, ◌+◌, ◌*◌, ◌≤◌, Bool, true, false, if◌then◌else◌, List, ◌∷◌, filter, length, sum_by}
use Rattle.fc_base.specs.declared.limits.TheConstants.{MAX_SERVERS}
use Rattle.messages.specs.declared.limits.TheConstants.{MAX_FRAMED, MAX_FRAMES}
use Rattle.disk_model.specs.declared.save_outcome.SaveOutcome.{SaveOutcome}
use Rattle.client_core.specs.Inputs.{PacketInput, Tick}
use Rattle.client_core.specs.History.{Opening, Entry, Met}
use Rattle.client_core.specs.Framed.{frame_bytes}
use Rattle.client_core.specs.Life.{Deed, Hears, life}
use Rattle.client_core.specs.Packets.{packets}
use Rattle.client_core.specs.Words.{words_noted, has_mirror}
use Rattle.client_core.specs.Ranges.{OpensInRange, CameInRange}

-- A begin, a trigger, a stop or a verify.
abbrev pub is_request : Deed → Bool
is_request (Hears server body) = false
is_request _ = true

-- How many requests were made in this life.
abbrev pub requests : Opening → List Entry → ℕ
requests opening past = length (filter is_request (life opening past))

-- How many packets a tick sends to the mirror at most: one, and one for each kept state.
abbrev pub most_copies : Opening → List Entry → ℕ
most_copies opening past = if has_mirror past then 1 + length (words_noted opening past).kept else 0

-- A tick sends at most one packet to each server for each request of this life, and those to the
-- mirror; any other call at most 8 packets.
abbrev pub most_packets : Opening → List Entry → PacketInput → ℕ
most_packets opening past Tick = opening.servers * requests opening past + most_copies opening past
most_packets opening past _ = MAX_SERVERS

-- A call sends no more packets than its bound says.
abbrev pub PacketsAreFew : Type 0
PacketsAreFew =
    (opening : Opening) (past : List Entry) (c : PacketInput) (left : SaveOutcome) →
    opening.servers ≤ MAX_SERVERS →
    length (packets opening past (Met c left)) ≤ most_packets opening past c

-- The frames are those of at most so many packets: 17 for each, of together 17,233 bytes.
pub record AreShort (most : ℕ) (frames : List (List ℕ)) : Type 0 where
  pub few : length frames ≤ MAX_FRAMES * most
  pub short : sum_by (λ frame. length frame) frames ≤ MAX_FRAMED * most

-- What a call sends is short, where what came is within its ranges.
abbrev pub FramesAreShort : Type 0
FramesAreShort =
    (opening : Opening) (past : List Entry) (c : PacketInput) (left : SaveOutcome) →
    OpensInRange opening → CameInRange (Met c left ∷ past) →
    AreShort (most_packets opening past c) (frame_bytes (packets opening past (Met c left)))

-- A call sends few packets, in few and short frames.
use Rattle.std.proofs.Common.{◌≡◌, refl, ℕ, zero, suc, ◌+◌, ◌≤◌, arith, Bool, true, false, ◌&&◌, List, [], ◌∷◌, ◌++◌, Option, None, Some, length, length-append}
use Rattle.std.specs.Prelude.{if◌then◌else◌, not, nat_lt, ◌*◌, flat_map}
use Rattle.std.specs.List.{AllByRecursion}
use Rattle.std.proofs.lemmas.List.{length-map}
use Rattle.std.proofs.lemmas.List.Sums.{sum_by-append}
use Rattle.fc_base.specs.declared.limits.TheConstants.{MAX_SERVERS}
use Rattle.fc_base.specs.Counted.{numbers_below}
use Rattle.messages.specs.declared.limits.TheConstants.{MAX_BODY}
use Rattle.messages.specs.declared.packet.PacketParts.{PacketParts}
use Rattle.messages.specs.declared.body.Body.{Body}
use Rattle.messages.specs.declared.body.Body.TheVariants as bodies
use Rattle.messages.specs.declared.kind.PacketKind.{PacketKind}
use Rattle.messages.specs.declared.kind.PacketKind.TheVariants as kinds
use Rattle.messages.specs.Bodies.{kind_of, length_of, length_limit}
use Rattle.messages.specs.FrameLaws.{FramesAreFew}
use Rattle.messages.specs.FramesOf.{spelled_frames}
use Rattle.messages.specs.Laws.{IsPacket, LengthsAreBounded}
use Rattle.messages.specs.Nodes.{node_number}
use Rattle.client_core.specs.Inputs.{PacketInput, Begin, Trigger, Stop, Verify, Deliver, Tick}
use Rattle.client_core.specs.declared.note.ClientNote.{ClientNote}
use Rattle.client_core.specs.Words.{words_noted, peers, has_mirror, is_answered}
use Rattle.verify_state.specs.StateTable.{kept_of}
use Rattle.verify_state.specs.State.{State}
use Rattle.client_core.specs.Life.{Deed, life, text_of}
use Rattle.client_core.specs.declared.beginning.Beginning.{Beginning}
use Rattle.client_core.specs.Begins.{begin_at}
use Rattle.client_core.specs.declared.beginning.Beginning.TheVariants as begins
use Rattle.client_core.specs.Packets.{to_mirror, copy_for, requests_again, fetch_again, is_copied, copy_again, copies_again}
use Rattle.client_core.specs.Packets.{to_server, to_all, start_for, jobs_once_more, lacks_jobs, replies, packets_for, packets}
use Rattle.client_core.specs.Bounds.{requests, most_copies, most_packets, AreShort, PacketsAreFew, FramesAreShort}
use Rattle.client_core.specs.Framed.{frame_bytes}
use Rattle.client_core.specs.History.{Opening, Entry, Met}
use Rattle.client_core.specs.Laws.{PacketsAreInRange}
use Rattle.client_core.proofs.DeliverLemmas.{body_of_packet}
use Rattle.client_core.proofs.AllTicksLemmas.{requests_again_few}

pub length_below : (n : ℕ) → length (numbers_below n) ≡ n
length_below zero = refl
length_below (suc n) = omega (arith, length-append (numbers_below n) (n ∷ []), length_below n)

each_server : (servers : ℕ) (body : Body) → servers ≤ MAX_SERVERS → length (to_all servers body) ≤ MAX_SERVERS
each_server servers body l = omega (arith, length-map (numbers_below servers) (to_server body), length_below servers)

start_one : (run s : ℕ) (b : Beginning) → length (start_for run s b) ≤ MAX_SERVERS
start_one run s begins.Staging = omega arith
start_one run s _ = omega arith

jobs_one : (run : ℕ) (text : List ℕ) (s : ℕ) (b : Beginning) → length (jobs_once_more run text s b) ≤ MAX_SERVERS
jobs_one run text s begins.Starting = omega arith
jobs_one run text s _ = omega arith

where_so : (b : Bool) (most : ℕ) (ps : List PacketParts) → length ps ≤ most → length (if b then ps else []) ≤ most
where_so true most ps h = h
where_so false most ps h = omega arith

copy_one : (mirror : Bool) (state : State) (x : Option State) → length (copy_for mirror state x) ≤ 1
copy_one true state None = omega arith
copy_one true state (Some k) = omega arith
copy_one false state x = omega arith

one_more : (p : PacketParts) (ps : List PacketParts) → length ps ≤ 1 → length (p ∷ ps) ≤ MAX_SERVERS
one_more p ps h = omega arith

replied : (mirror : Bool) (n : ClientNote) (deeds : List Deed) (s : ℕ) (body : Body) → length (replies mirror n deeds s body) ≤ MAX_SERVERS
replied mirror n deeds s (bodies.JobsOk run jobs) = start_one run s (begin_at run s deeds)
replied mirror n deeds s (bodies.State jobs state) = one_more (to_server (bodies.StateAck state.key.run state.key.job) s)
    (copy_for mirror state (kept_of state.key n.kept)) (copy_one mirror state (kept_of state.key n.kept))
replied mirror n deeds s (bodies.NoState run job jobs) = omega arith
replied mirror n deeds s (bodies.WantState run attempt job) = omega arith
replied mirror n deeds s (bodies.Refused r) = where_so (lacks_jobs r.asked r.reason) MAX_SERVERS
    (jobs_once_more r.run (text_of r.run deeds) s (begin_at r.run s deeds)) (jobs_one r.run (text_of r.run deeds) s (begin_at r.run s deeds))
replied mirror n deeds s _ = omega arith

-- what goes to the mirror is at most one packet and one for each state
copy_few : (deeds : List Deed) (states : List State) → length (flat_map (copy_again deeds) states) ≤ length states
copy_few deeds [] = omega arith
copy_few deeds (s ∷ states) =
    at_most (is_copied s.key deeds) (to_mirror (bodies.Copy s)) (flat_map (copy_again deeds) states) (length states) (copy_few deeds states)
  where
    at_most : (b : Bool) (p : PacketParts) (ps : List PacketParts) (n : ℕ) → length ps ≤ n → length ((if b then [] else p ∷ []) ++ ps) ≤ suc n
    at_most true p ps n h = omega arith
    at_most false p ps n h = omega arith

mirror_few : (m b : Bool) (g : ℕ) (states : List State) (deeds : List Deed)
    → length (if m && b then to_mirror (bodies.Fetch g) ∷ [] else []) + length (copies_again m states deeds) ≤ (if m then 1 + length states else 0)
mirror_few true true g states deeds = omega (arith, copy_few deeds states)
mirror_few true false g states deeds = omega (arith, copy_few deeds states)
mirror_few false b g states deeds = omega arith

together : (f r c : List PacketParts) (a b : ℕ) → length r ≤ a → length f + length c ≤ b → length (f ++ (r ++ c)) ≤ a + b
together f r c a b h k = omega (arith, length-append f (r ++ c), length-append r c)

called : (o : Opening) (past : List Entry) (c : PacketInput) → o.servers ≤ MAX_SERVERS
    → length (packets_for (peers o past) (words_noted o past) (life o past) c) ≤ most_packets o past c
called o past (Begin text) l = each_server o.servers (bodies.Jobs ((words_noted o past).runs + 1) text) l
called o past (Trigger run act) l = each_server o.servers (bodies.Trigger run act) l
called o past (Stop run) l = each_server o.servers (bodies.Stop run) l
called o past (Verify run text) l = each_server o.servers (bodies.Verify run ((words_noted o past).attempts + 1) text) l
called o past (Deliver p) l = replied (has_mirror past) (words_noted o past) (life o past) (node_number p.from) p.body
called o past Tick l =
    let f = fetch_again (peers o past) (words_noted o past).generation in
    let r = requests_again o.servers (life o past) in
    let c = copies_again (has_mirror past) (words_noted o past).kept (life o past) in
    together f r c (o.servers * requests o past) (most_copies o past) (requests_again_few o.servers (life o past))
    (mirror_few (has_mirror past) (nat_lt 0 (words_noted o past).generation && not (peers o past).granted) (words_noted o past).generation
    (words_noted o past).kept (life o past))

pub packets_are_few : PacketsAreFew
packets_are_few o past c left l =
    where_so (is_answered o past c left) (most_packets o past c) (packets_for (peers o past) (words_noted o past) (life o past) c) (called o past c l)

-- ---- the frames of packets

limited : (kind : PacketKind) → length_limit kind ≤ MAX_BODY
limited kinds.Jobs = omega arith
limited _ = omega arith

-- So many packets are as many times the frames of one.
all_short : FramesAreFew → LengthsAreBounded → (ps : List PacketParts) → AllByRecursion IsPacket ps → AreShort (length ps) (frame_bytes ps)
all_short few bounded [] h = record { few = omega arith; short = omega arith }
all_short few bounded (p ∷ ps) h =
    let one = few p h.0 in
    let rest = all_short few bounded ps h.1 in
    let frames = spelled_frames p in
    let long : length_of p.body ≤ MAX_BODY = omega (arith, bounded p.body (body_of_packet p h.0.in_range) h.0.state, limited (kind_of p.body)) in
    record {
      few = omega (arith, length-append frames (frame_bytes ps), one.few, rest.few);
      short = omega (arith, sum_by-append (λ (frame : List ℕ). length frame) frames (frame_bytes ps), one.few, one.total, rest.short);
    }

more : (few most : ℕ) (frames : List (List ℕ)) → few ≤ most → AreShort few frames → AreShort most frames
more few most frames l h = record { few = omega (arith, h.few); short = omega (arith, h.short) }

pub frames_are_short : PacketsAreFew → PacketsAreInRange → FramesAreFew → LengthsAreBounded → FramesAreShort
frames_are_short few ranges frames bounded o past c left i h =
    let ps = packets o past (Met c left) in
    more (length ps) (most_packets o past c) (frame_bytes ps) (few o past c left i.servers) (all_short frames bounded ps (ranges o past (Met c left) i h))

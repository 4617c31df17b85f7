-- The packets that a mirror sends are within their ranges, and their frames are short.
use Rattle.std.proofs.Common.{◌≡◌, refl, sym, subst, ℕ, ◌+◌, ◌*◌, ◌<◌, ◌≤◌, arith, Bool, true}
use Rattle.std.proofs.Common.{false, ◌&&◌, List, [], ◌∷◌, length, Option, None, Some, length-append}
use Rattle.std.specs.Prelude.{if◌then◌else◌, nat_lt, nat_le, ◌^◌, map, sum_by}
use Rattle.std.specs.List.{AllByRecursion}
use Rattle.std.proofs.lemmas.Bool.{and_parts}
use Rattle.std.proofs.lemmas.Bool.Decides.{nat_tests}
use Rattle.std.proofs.lemmas.List.Sums.{sum_by-append}
use Rattle.fc_base.specs.declared.limits.TheConstants.{MAX_JOBS, MAX_SERVERS}
use Rattle.fc_base.specs.Layouts.{bytes_of}
use Rattle.messages.specs.declared.limits.TheConstants.{CHUNK_LIMIT}
use Rattle.verify_state.specs.State.{State, IsState}
use Rattle.messages.specs.declared.packet.PacketParts.{PacketParts}
use Rattle.messages.specs.declared.body.Body.TheVariants as bodies
use Rattle.messages.specs.Bodies.{length_of}
use Rattle.messages.specs.FramesOf.{spelled_frames}
use Rattle.messages.specs.Laws.{IsPacket, LengthsAreBounded}
use Rattle.messages.specs.Packets.{spelling}
use Rattle.messages.specs.Ranges.{is_body}
use Rattle.mirror_core.specs.declared.note.MirrorNote.{MirrorNote}
use Rattle.mirror_core.specs.declared.request.Request.{Request}
use Rattle.mirror_core.specs.declared.request.Request.TheVariants.{Copy, Fetch}
use Rattle.mirror_core.specs.Bounds.{AreShort, FramesAreShort}
use Rattle.mirror_core.specs.History.{Met, Cut, Restart}
use Rattle.mirror_core.specs.Note.{IsNoted}
use Rattle.mirror_core.specs.Requests.{request_in, IsRequest}
use Rattle.mirror_core.specs.Words.{words_noted, is_answered}
use Rattle.mirror_core.specs.Packets.{to_client, copy_of, packets_for, frame_bytes}
use Rattle.mirror_core.specs.Laws.{NotesKeepRanges, PacketsAreInRange}
use Rattle.fc_base.proofs.ListLemmas.{map_of, all_where}
use Rattle.mirror_core.proofs.NotedLemmas.{in_entry}
use Rattle.mirror_core.proofs.RequestLemmas.{asked_range}

-- ---- ranges

copy_ok_fits : (s : State) → IsState s → is_body (bodies.CopyOk s.key.run s.key.server s.key.job) ≡ true
copy_ok_fits s k =
    let p = and_parts (nat_le 1 s.key.run && nat_lt s.key.server MAX_SERVERS) (nat_lt s.key.job MAX_JOBS) k.key in
    let q = and_parts (nat_le 1 s.key.run) (nat_lt s.key.server MAX_SERVERS) p.0 in
    let a : nat_le 1 s.key.run ≡ true = q.0 in
    let l : s.key.run < 2 ^ 64 = k.run in
    let w : nat_lt s.key.run (2 ^ 64) ≡ true = grind (arith, nat_tests) in
    let v : nat_lt s.key.server MAX_SERVERS ≡ true = q.1 in
    let j : nat_lt s.key.job MAX_JOBS ≡ true = p.1 in
    rw (a, w, v, j) refl

asked_in_range : (n : MirrorNote) (q : Option Request) → IsNoted n → ((r : Request) → q ≡ Some r → IsRequest r) → AllByRecursion IsPacket (packets_for n q)
asked_in_range n None i h = tt
asked_in_range n (Some (Copy s)) i h = (record { in_range = copy_ok_fits s (h (Copy s) refl); state = tt }, tt)
asked_in_range n (Some (Fetch g)) i h =
    (record { in_range = h (Fetch g) refl; state = tt }, map_of IsState IsPacket copy_of n.kept i.states (λ s k. record { in_range = refl; state = k }))

pub packets_are_in_range : NotesKeepRanges → PacketsAreInRange
packets_are_in_range ranges o past (Met f left) i h =
    let came = in_entry (Met f left) past h in
    all_where IsPacket (is_answered o past f left) (packets_for (words_noted o past) (request_in f))
    (λ a. asked_in_range (words_noted o past) (request_in f) (ranges o past i came.1) (λ r e. asked_range f left r came.0 e))
packets_are_in_range ranges o past Cut i h = tt
packets_are_in_range ranges o past Restart i h = tt

-- ---- frames

-- So many frames of at most 152 bytes.
record AreCopies (n : ℕ) (frames : List (List ℕ)) : Type 0 where
  count : length frames ≤ n
  total : sum_by (λ frame. length frame) frames ≤ 152 * n

copy_length : (s : State) → length (spelling (copy_of s)) ≡ 16 + length_of (bodies.Copy s)
unfolding bytes_of
copy_length s = omega arith

uncut : (s : State) → length_of (bodies.Copy s) ≤ 136 → spelled_frames (copy_of s) ≡ spelling (copy_of s) ∷ []
uncut s l = let e : nat_lt CHUNK_LIMIT (length_of (bodies.Copy s)) ≡ false = grind (arith, nat_tests) in rw e refl

one_copy : LengthsAreBounded → (s : State) → IsState s → AreCopies 1 (spelled_frames (copy_of s))
one_copy bounded s k =
    let few : length_of (bodies.Copy s) ≤ 136 = bounded (bodies.Copy s) refl k in
    let long = copy_length s in
    subst (AreCopies 1) (sym (uncut s few)) (record { count = omega arith; total = omega (arith, few, long) })

all_copies : LengthsAreBounded → (states : List State) → AllByRecursion IsState states → AreCopies (length states) (frame_bytes (map copy_of states))
all_copies bounded [] h = record { count = omega arith; total = omega arith }
all_copies bounded (s ∷ states) h =
    let first = one_copy bounded s h.0 in
    let rest = all_copies bounded states h.1 in
    let frames = spelled_frames (copy_of s) in
    let more = frame_bytes (map copy_of states) in
    record {
      count = omega (arith, length-append frames more, first.count, rest.count);
      total = omega (arith, sum_by-append (λ (frame : List ℕ). length frame) frames more, first.total, rest.total);
    }

one_grant : (g : ℕ) → sum_by (λ frame. length frame) (spelled_frames (to_client (bodies.Granted g))) ≡ 24
unfolding bytes_of
one_grant g = refl

one_ok : (run server job : ℕ) → sum_by (λ frame. length frame) (frame_bytes (to_client (bodies.CopyOk run server job) ∷ [])) ≡ 32
unfolding bytes_of
one_ok run server job = refl

no_frames : AreShort []
no_frames = record { few = omega arith; short = omega arith }

asked_short : LengthsAreBounded → (n : MirrorNote) (q : Option Request) → IsNoted n → AreShort (frame_bytes (packets_for n q))
asked_short bounded n None i = no_frames
asked_short bounded n (Some (Copy s)) i = record { few = omega arith; short = omega (arith, one_ok s.key.run s.key.server s.key.job) }
asked_short bounded n (Some (Fetch g)) i =
    let grant = spelled_frames (to_client (bodies.Granted g)) in
    let copies = frame_bytes (map copy_of n.kept) in
    let c = all_copies bounded n.kept i.states in
    record {
      few = omega (arith, length-append grant copies, c.count, i.count);
      short = omega (arith, sum_by-append (λ (frame : List ℕ). length frame) grant copies, one_grant g, c.total, i.count);
    }

short_where : (b : Bool) (ps : List PacketParts) → AreShort (frame_bytes ps) → AreShort (frame_bytes (if b then ps else []))
short_where true ps h = h
short_where false ps h = no_frames

pub frames_are_short : NotesKeepRanges → LengthsAreBounded → FramesAreShort
frames_are_short ranges bounded o past (Met f left) i h =
    short_where (is_answered o past f left) (packets_for (words_noted o past) (request_in f))
    (asked_short bounded (words_noted o past) (request_in f) (ranges o past i (in_entry (Met f left) past h).1))
frames_are_short ranges bounded o past Cut i h = no_frames
frames_are_short ranges bounded o past Restart i h = no_frames

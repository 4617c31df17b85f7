use Rattle.std.proofs.Common.{◌≡◌, ◌+◌, ◌*◌, ◌≤◌, ◌++◌, ℕ, List, length, arith}
use Rattle.std.specs.Prelude.{sum_by, All}
use Rattle.std.proofs.lemmas.List.{length-append}
use Rattle.std.proofs.lemmas.List.Elements.{All-append}
use Rattle.std.proofs.lemmas.List.Sums.{sum_by-append}
use Rattle.messages.specs.declared.packet.PacketParts.{PacketParts}
use Rattle.messages.specs.Bodies.{length_of}
use Rattle.messages.specs.Laws.{IsPacket}
use Rattle.messages.specs.FramesOf.{spelled_frames, AreFew}
use Rattle.messages.specs.NetworkLaws.{FramesAreSpelled}
use Rattle.messages.specs.Network.{IsSpelled}
use Rattle.base_tests.proofs.tests.network.frames_to.Goals as goal

-- The frames with those of one packet more, whose body has 8 bytes.
more : FramesAreSpelled → (p : PacketParts) (old frames new : List (List ℕ)) (i : ℕ) → IsPacket p → length_of p.body ≡ 8 → frames ≡ spelled_frames p
    → AreFew p frames → new ≡ old ++ frames
    → All IsSpelled old → length old ≤ 17 * i → sum_by (λ (frame : List ℕ). length frame) old ≤ 841 * i
    → All IsSpelled new × (length new ≤ 17 * (i + 1)) × (sum_by (λ (frame : List ℕ). length frame) new ≤ 841 * (i + 1))
more law p old frames new i is len frames_are few new_is spelled long bytes =
    rw new_is (
      All-append IsSpelled old frames spelled (rw frames_are (law p is)),
      omega (arith, length-append old frames, long, few.few),
      omega (arith, sum_by-append (λ (frame : List ℕ). length frame) old frames, bytes, few.total, few.few, len),
    )

pub loop-to-preserved : goal.loop-to-preserved
loop-to-preserved c =
    more c.frames_are_spelled.ensures c.in-Some.packet c.loop-to.frames c.in_ok-more.more c.append.new.self c.loop-to.to-index c.keeps_its_ranges.ensures
    c.in-Some.ensures
    c.in_ok-more.ensures.spelling c.in_ok-more.ensures.few c.in_ok-append.ensures.appended c.loop-to.invariant.0 c.loop-to.invariant.1 c.loop-to.invariant.2

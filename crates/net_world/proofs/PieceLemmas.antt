-- A state that is held in a trace of frames is the one that was taken.
use Rattle.std.proofs.Common.{◌≡◌, sym, ◌∙◌, subst, ◌⊎◌, inl, inr, List, [], ◌∷◌}
use Rattle.std.specs.Prelude.{Contains}
use Rattle.messages.specs.declared.packet.PacketParts.{PacketParts}
use Rattle.messages.specs.declared.piece.PieceParts.{PieceParts}
use Rattle.messages.specs.declared.frame.Frame.TheVariants.{Piece}
use Rattle.messages.specs.Assemblies.{Look, Waits, Gives, look_at_piece}
use Rattle.messages.specs.PieceLaws.{ArePackets, OneBodyOfEachTag, WasSent, OnlySentComesTogether, all_taken}
use Rattle.net_world.specs.Trace.{sent_packets}
use Rattle.net_world.specs.Holders.{ByPacket}
use Rattle.net_world.specs.Frames.{trace_heard}
use Rattle.net_world.specs.InRange.{SentAreInRange}
use Rattle.net_world.specs.FrameLaws.{FramesAreOfPackets, TagsNameOneBody, OnlySentIsHeard}
use Rattle.net_world.specs.Claims.{OfEachTrace, OfEachFrameTrace, OfTheHeard}
use Rattle.net_world.specs.Headline.{HeldIsTheTaken, PiecesHoldTheTaken}
use Rattle.net_world.proofs.OnlySentLemmas.{IsFrameOf, frame_is, heard_fits}
use Rattle.fc_base.proofs.ListLemmas.{first_of, behind_one}

pub heard_is_the_taken : OnlySentIsHeard → OfEachTrace HeldIsTheTaken → OfEachFrameTrace (OfTheHeard HeldIsTheTaken)
heard_is_the_taken heard one w t h fits = one w (trace_heard w t) (heard w t h fits)

all_sent : OnlySentComesTogether → (ps : List PacketParts) → ArePackets ps → OneBodyOfEachTag ps → (qs : List PieceParts)
    → ((q : PieceParts) → Contains qs q → IsFrameOf ps (Piece q)) → WasSent ps (all_taken [] qs)
all_sent law ps are one [] f = tt
all_sent law ps are one (q ∷ qs) f =
    let w = all_sent law ps are one qs (λ x i. f x (behind_one q qs x i)) in
    let i = f q (first_of q qs) in
    (law ps are one (all_taken [] qs) w i.0 i.1 q i.2).1

given_sent : (ps : List PacketParts) (p q : PacketParts) → Contains ps p → (x : Look) → (x ≡ Waits) ⊎ (x ≡ Gives p) → x ≡ Gives q → Contains ps q
given_sent ps p q i x (inl e) g = let no : Waits ≡ Gives q = sym e ∙ g in absurd cc
given_sent ps p q i x (inr e) g = let same : Gives p ≡ Gives q = sym e ∙ g in let p_is : p ≡ q = cc in subst (Contains ps) p_is i

pub pieces_hold_the_taken : OnlySentComesTogether → FramesAreOfPackets → TagsNameOneBody → SentAreInRange → OnlySentIsHeard → OfEachTrace HeldIsTheTaken
    → OfEachFrameTrace PiecesHoldTheTaken
pieces_hold_the_taken law frames tags ranges heard one w t h fits key state k =
    let ps = sent_packets w (trace_heard w t) in
    let trace = heard w t h fits in
    let are = ranges w (trace_heard w t) trace (heard_fits w t fits) in
    let single = tags w (trace_heard w t) trace are in
    let others = all_sent law ps are single k.others (λ q i. frame_is frames w t (Piece q) (k.each q (behind_one k.last k.others q i))) in
    let i = frame_is frames w t (Piece k.last) (k.each k.last (first_of k.last k.others)) in
    let told = law ps are single (all_taken [] k.others) others i.0 i.1 k.last i.2 in
    let was : Contains ps k.packet = given_sent ps i.0 k.packet i.1 (look_at_piece (all_taken [] k.others) k.last) told.0 k.together in
    one w (trace_heard w t) trace key state (ByPacket k.packet was k.state_is k.key_is)

-- The frames of a packet are spelled.
use Rattle.std.proofs.Common.{refl}
use Rattle.std.proofs.lemmas.List.Elements.{All-map, All-weaker}
use Rattle.messages.specs.FrameBytes.{frame_spelling}
use Rattle.messages.specs.FrameLaws.{IsReadable, FramesAreReadable}
use Rattle.messages.specs.Pieces.{frames_of}
use Rattle.messages.specs.Network.{IsSpelled}
use Rattle.messages.specs.NetworkLaws.{FramesAreSpelled}

pub frames_spelled : FramesAreReadable → FramesAreSpelled
frames_spelled law p h =
    All-map IsSpelled frame_spelling (frames_of p)
    (All-weaker IsReadable (λ f. IsSpelled (frame_spelling f)) (λ f fit. record { frame = f; in_range = fit.in_range; is_short = fit.is_short; spelled = refl })
    (frames_of p) (law p h))

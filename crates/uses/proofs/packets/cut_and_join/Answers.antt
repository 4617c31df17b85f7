use Rattle.std.proofs.Common.{◌∙◌, ap, [], map}
use Rattle.std.proofs.lemmas.List.Elements.{All-contains_itself}
use Rattle.messages.specs.FrameBytes.{frame_at}
use Rattle.messages.specs.Pieces.{frames_of}
use Rattle.uses.proofs.GivenLemmas.{first, read_back}
use Rattle.uses.proofs.packets.cut_and_join.Goals as goal

pub returns : goal.returns
returns c =
    let p = c.args.packet.now in
    let ranges = c.keeps_its_ranges.ensures in
    c.first_packet.ensures.whole p (frames_of p) ranges
    (ap (map frame_at) c.in-Ok.ensures.spelling ∙ read_back c.frames_are_read_back.ensures (frames_of p) (c.frames_are_readable.ensures p ranges))
    (λ f is. (p, first p [], is)) (All-contains_itself (frames_of p))

-- The body of a packet is in its ranges.
use Rattle.std.proofs.Common.{◌≡◌, true, ◌&&◌}
use Rattle.std.proofs.lemmas.Bool.{and_parts}
use Rattle.messages.specs.declared.packet.PacketParts.{PacketParts}
use Rattle.messages.specs.Nodes.{is_node}
use Rattle.messages.specs.Ranges.{is_body}
use Rattle.messages.specs.Laws.{IsPacket}

pub body_in_range : (p : PacketParts) → IsPacket p → is_body p.body ≡ true
body_in_range p h = (and_parts (is_node p.from && is_node p.to) (is_body p.body) h.in_range).1

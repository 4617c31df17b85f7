use Rattle.std.proofs.Common.{refl, ◌∙◌}
use Rattle.messages.proofs.BodyLemmas.{body_at-in_range}
use Rattle.messages.proofs.Joining.{piece_ends}
use Rattle.messages.proofs.LookLemmas.{is_same, gives_packet}
use Rattle.messages.proofs.assembly.packet_of.Goals as goal

pub new-requires : goal.new-requires
new-requires c =
    let q = c.args.piece.now in
    let ends = piece_ends q c.keeps_its_ranges.ensures in
    rw (c.from.ensures, c.to.ensures, ends.0, ends.1, body_at-in_range c.tag-tag.result.whole c.args.bytes.now c.in-Ok.body c.in-Ok.ensures) refl

pub returns : goal.returns
returns c =
    let q = c.args.piece.now in
    gives_packet q c.args.bytes.now c.in-Ok.body c.new.result
    (record {
      tag = c.tag-tag.result;
      tag_is = c.tag-tag.ensures;
      read = c.in-Ok.ensures;
      own = c.tag.result;
      own_is = c.tag.ensures;
      same = is_same c.ne.result _ c.ne.ensures c.if-ne.false;
    })
    (c.new.ensures ∙ rw (c.from.ensures, c.to.ensures) refl)

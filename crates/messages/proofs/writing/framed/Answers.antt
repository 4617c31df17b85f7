use Rattle.std.proofs.Common.{◌≡◌, ◌++◌, length, refl, arith, ap, ◌∙◌}
use Rattle.std.proofs.lemmas.List.{length-append}
use Rattle.messages.specs.Bodies.{spelled_body}
use Rattle.messages.specs.Packets.{header_of}
use Rattle.messages.proofs.BodyLemmas.{length-spelled_body}
use Rattle.messages.proofs.FrameLemmas.{length_fits, length-header_of}
use Rattle.messages.proofs.writing.framed.Goals as goal

pub returns-clause-len : goal.returns-clause-len
returns-clause-len c =
    let p = c.args.packet.now in
    let head : c.put_header.new.out.items ≡ header_of p.from p.to p.body 0 =
    c.in_ok-put_header.ensures ∙ rw (c.new-out.ensures.items, c.kind.ensures, c.from.ensures, c.to.ensures) refl in
    let whole : c.put_body.new.out.items ≡ header_of p.from p.to p.body 0 ++ spelled_body p.body =
    c.in_ok-put_body.ensures ∙ rw (head, c.body.ensures) refl in (
      omega (
        arith,
        ap length whole,
        length-append (header_of p.from p.to p.body 0) (spelled_body p.body),
        length-header_of p.from p.to p.body 0,
        length-spelled_body p.body,
      ),
      length_fits c.one_spelling.ensures.reads_back p c.keeps_its_ranges.ensures,
    )

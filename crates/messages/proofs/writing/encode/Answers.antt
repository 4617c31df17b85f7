use Rattle.std.proofs.Common.{◌≡◌, ◌-◌, length, ap, ◌∙◌, arith}
use Rattle.std.proofs.lemmas.List.{take_at, length-append}
use Rattle.messages.specs.Bodies.{spelled_body, length_of}
use Rattle.messages.specs.Packets.{header_of, spelling}
use Rattle.messages.proofs.BodyLemmas.{length-spelled_body}
use Rattle.messages.proofs.FrameLemmas.{header_of-len, length-header_of}
use Rattle.messages.proofs.writing.encode.Goals as goal

pub returns-clause-spelling : goal.returns-clause-spelling
returns-clause-spelling c =
    let p = c.args.packet.now in
    let items = c.deref_mut.ensures.value ∙ c.in_ok-out.ensures.bytes in
    let n : c.len.result - 16 ≡ length_of p.body = omega (arith, c.deref_mut.ensures.len, c.len.ensures, c.in_ok-out.ensures.len.0) in
    let frame : c.put_len.new.frame ≡ spelling p =
    c.put_len.ensures ∙ rw (items, n) (header_of-len p.from p.to p.body (length_of p.body) (spelled_body p.body)) in
    let len : length c.put_len.new.frame ≡ c.in_ok-out.out.len =
    omega (
      arith,
      ap length frame,
      length-append (header_of p.from p.to p.body (length_of p.body)) (spelled_body p.body),
      length-header_of p.from p.to p.body (length_of p.body),
      length-spelled_body p.body,
      c.deref_mut.ensures.len,
      ap length c.deref_mut.ensures.value,
      c.in_ok-out.ensures.len.0,
    ) in
    take_at c.put_len.new.frame _ c.in_ok-out.out.len len ∙ frame

use Rattle.std.proofs.Common.{◌≡◌, List, map, Some, Ok, ap, subst, arith}
use Rattle.std.specs.Prelude.{IfNone}
use Rattle.messages.specs.declared.frame.Frame.{Frame}
use Rattle.messages.specs.Assemblies.{look_at_frame, LookAnswers}
use Rattle.messages.specs.FrameBytes.{frame_at}
use Rattle.messages.specs.PieceLaws.{left_by}
use Rattle.uses.proofs.CameLemmas.{came_at, is_in, given_was_sent, given_is_it, gives_nothing, as_many, not_nothing, nothing, one_more}
use Rattle.uses.proofs.packets.first_packet.Goals as goal

pub loop-index-init : goal.loop-index-init
loop-index-init c = λ came says. nothing came _ c.new-assembly.ensures

pub returns-in-Some-2 : goal.returns-in-Some-2
returns-in-Some-2 c =
    let frame = c.in_ok-frame.frame in
    let rows = c.loop-index.assembly in
    let gives = subst (λ p. LookAnswers (Ok p) (look_at_frame rows frame)) c.in-Some-2.is c.in_ok-packet.ensures.given in
    let here = λ (came : List Frame) (says : map frame_at c.args.frames.now ≡ map Some came).
    is_in came c.loop-index.index frame (came_at c.args.frames.now came c.loop-index.index c.in-Some.bytes.now frame says
    c.in-Some.ensures c.in_ok-frame.ensures.answer.1) in
    record {
      sent = λ sent came packets tags says frames. given_was_sent sent came c.loop-index.index rows frame c.in-Some-2.packet
          c.only_sent_comes_together.ensures.all packets tags frames (c.loop-index.invariant came says) (here came says) gives;
      whole = λ p came ranges says frames all. ap Some (given_is_it p came c.loop-index.index rows frame c.in-Some-2.packet
          c.only_sent_comes_together.ensures.all ranges frames (c.loop-index.invariant came says) (here came says) gives);
    }

pub loop-index-preserved : goal.loop-index-preserved
loop-index-preserved c = λ came says.
    let frame = c.in_ok-frame.frame in
    let here = came_at c.args.frames.now came c.loop-index.index c.in-Some.bytes.now frame says c.in-Some.ensures c.in_ok-frame.ensures.answer.1 in
    let waits = gives_nothing (look_at_frame c.loop-index.assembly frame)
    (subst (λ p. LookAnswers (Ok p) (look_at_frame c.loop-index.assembly frame)) c.in_default-2.is c.in_ok-packet.ensures.given) in
    one_more came c.loop-index.index c.loop-index.assembly c.take_frame.new.assembly frame (c.loop-index.invariant came says) here waits
    (subst (λ p. IfNone p (c.take_frame.new.assembly ≡ left_by c.loop-index.assembly frame)) c.in_default-2.is c.in_ok-packet.ensures.left)

-- All frames of a packet came: one of them gave it.
pub returns : goal.returns
returns c = record {
  sent = λ sent came packets tags says frames. tt;
  whole = λ p came ranges says frames all. absurd (not_nothing p came c.loop-index.index c.loop-index.assembly
      c.pieces_come_together.ensures.packet ranges frames all
      (c.loop-index.invariant came says) (omega (arith, as_many c.args.frames.now came says, c.loop-index-test.false, c.len-index-end.ensures)));
}

pub returns-in_default : goal.returns-in_default
returns-in_default c = record {
  sent = λ sent came packets tags says frames. tt;
  whole = λ p came ranges says frames all. absurd (not_nothing p came c.loop-index.index c.loop-index.assembly
      c.pieces_come_together.ensures.packet ranges frames all
      (c.loop-index.invariant came says) (omega (arith, as_many c.args.frames.now came says, c.in_default.ensures)));
}

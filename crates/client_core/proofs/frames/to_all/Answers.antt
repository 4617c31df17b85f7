use Rattle.std.proofs.Common.{◌≡◌, suc, ◌+◌, refl, sym, subst, ◌∙◌, ap, ◌∷◌, [], ◌++◌, arith, true}
use Rattle.messages.specs.Ranges.{is_body}
use Rattle.client_core.specs.Framed.{frame_bytes}
use Rattle.client_core.specs.Packets.{to_server, to_all}
use Rattle.client_core.proofs.FrameLemmas.{framed_all}
use Rattle.client_core.proofs.frames.to_all.Goals as goal

pub loop-server-init : goal.loop-server-init
loop-server-init c = (refl, c.new-frames.ensures)

pub say-requires-clause-body : goal.say-requires-clause-body
say-requires-clause-body c = subst (λ b. is_body b ≡ true) (sym c.loop-server.invariant.0) c.requires.body

pub loop-server-preserved : goal.loop-server-preserved
loop-server-preserved c =
    let next : c.loop-server.server + 1 ≡ suc c.loop-server.server = omega arith in (
      c.in_ok-body.ensures.back ∙ c.loop-server.invariant.0,
      framed_all c.loop-server.server (c.loop-server.server + 1) next c.args.body c.loop-server.frames c.say.new.frames c.loop-server.invariant.1
          (c.in_ok-body.ensures.said ∙ ap (λ b. c.loop-server.frames ++ frame_bytes (to_server b c.loop-server.server ∷ [])) c.loop-server.invariant.0),
    )

pub returns : goal.returns
returns c =
    let all : c.loop-server.server ≡ c.args.servers = omega (arith, c.loop-server-test.false, c.loop-server.auto.server-end) in
    subst (λ k. c.loop-server.frames ≡ frame_bytes (to_all k c.args.body)) all c.loop-server.invariant.1

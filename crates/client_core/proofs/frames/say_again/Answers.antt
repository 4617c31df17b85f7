use Rattle.std.proofs.Common.{◌≡◌, suc, ◌+◌, refl, sym, subst, ◌∙◌, ap, ◌∷◌, [], ◌++◌, arith, true}
use Rattle.std.specs.Prelude.{if◌then◌else◌}
use Rattle.std.specs.List.{flat_map}
use Rattle.fc_base.specs.Counted.{numbers_below}
use Rattle.messages.specs.Ranges.{is_body}
use Rattle.client_core.specs.Framed.{frame_bytes}
use Rattle.client_core.specs.Packets.{to_server, packets_again}
use Rattle.std.proofs.lemmas.Option.{slice_get-get_or}
use Rattle.client_core.proofs.FrameLemmas.{framed_each, none_yet, again_if}
use Rattle.client_core.proofs.frames.say_again.Goals as goal

pub loop-server-init : goal.loop-server-init
loop-server-init c = (refl, λ at h. none_yet c.args.frames.now)

pub say_if-requires-clause-body : goal.say_if-requires-clause-body
say_if-requires-clause-body c = subst (λ b. is_body b ≡ true) (sym c.loop-server.invariant.0) c.requires.body

pub loop-server-preserved : goal.loop-server-preserved
loop-server-preserved c = (
  c.in_ok-body.ensures.back ∙ c.loop-server.invariant.0,
  λ at h.
      let s = c.loop-server.server in
      let next : c.loop-server.server + 1 ≡ suc c.loop-server.server = omega arith in
      let opened = c.is_open-is_open.ensures (at s) (h s _ (slice_get-get_or c.args.standings.now s _ (omega arith))) in
      framed_each (λ k. packets_again c.args.body k (at k)) s (c.loop-server.server + 1) next c.args.frames.now c.loop-server.frames c.say_if.new.frames
      (c.loop-server.invariant.1 at h)
      (c.in_ok-body.ensures.said
      ∙ ap (λ b. c.loop-server.frames ++ frame_bytes (if c.is_open-is_open.result then to_server b s ∷ [] else [])) c.loop-server.invariant.0
      ∙ ap (λ o. c.loop-server.frames ++ frame_bytes (if o then to_server c.args.body s ∷ [] else [])) opened
      ∙ ap (λ ps. c.loop-server.frames ++ frame_bytes ps) (sym (again_if c.args.body s (at s)))),
)

pub returns : goal.returns
returns c = λ at h.
    let all : c.loop-server.server ≡ c.args.servers = omega (arith, c.loop-server-test.false, c.loop-server.auto.server-end) in
    subst (λ k. c.loop-server.frames ≡ c.args.frames.now ++ frame_bytes (flat_map (λ s. packets_again c.args.body s (at s)) (numbers_below k))) all
    (c.loop-server.invariant.1 at h)

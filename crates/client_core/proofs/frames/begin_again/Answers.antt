use Rattle.std.proofs.Common.{◌≡◌, suc, ◌+◌, ◌∙◌, ap, subst, ◌++◌, arith}
use Rattle.std.specs.List.{flat_map}
use Rattle.fc_base.specs.Counted.{numbers_below}
use Rattle.client_core.specs.Framed.{frame_bytes}
use Rattle.client_core.specs.Packets.{begin_again}
use Rattle.std.proofs.lemmas.Option.{slice_get-get_or}
use Rattle.client_core.proofs.FrameLemmas.{framed_each, none_yet}
use Rattle.client_core.proofs.frames.begin_again.Goals as goal

pub loop-server-init : goal.loop-server-init
loop-server-init c = λ at h. none_yet c.args.frames.now

pub loop-server-preserved : goal.loop-server-preserved
loop-server-preserved c = λ at h.
    let s = c.loop-server.server in
    let next : c.loop-server.server + 1 ≡ suc c.loop-server.server = omega arith in
    framed_each (λ k. begin_again c.args.run c.args.text.now k (at k)) s
    (c.loop-server.server + 1) next c.args.frames.now c.loop-server.frames c.begin_at_server.new.frames (c.loop-server.invariant at h)
    (c.in_ok-begin_at_server.ensures ∙ ap (λ b. c.loop-server.frames ++ frame_bytes (begin_again c.args.run c.args.text.now s b))
    (h s _ (slice_get-get_or c.args.begins.now s _ (omega arith))))

pub returns : goal.returns
returns c = λ at h.
    let all : c.loop-server.server ≡ c.args.servers = omega (arith, c.loop-server-test.false, c.loop-server.auto.server-end) in
    subst (λ k. c.loop-server.frames ≡ c.args.frames.now ++ frame_bytes (flat_map (λ s. begin_again c.args.run c.args.text.now s (at s)) (numbers_below k))) all
    (c.loop-server.invariant at h)

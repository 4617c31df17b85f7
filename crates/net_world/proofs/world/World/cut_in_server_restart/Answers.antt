use Rattle.std.proofs.Common.{refl, sym, ◌∙◌, ap, ◌<◌, arith, length, List, ℕ}
use Rattle.std.proofs.lemmas.Result.{err_from_is_err_and}
use Rattle.std.proofs.lemmas.Bool.{ltb-true, ltb-false}
use Rattle.messages.specs.declared.node.Node.TheVariants as nodes
use Rattle.server_core.specs.Hearing as hearing
use Rattle.net_world.specs.Trace.{opening_of}
use Rattle.net_world.specs.Happenings.{Restart, CutIn}
use Rattle.node.specs.Kinds.{lost_by}
use Rattle.net_world.specs.Serving.{entries}
use Rattle.net_world.proofs.MetLemmas.{in_place, none_added}
use Rattle.net_world.proofs.ServeLemmas.{node_at, settled}
use Rattle.net_world.proofs.EndsLemmas.{refuses, stops}
use Rattle.net_world.proofs.PlainLemmas.{plain_ends, none_on, may_restart}
use Rattle.net_world.proofs.CutEndsLemmas.{restart_cut_plain, restart_cut_ends}
use Rattle.net_world.proofs.world.World.cut_in_server_restart.Goals as goal

pub returns-then-not-has_server : goal.returns-then-not-has_server
returns-then-not-has_server c w past stands =
    let l = ltb-false c.args.server (length c.args.self.now.servers.items) (sym c.has_server.ensures ∙ c.if-not-has_server.true) in
    let e = CutIn c.args.landed (Restart (nodes.Server c.args.server)) in
    refuses w past e _ c.args.self.now refl (stops w past e _ (none_on w past c.args.server (omega (arith, stands.number, l)))) stands

pub returns-in_default : goal.returns-in_default
returns-in_default c w past stands = (refl, settled w past c.args.self.now _ stands c.settle.ensures.same refl refl refl refl)

pub returns : goal.returns
returns c w past stands =
    let s = c.args.server in
    let l = ltb-true s (length c.args.self.now.servers.items) (sym c.has_server.ensures ∙ c.if-not-has_server.false) in
    let below : s < w.servers = omega (arith, stands.number, l) in
    let at = node_at c.args.self.now.servers.items s c.server.inside.0 c.index_mut-node.result.now c.server.view_is l c.index_mut-node.ensures.value in
    let h = c.in_ok-cut_in_restart.ensures (opening_of s) (entries past s) refl (stands.servers_are s c.index_mut-node.result.now at) in
    plain_ends w past s (CutIn c.args.landed (Restart (nodes.Server s)))
    (hearing.Restart (lost_by c.args.landed)) c.cut_in_restart.new.node c.in-Ok.first c.plain.result c.args.self.now _ stands
    (in_place l c.server.view_is refl (none_added c.settle.ensures.same) refl refl refl)
    h.2
    (restart_cut_plain w past s c.args.landed (may_restart w past s below h.0) h.1)
    (c.in-Ok.ensures.first ∙ ap (λ (fs : List (List ℕ)). length fs) c.settle.ensures.same)
    c.plain.ensures

pub returns-in_err-cut_in_restart : goal.returns-in_err-cut_in_restart
returns-in_err-cut_in_restart c w past stands =
    let s = c.args.server in
    let l = ltb-true s (length c.args.self.now.servers.items) (sym c.has_server.ensures ∙ c.if-not-has_server.false) in
    let at = node_at c.args.self.now.servers.items s c.server.inside.0 c.index_mut-node.result.now c.server.view_is l c.index_mut-node.ensures.value in
    let p = err_from_is_err_and c.from_residual.result c.from_residual.ensures.1 in
    rw (p.1, p.2)
    (restart_cut_ends w past s c.args.landed c.cut_in_restart.new.node c.in_err-cut_in_restart.field-0.0 c.args.self.now _ stands
    (in_place l c.server.view_is refl (none_added c.settle.ensures.same) refl refl refl)
    (omega (arith, stands.number, l))
    (c.in_err-cut_in_restart.ensures (opening_of s) (entries past s) refl (stands.servers_are s c.index_mut-node.result.now at)))

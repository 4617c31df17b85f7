use Rattle.std.proofs.Common.{refl, sym, ◌∙◌, ap, arith, length, List, ℕ}
use Rattle.std.proofs.lemmas.Bool.{ltb-true, ltb-false}
use Rattle.net_world.specs.Trace.{opening_of}
use Rattle.net_world.specs.Happenings.{Cut}
use Rattle.net_world.specs.Serving.{entries}
use Rattle.server_core.specs.Hearing as hearing
use Rattle.messages.specs.declared.node.Node.TheVariants as nodes
use Rattle.net_world.proofs.MetLemmas.{in_place, none_added}
use Rattle.net_world.proofs.ServeLemmas.{node_at, none_there, is_off, is_there, settled}
use Rattle.net_world.proofs.EndsLemmas.{refuses, stops}
use Rattle.net_world.proofs.PlainLemmas.{plain_ends, cut_plain}
use Rattle.net_world.proofs.world.World.cut_server.Goals as goal

pub returns-then-not-has_server : goal.returns-then-not-has_server
returns-then-not-has_server c w past stands =
    let l = ltb-false c.args.server (length c.args.self.now.servers.items) (sym c.has_server.ensures ∙ c.if-not-has_server.true) in
    let e = Cut (nodes.Server c.args.server) in
    refuses w past e _ c.args.self.now refl (stops w past e _ (none_there w past c.args.server (omega (arith, stands.number, l)))) stands

pub returns-then-not-runs : goal.returns-then-not-runs
returns-then-not-runs c w past stands =
    let s = c.args.server in
    let l = ltb-true s (length c.args.self.now.servers.items) (sym c.has_server.ensures ∙ c.if-not-has_server.false) in
    let at = node_at c.args.self.now.servers.items s c.server.inside.0 c.index.result.now c.server.view_is l c.index.ensures in
    let up = c.runs.ensures (opening_of s) (entries past s) (stands.servers_are s c.index.result.now at) in
    let e = Cut (nodes.Server s) in
    refuses w past e _ c.args.self.now refl (stops w past e _ (is_off w past s (omega (arith, stands.number, l)) (sym up ∙ c.if-not-runs.true))) stands

pub returns-in_default : goal.returns-in_default
returns-in_default c w past stands = (refl, settled w past c.args.self.now _ stands c.settle.ensures.same refl refl refl refl)

pub returns : goal.returns
returns c w past stands =
    let s = c.args.server in
    let l = ltb-true s (length c.args.self.now.servers.items) (sym c.has_server.ensures ∙ c.if-not-has_server.false) in
    let at = node_at c.args.self.now.servers.items s c.server.inside.0 c.index.result.now c.server.view_is l c.index.ensures in
    let up = c.runs.ensures (opening_of s) (entries past s) (stands.servers_are s c.index.result.now at) in
    let again = node_at c.args.self.now.servers.items s c.server.inside.0 c.index_mut.result.now c.server.view_is l c.index_mut.ensures.value in
    plain_ends w past s (Cut (nodes.Server s)) hearing.Cut c.cut.new.node c.in-Ok.first c.plain.result c.args.self.now _ stands
    (in_place l c.server.view_is refl (none_added c.settle.ensures.same) refl refl refl)
    (c.cut.ensures (opening_of s) (entries past s) (stands.servers_are s c.index_mut.result.now again))
    (cut_plain w past s (is_there w past s (omega (arith, stands.number, l)) (sym up ∙ c.if-not-runs.false)))
    (c.in-Ok.ensures.first ∙ ap (λ (fs : List (List ℕ)). length fs) c.settle.ensures.same)
    c.plain.ensures

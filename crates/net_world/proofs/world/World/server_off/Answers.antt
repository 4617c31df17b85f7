use Rattle.std.proofs.Common.{sym, ◌∙◌, arith, length}
use Rattle.std.proofs.lemmas.Bool.{ltb-true, ltb-false}
use Rattle.net_world.specs.Trace.{opening_of}
use Rattle.net_world.specs.Serving.{entries}
use Rattle.net_world.proofs.ServeLemmas.{node_at, none_there, is_off, is_there}
use Rattle.net_world.proofs.world.World.server_off.Goals as goal

pub returns-then-not-has_server-clause-why : goal.returns-then-not-has_server-clause-why
returns-then-not-has_server-clause-why c w past stands =
    let l = ltb-false c.args.server (length c.args.self.now.servers.items) (sym c.has_server.ensures ∙ c.if-not-has_server.true) in
    sym (none_there w past c.args.server (omega (arith, stands.number, l)))

pub returns-then-runs-clause-why : goal.returns-then-runs-clause-why
returns-then-runs-clause-why c w past stands =
    let s = c.args.server in
    let l = ltb-true s (length c.args.self.now.servers.items) (sym c.has_server.ensures ∙ c.if-not-has_server.false) in
    let at = node_at c.args.self.now.servers.items s c.server.inside.0 c.index.result.now c.server.view_is l c.index.ensures in
    sym (is_there w past s (omega (arith, stands.number, l))
    (sym (c.runs.ensures (opening_of s) (entries past s) (stands.servers_are s c.index.result.now at)) ∙ c.if-runs.true))

pub returns-else-runs-clause-why : goal.returns-else-runs-clause-why
returns-else-runs-clause-why c w past stands =
    let s = c.args.server in
    let l = ltb-true s (length c.args.self.now.servers.items) (sym c.has_server.ensures ∙ c.if-not-has_server.false) in
    let at = node_at c.args.self.now.servers.items s c.server.inside.0 c.index.result.now c.server.view_is l c.index.ensures in
    sym (is_off w past s (omega (arith, stands.number, l))
    (sym (c.runs.ensures (opening_of s) (entries past s) (stands.servers_are s c.index.result.now at)) ∙ c.if-runs.false))

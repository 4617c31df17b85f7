use Rattle.std.proofs.Common.{sym, ◌∙◌, ap, arith, length, Some}
use Rattle.std.proofs.lemmas.Bool.{ltb-true, ltb-false}
use Rattle.server_core.specs.Answers.{status}
use Rattle.net_world.specs.Trace.{opening_of}
use Rattle.net_world.specs.Serving.{entries}
use Rattle.net_world.proofs.ServeLemmas.{node_at}
use Rattle.net_world.proofs.FindLemmas.{shown}
use Rattle.net_world.proofs.LookLemmas.{no_status, off_status, on_status}
use Rattle.net_world.proofs.world.World.status.Goals as goal

pub returns-then-not-has_server : goal.returns-then-not-has_server
returns-then-not-has_server c w past stands =
    let l = ltb-false c.args.server (length c.args.self.now.servers.items) (sym c.has_server.ensures ∙ c.if-not-has_server.true) in
    sym (no_status w past c.args.server (omega (arith, stands.number, l)))

pub returns-in-Some : goal.returns-in-Some
returns-in-Some c w past stands =
    let s = c.args.server in
    let l = ltb-true s (length c.args.self.now.servers.items) (sym c.has_server.ensures ∙ c.if-not-has_server.false) in
    let at = node_at c.args.self.now.servers.items s c.server.inside.0 c.index.result.now c.server.view_is l c.index.ensures in
    let h = c.in-Some.ensures (opening_of s) (entries past s) (stands.servers_are s c.index.result.now at) in
    let all = shown c.looks_at_all.ensures w past s h.2 in
    ap (λ x. Some x) (c.status.ensures (opening_of s) (entries past s) h.1 ∙ ap (status (opening_of s)) all)
    ∙ sym (on_status w past s (omega (arith, stands.number, l)) h.2)

pub returns-in-None : goal.returns-in-None
returns-in-None c w past stands =
    let s = c.args.server in
    let l = ltb-true s (length c.args.self.now.servers.items) (sym c.has_server.ensures ∙ c.if-not-has_server.false) in
    let at = node_at c.args.self.now.servers.items s c.server.inside.0 c.index.result.now c.server.view_is l c.index.ensures in
    sym (off_status w past s (omega (arith, stands.number, l)) (c.in-None.ensures (opening_of s) (entries past s) (stands.servers_are s c.index.result.now at)))

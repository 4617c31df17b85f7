use Rattle.std.proofs.Common.{refl, sym, ◌∙◌, ap, ℕ, List, [], length, Ok, Err}
use Rattle.std.proofs.lemmas.Bool.{ltb-true}
use Rattle.std.proofs.lemmas.Result.{err_from_is_err_and}
use Rattle.node.specs.declared.power.Power.TheVariants.{On}
use Rattle.server_core.specs.declared.input.Input.TheVariants.{WriteDone}
use Rattle.server_core.specs.Handles.{sent_alone}
use Rattle.net_world.specs.declared.told.Told.{Told}
use Rattle.net_world.specs.ServerNodes.{server_nodes}
use Rattle.net_world.proofs.NodeLemmas.{lent_ends, none_lent}
use Rattle.net_world.proofs.ServerNodeLemmas.{laws}
use Rattle.net_world.proofs.MetLemmas.{in_place, none_added}
use Rattle.net_world.proofs.ServeLemmas.{serve_ends, serve_fails, none_serves, lacks, node_at}
use Rattle.net_world.proofs.world.World.serve_end.Goals as goal

pub returns-then-not-has_server : goal.returns-then-not-has_server
returns-then-not-has_server c w past stands =
    none_serves w past c.args.server (WriteDone c.args.ticket c.args.end) c.args.self.now stands (sym c.has_server.ensures ∙ c.if-not-has_server.true)

pub returns-in_default : goal.returns-in_default
returns-in_default c w past stands =
    lacks w past c.args.server (WriteDone c.args.ticket c.args.end) c.args.self.now _ stands c.settle.ensures.same refl refl refl refl

pub returns-in_err-self : goal.returns-in_err-self
returns-in_err-self c w past stands =
    let l = ltb-true c.args.server (length c.args.self.now.servers.items) (sym c.has_server.ensures ∙ c.if-not-has_server.false) in
    let p = err_from_is_err_and c.from_residual.result c.from_residual.ensures.1 in
    let fault = c.in_err-self.field-0.0 in
    let was = c.index_mut.result.now in
    let e = WriteDone c.args.ticket c.args.end in
    rw (p.1, p.2) (serve_fails w past c.args.server e fault c.args.self.now _ stands
    (record {
      was = was;
      node = was;
      was_is = node_at c.args.self.now.servers.items c.args.server c.server.inside.0 was c.server.view_is l c.index_mut.ensures.value;
      stepped = λ o es h. none_lent (server_nodes o) es e fault was h (c.in_err-self.ensures.lent o es);
      moved = in_place l c.server.view_is refl (none_added c.settle.ensures.same) refl refl refl;
    }))

pub returns-in_err-end_write : goal.returns-in_err-end_write
returns-in_err-end_write c w past stands =
    let l = ltb-true c.args.server (length c.args.self.now.servers.items) (sym c.has_server.ensures ∙ c.if-not-has_server.false) in
    let p = err_from_is_err_and c.from_residual-in_err-end_write.result c.from_residual-in_err-end_write.ensures.1 in
    let fault = c.in_err-end_write.field-0.0 in
    let was = c.index_mut.result.now in
    let e = WriteDone c.args.ticket c.args.end in
    rw (p.1, p.2) (serve_fails w past c.args.server e fault c.args.self.now _ stands
    (record {
      was = was;
      node = On c.end_write.new.self;
      was_is = node_at c.args.self.now.servers.items c.args.server c.server.inside.0 was c.server.view_is l c.index_mut.ensures.value;
      stepped = λ o es h. lent_ends (server_nodes o) (laws o) es e was c.in_ok-self.field-0.now c.end_write.new.self (Err fault) h
          (c.in_ok-self.ensures.lent o es) (c.in_err-end_write.ensures.ends o es);
      moved = in_place l c.server.view_is refl (none_added c.settle.ensures.same) refl refl refl;
    }))

pub returns : goal.returns
returns c w past stands =
    let l = ltb-true c.args.server (length c.args.self.now.servers.items) (sym c.has_server.ensures ∙ c.if-not-has_server.false) in
    let was = c.index_mut.result.now in
    let e = WriteDone c.args.ticket c.args.end in
    serve_ends w past c.args.server e (sent_alone []) _ c.args.self.now _ stands
    (record {
      was = was;
      node = On c.end_write.new.self;
      was_is = node_at c.args.self.now.servers.items c.args.server c.server.inside.0 was c.server.view_is l c.index_mut.ensures.value;
      stepped = λ o es h. lent_ends (server_nodes o) (laws o) es e was c.in_ok-self.field-0.now c.end_write.new.self (Ok (sent_alone [])) h
          (c.in_ok-self.ensures.lent o es) (c.in_ok-end_write.ensures.ends o es);
      moved = in_place l c.server.view_is refl (none_added c.settle.ensures.same) refl refl refl;
    })
    (record {
      answer = ap (λ (t : Told). t.answer) c.plain.ensures;
      first = ap (λ (t : Told). t.first) c.plain.ensures ∙ c.in-Ok.ensures.first ∙ ap (λ (fs : List (List ℕ)). length fs) c.settle.ensures.same;
      sent_is = ap (λ (t : Told). t.sent) c.plain.ensures;
      act = ap (λ (t : Told). t.act) c.plain.ensures;
    })

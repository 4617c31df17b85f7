use Rattle.std.proofs.Common.{refl, sym, ◌∙◌, ap, ℕ, List, ◌++◌, length, Ok, Err}
use Rattle.std.proofs.lemmas.Bool.{ltb-true}
use Rattle.std.proofs.lemmas.Result.{err_from_is_err_and}
use Rattle.node.specs.declared.power.Power.TheVariants.{On}
use Rattle.net_world.specs.ServerNodes.{server_nodes}
use Rattle.net_world.proofs.NodeLemmas.{lent_ends, none_lent}
use Rattle.net_world.proofs.ServerNodeLemmas.{laws}
use Rattle.net_world.proofs.MetLemmas.{in_place, none_added}
use Rattle.net_world.proofs.ServeLemmas.{serve_ends, serve_fails, none_serves, lacks, node_at}
use Rattle.net_world.proofs.world.World.serve.Goals as goal

pub returns-then-not-has_server : goal.returns-then-not-has_server
returns-then-not-has_server c w past stands =
    none_serves w past c.args.server c.args.input c.args.self.now stands (sym c.has_server.ensures ∙ c.if-not-has_server.true)

pub returns-in_default : goal.returns-in_default
returns-in_default c w past stands =
    lacks w past c.args.server c.args.input c.args.self.now _ stands c.settle.ensures.same refl refl refl refl

pub returns-in_err-self : goal.returns-in_err-self
returns-in_err-self c w past stands =
    let l = ltb-true c.args.server (length c.args.self.now.servers.items) (sym c.has_server.ensures ∙ c.if-not-has_server.false) in
    let p = err_from_is_err_and c.from_residual.result c.from_residual.ensures.1 in
    let fault = c.in_err-self.field-0.0 in
    let was = c.index_mut.result.now in
    rw (p.1, p.2) (serve_fails w past c.args.server c.args.input fault c.args.self.now _ stands
    (record {
      was = was;
      node = was;
      was_is = node_at c.args.self.now.servers.items c.args.server c.server.inside.0 was c.server.view_is l c.index_mut.ensures.value;
      stepped = λ o es h. none_lent (server_nodes o) es c.args.input fault was h (c.in_err-self.ensures.lent o es);
      moved = in_place l c.server.view_is refl (none_added c.settle.ensures.same) refl refl refl;
    }))

pub returns-in_err-outs : goal.returns-in_err-outs
returns-in_err-outs c w past stands =
    let l = ltb-true c.args.server (length c.args.self.now.servers.items) (sym c.has_server.ensures ∙ c.if-not-has_server.false) in
    let p = err_from_is_err_and c.from_residual-in_err-outs.result c.from_residual-in_err-outs.ensures.1 in
    let fault = c.in_err-outs.field-0.0 in
    let was = c.index_mut.result.now in
    rw (p.1, p.2) (serve_fails w past c.args.server c.args.input fault c.args.self.now _ stands
    (record {
      was = was;
      node = On c.step.new.self;
      was_is = node_at c.args.self.now.servers.items c.args.server c.server.inside.0 was c.server.view_is l c.index_mut.ensures.value;
      stepped = λ o es h. lent_ends (server_nodes o) (laws o) es c.args.input was c.in_ok-self.field-0.now c.step.new.self (Err fault) h
          (c.in_ok-self.ensures.lent o es) (c.in_err-outs.ensures.ends o es);
      moved = in_place l c.server.view_is refl (none_added c.settle.ensures.same) refl refl refl;
    }))

pub returns : goal.returns
returns c w past stands =
    let l = ltb-true c.args.server (length c.args.self.now.servers.items) (sym c.has_server.ensures ∙ c.if-not-has_server.false) in
    let outs = c.in_ok-outs.outs in
    let was = c.index_mut.result.now in
    serve_ends w past c.args.server c.args.input outs _ c.args.self.now _ stands
    (record {
      was = was;
      node = On c.step.new.self;
      was_is = node_at c.args.self.now.servers.items c.args.server c.server.inside.0 was c.server.view_is l c.index_mut.ensures.value;
      stepped = λ o es h. lent_ends (server_nodes o) (laws o) es c.args.input was c.in_ok-self.field-0.now c.step.new.self (Ok outs) h
          (c.in_ok-self.ensures.lent o es) (c.in_ok-outs.ensures.ends o es);
      moved = in_place l c.server.view_is refl (c.add.ensures ∙ ap (λ fs. fs ++ outs.frames) c.settle.ensures.same) refl refl refl;
    })
    (record {
      answer = c.of_issue.ensures;
      first = c.in-Ok.ensures.first ∙ ap (λ (fs : List (List ℕ)). length fs) c.settle.ensures.same;
      sent_is = c.len-sent.ensures;
      act = refl;
    })

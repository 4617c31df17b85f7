use Rattle.std.proofs.Common.{refl, sym, ◌∙◌, length}
use Rattle.std.specs.Option.{option_copied}
use Rattle.std.proofs.lemmas.Bool.{ltb-true, ltb-false}
use Rattle.net_world.proofs.ServeLemmas.{node_at}
use Rattle.net_world.proofs.FindLemmas.{Found, not_there, found_runs, found_away}
use Rattle.net_world.proofs.world.World.running.Goals as goal

pub returns-then-not-has_server : goal.returns-then-not-has_server
returns-then-not-has_server c = record {
  found = λ w past stands. tt;
  why = λ w past stands. (
    not_there w past c.args.server c.args.self.now stands (ltb-false c.args.server (length c.args.self.now.servers.items)
        (sym c.has_server.ensures ∙ c.if-not-has_server.true)),
    refl,
  );
}

pub returns : goal.returns
returns c =
    let l = ltb-true c.args.server (length c.args.self.now.servers.items) (sym c.has_server.ensures ∙ c.if-not-has_server.false) in
    let found : Found c.args.self.now c.args.server (option_copied c.server-2.result) = record {
      node = c.index.result.now;
      there = l;
      node_is = node_at c.args.self.now.servers.items c.args.server c.server.inside.0 c.index.result.now c.server.view_is l c.index.ensures;
      shows = c.server-2.ensures;
    } in
    record {
      found = λ w past stands. rw c.ok_or.ensures.value (found_runs w past c.args.server c.args.self.now c.server-2.result stands found);
      why = λ w past stands. rw c.ok_or.ensures.value (found_away w past c.args.server c.args.self.now c.server-2.result stands found);
    }

use Rattle.std.proofs.lemmas.Result.{err_from_is_err_and}
use Rattle.net_world.proofs.EndsLemmas.{end_ends, end_unopen}
use Rattle.net_world.proofs.world.World.end.Goals as goal

pub returns-in_err-found : goal.returns-in_err-found
returns-in_err-found c w past stands =
    let p = err_from_is_err_and c.from_residual.result c.from_residual.ensures.1 in
    rw (p.1, p.2)
    (end_unopen w past c.args.server c.args.job c.args.write c.args.end c.in_err-found.field-0.0 c.args.self.now (c.in_err-found.ensures w past stands) stands)

pub returns : goal.returns
returns c w past stands =
    end_ends w past c.args.server c.args.job c.args.write c.args.end c.in_ok-found.found.0 c.in_ok-found.found.1 c.serve_end.result c.serve_end.new.self
    (c.in_ok-found.ensures w past stands) (c.serve_end.ensures w past stands)

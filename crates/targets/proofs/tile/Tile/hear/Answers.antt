use Rattle.std.proofs.Common.{subst}
use Rattle.std.specs.Prelude.{IfOk}
use Rattle.fc_base.specs.Layouts.{bytes_of}
use Rattle.targets.specs.Writing.{FollowsBy}
use Rattle.targets.proofs.tile.Tile.hear.Goals as goal

pub returns-clause-step : goal.returns-clause-step
unfolding bytes_of
returns-clause-step g c h stands =
    subst (λ b. IfOk c.follow.result
    (FollowsBy b c.args.notice h c.args.self.now.writes.engine c.follow.new.self.engine (g.W.Write.contents c.args.writer.now)
    (g.W.Write.contents c.follow.new.writer)))
    c.to_be_bytes-head.ensures (c.follow.ensures.step h stands)

use Rattle.std.proofs.Math.Logic.{∥∥₁_map}
use Rattle.engine.proofs.RunningLemmas.{stop_step}
use Rattle.engine.proofs.engine.Engine.stop.Goals as goal

pub invariant_of-self : goal.invariant_of-self
invariant_of-self c =
    let i = c.self.invariant in
    record {
      limits = i.limits;
      key = i.key;
      depth = i.depth;
      window = i.window;
      order = i.order;
      open_writes = i.open_writes;
      few = i.few;
      room = i.room;
      none_failed = i.none_failed;
      history = ∥∥₁_map i.history (λ p. (p.0, stop_step _ p.0 p.1));
    }

use Rattle.std.proofs.Common.{◌≡◌, ap, sym, ◌∙◌, arith, ◌∷◌}
use Rattle.std.proofs.Math.Logic.{∥∥₁_map}
use Rattle.engine.specs.History.{done}
use Rattle.engine.specs.Numbers.{without}
use Rattle.engine.specs.Kept.{Kept}
use Rattle.engine.specs.Inside.{running_in}
use Rattle.engine.proofs.WriteLemmas.{closed, without_is_shorter}
use Rattle.engine.proofs.RunningLemmas.{done_step}
use Rattle.engine.proofs.engine.Engine.done.Goals as goal

pub invariant_of-self-2 : goal.invariant_of-self-2
invariant_of-self-2 c =
    let i = c.self.invariant in
    let k = c.args.ticket.seq in
    let left = c.in_ok-complete.ensures.left in
    let opened : c.complete.new.self.open_writes ≡ without k c.self.inside.window.open_writes = ap (λ (x : Kept). x.open_writes) left in
    let flying : c.complete.new.self.in_flight ≡ without k c.self.inside.window.in_flight = ap (λ (x : Kept). x.in_flight) left in
    record {
      limits = i.limits;
      key = i.key;
      depth = ap (λ (x : Kept). x.depth) left ∙ i.depth;
      window = ap (λ (x : Kept). x.window) left ∙ i.window;
      order = let same : c.complete.new.self.issued ≡ c.self.inside.window.issued = ap (λ (x : Kept). x.issued) left in rw same i.order;
      open_writes = rw (c.close.ensures.items, i.open_writes, opened) (closed c.self.inside.rec k c.self.inside.window.open_writes);
      few = rw opened (omega (arith, i.few, without_is_shorter k c.self.inside.window.open_writes));
      room = rw c.close.ensures.room i.room;
      none_failed = λ e. flying ∙ ap (without k) (i.none_failed e) ∙ sym opened;
      history = ∥∥₁_map i.history (λ p. (done k ∷ p.0, done_step (running_in c.self.inside) _ k c.in_ok-complete.ensures.added p.0 p.1));
    }

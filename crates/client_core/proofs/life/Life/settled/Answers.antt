use Rattle.std.proofs.Common.{◌≡◌, refl, subst, arith}
use Rattle.client_core.specs.Outcomes.{all_ended}
use Rattle.client_core.proofs.life.Life.settled.Goals as goal

pub loop-server-init : goal.loop-server-init
loop-server-init c = λ deeds h. refl

pub returns : goal.returns
returns c deeds h =
    let all : c.loop-server.server ≡ c.args.servers = omega (arith, c.loop-server-test.false, c.loop-server.auto.server-end) in
    subst (λ k. c.loop-server.settled ≡ all_ended c.args.run deeds k) all (c.loop-server.invariant deeds h)

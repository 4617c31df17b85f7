use Rattle.std.proofs.Common.{◌<◌, ◌-◌, ◌^◌, ap, ℕ, length, Vec, vec_len, vec_capacity, arith, Global}
use Rattle.messages.specs.KeptNetwork.{Queued}
use Rattle.messages.proofs.NodeLemmas.{number_below}
use Rattle.messages.proofs.QueueLemmas.{room_at, room_set}
use Rattle.messages.proofs.queues.Queues.push.Goals as goal

pub push_reserved-requires : goal.push_reserved-requires
push_reserved-requires c =
    let within : c.number.result < length c.self.inside.lists = omega (arith, number_below c.args.node c.requires.node) in
    omega (
      arith,
      room_at (2 ^ 64) (λ (v : Vec ℕ Global). vec_capacity v - vec_len v) c.self.inside.lists c.number.result c.index-self-number.result within,
      ap (λ (q : Queued). q.more) c.self.view_is,
      c.requires.room,
    )

pub returns-clause-room : goal.returns-clause-room
returns-clause-room c =
    omega (
      arith,
      room_set (2 ^ 64) (λ (v : Vec ℕ Global).
          vec_capacity v - vec_len v) c.self.inside.lists c.number.result 1 c.push_reserved.new.self c.index-self-number.result (omega arith),
      ap
          (λ (q : Queued). q.more) c.self.view_is,
    )

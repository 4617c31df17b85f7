use Rattle.std.proofs.Common.{◌-◌, ◌^◌, ap, ℕ, Vec, vec_len, vec_capacity, arith, Global}
use Rattle.messages.specs.KeptNetwork.{Queued}
use Rattle.messages.proofs.QueueLemmas.{room_set, take_items}
use Rattle.messages.proofs.queues.Queues.take.Goals as goal

pub returns-in-Some-place_of-clause-lists : goal.returns-in-Some-place_of-clause-lists
returns-in-Some-place_of-clause-lists c =
    take_items (λ (v : Vec ℕ Global). v.items) c.self.inside.lists c.args.self.now.lists c.args.line.now.node c.args.line.now.taken c.in-Some.number
    c.in-Some-place_of.place c.take_out.new.list c.index-self-place.result
    (ap (λ (q : Queued). q.lists) c.self.view_is) c.self.invariant c.in-Some.is c.in-Some-place_of.ensures c.take_out.ensures.items

pub returns-in-Some-place_of-clause-room : goal.returns-in-Some-place_of-clause-room
returns-in-Some-place_of-clause-room c =
    omega (
      arith,
      room_set (2 ^ 64) (λ (v : Vec ℕ Global).
          vec_capacity v - vec_len v) c.self.inside.lists c.in-Some-place_of.place 0 c.take_out.new.list c.index-self-place.result (omega arith),
      ap
          (λ (q : Queued). q.more) c.self.view_is,
    )

use Rattle.std.proofs.Common.{◌≤◌, ◌-◌, ◌^◌, ℕ, Vec, vec_len, vec_capacity, arith, Global}
use Rattle.std.specs.Prelude.{All}
use Rattle.std.proofs.lemmas.List.{take_all}
use Rattle.messages.proofs.QueueLemmas.{room_all}
use Rattle.messages.proofs.queues.Queues.reserve.Goals as goal

pub returns-clause-room : goal.returns-clause-room
returns-clause-room c =
    let all : All (λ (v : Vec ℕ Global). c.args.more ≤ vec_capacity v - vec_len v) c.loop-list.list-items =
    rw (take_all c.loop-list.list-index c.loop-list.list-items (omega arith)) at c.loop-list.invariant.2 in
    room_all (2 ^ 64) (λ (v : Vec ℕ Global). vec_capacity v - vec_len v) c.loop-list.list-items c.args.more (omega arith) all

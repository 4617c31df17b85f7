use Rattle.std.proofs.Common.{◌≡◌, ◌<◌, [], Vec, ℕ, Global, get_or, rules}
use Rattle.messages.specs.declared.limits.TheConstants.{MAX_NODES}
use Rattle.messages.proofs.QueueLemmas.{all_empty}
use Rattle.messages.proofs.queues.Queues.new.Goals as goal

pub returns : goal.returns
returns c =
    let each : (i : ℕ) (d : Vec ℕ Global) → i < MAX_NODES → (get_or c.from_fn.result i d).items ≡ [] =
    λ i d h. (let made = (c.from_fn.ensures.items.at i d h).2 in search rules) in
    all_empty (λ (v : Vec ℕ Global). v.items) c.from_fn.result 10 c.from_fn.ensures.items.long each

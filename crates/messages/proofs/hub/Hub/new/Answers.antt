use Rattle.std.proofs.Common.{refl}
use Rattle.messages.proofs.KeptLemmas.{kept_none}
use Rattle.messages.proofs.hub.Hub.new.Goals as goal

pub invariant_of-result : goal.invariant_of-result
invariant_of-result c = rw (c.new.ensures, c.new-2.ensures.items)
    (record { kept = kept_none c.new-3.result.lists c.new-3.ensures; legal = record { all_sent = refl; sent_before = tt } })

use Rattle.std.proofs.Common.{subst}
use Rattle.std.specs.Prelude.{IsTrue}
use Rattle.verify_state.specs.StateTable.{has_distinct_keys}
use Rattle.verify_state.proofs.EntryLemmas.{distinct}
use Rattle.verify_state.proofs.table.StateTable.keeps_keys_apart.Goals as goal

pub returns : goal.returns
returns c =
    subst (λ states. IsTrue (has_distinct_keys states)) c.self.view_is
    (distinct c.self.inside.by_key.entries c.self.invariant.keyed c.len-states.ensures.unique)

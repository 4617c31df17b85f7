use Rattle.std.proofs.Common.{rules, not, eqb}
use Rattle.std.proofs.lemmas.Fn.{filter_same}
use Rattle.engine.specs.declared.writes.OpenWrite.{OpenWrite}
use Rattle.engine.proofs.writes.close.Goals as goal

pub returns-clause-items : goal.returns-clause-items
returns-clause-items c =
    filter_same _ (λ (w : OpenWrite). not (eqb w.seq c.args.seq)) _ (λ x b f k. search rules) _ _ c.retain.ensures.filtered

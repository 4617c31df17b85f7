use Rattle.std.proofs.Common.{rules, ◌∙◌, eqb}
use Rattle.std.proofs.lemmas.Iterator.{YieldsList-from_slice}
use Rattle.std.proofs.lemmas.Iterator.Search.{find_from_yields_List}
use Rattle.engine.specs.declared.writes.OpenWrite.{OpenWrite}
use Rattle.engine.proofs.writes.write_of.Goals as goal

pub returns : goal.returns
returns c =
    c.copied.ensures
    ∙ find_from_yields_List (λ (w : OpenWrite). eqb w.seq c.args.seq) _ _ _ c.find.ensures.ran (YieldsList-from_slice c.args.writes.now cc)
    (λ x b q k. search rules)

use Rattle.std.proofs.Common.{arith, rules}
use Rattle.engine.proofs.RingLemmas.{from-low, from-both}
use Rattle.engine.proofs.ring.from.Goals.{then-shift-eq0-via-then-shift-eq0, then-shift-eq0-via-else-shift-eq0+then-word-eq3}
use Rattle.engine.proofs.ring.from.Goals as goal

pub returns-then-shift-eq0 : goal.returns-then-shift-eq0
returns-then-shift-eq0 c i below within = from-low c.args.words c.args.first i (elim c.then-shift-eq0.branch [
  | then-shift-eq0-via-then-shift-eq0 w ↦ omega (arith, w.if-shift-eq0.true)
  | then-shift-eq0-via-else-shift-eq0+then-word-eq3 w ↦ omega (arith, w.if-word-eq3.true)
])

pub returns : goal.returns
returns c i below within = from-both c.args.words c.args.first i below (search rules)

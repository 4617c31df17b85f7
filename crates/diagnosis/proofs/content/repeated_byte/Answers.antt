use Rattle.std.proofs.Common.{sym, ◌∙◌}
use Rattle.diagnosis.proofs.BlockLemmas.{all_same, not_same}
use Rattle.diagnosis.proofs.content.repeated_byte.Goals as goal

pub returns-then-is_all : goal.returns-then-is_all
returns-then-is_all c = all_same _ c.args.bytes.now (sym c.is_all.ensures ∙ c.if-is_all.true)

pub returns-else-is_all : goal.returns-else-is_all
returns-else-is_all c byte = not_same c.args.bytes.now _ byte c.requires (sym c.is_all.ensures ∙ c.if-is_all.false)

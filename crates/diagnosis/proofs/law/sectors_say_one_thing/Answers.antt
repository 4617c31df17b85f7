use Rattle.std.proofs.Common.{sym, ◌∙◌}
use Rattle.diagnosis.proofs.law.sectors_say_one_thing.Goals as goal

pub returns : goal.returns
returns c sector a b p q = c.stamps_tell_writes_apart.ensures.sectors a b p.room q.room (sym p.bytes ∙ q.bytes)

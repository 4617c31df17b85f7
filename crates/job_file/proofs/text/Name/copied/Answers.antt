use Rattle.job_file.proofs.Texts.{IsUtf8-from_text}
use Rattle.job_file.proofs.text.Name.copied.Goals as goal

pub unreachable-requires : goal.unreachable-requires
unreachable-requires c = c.in-Err.ensures.cases.0 (IsUtf8-from_text c.self.inside.bytes.now c.self.invariant)

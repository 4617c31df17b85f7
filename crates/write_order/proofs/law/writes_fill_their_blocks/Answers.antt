use Rattle.write_order.proofs.LawLemmas.{block_limits, length-written_bytes}
use Rattle.write_order.proofs.law.writes_fill_their_blocks.Goals as goal

pub returns : goal.returns
returns c key job limits k block = length-written_bytes key job k block (block_limits job limits).whole

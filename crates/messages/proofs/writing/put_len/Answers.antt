use Rattle.std.proofs.Common.{◌∙◌}
use Rattle.messages.proofs.FrameLemmas.{put_len-mid}
use Rattle.messages.proofs.writing.put_len.Goals as goal

pub returns : goal.returns
returns c = put_len-mid c.args.frame.now _ c.args.len (c.copy_from_slice.ensures.after ∙ c.to_be_bytes.ensures)

use Rattle.mirror_core.proofs.NoteLemmas.{encoded}
use Rattle.mirror_core.proofs.note.MirrorNote.encode.Goals as goal

pub returns : goal.returns
returns c =
    encoded c.args.self.now c.len-2.result c.as_slice-states.result.now c.in_ok-bytes.bytes.items c.extend_from_slice.new.self.items c.put_u64.new.out.items
    c.put_u32.new.out.items c.put_states.new.out.items
    c.len-2.ensures.len c.as_slice-states.ensures c.in_ok-bytes.ensures.items c.in_ok-extend_from_slice.ensures.items c.in_ok-put_u64.ensures
    c.in_ok-put_u32.ensures c.in_ok-put_states.ensures

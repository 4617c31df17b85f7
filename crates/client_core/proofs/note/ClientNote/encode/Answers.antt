use Rattle.std.proofs.Common.{◌∙◌, ap, ◌++◌}
use Rattle.std.specs.Int.{w64}
use Rattle.fc_base.specs.Layouts.{bytes_of}
use Rattle.client_core.proofs.NoteLemmas.{encoded}
use Rattle.client_core.proofs.note.ClientNote.encode.Goals as goal

pub returns : goal.returns
returns c =
    encoded c.args.self.now c.len-2.result c.as_slice-states.result.now c.in_ok-bytes.bytes.items c.extend_from_slice.new.self.items c.put_u64.new.out.items
    c.put_u64-2.new.out.items c.put_u64-3.new.out.items c.put_u32.new.out.items c.put_states.new.out.items
    c.len-2.ensures.len c.as_slice-states.ensures c.in_ok-bytes.ensures.items c.in_ok-extend_from_slice.ensures.items
    (c.in_ok-put_u64.ensures ∙ ap (λ g. c.extend_from_slice.new.self.items ++ bytes_of w64 g) c.number.ensures.value) c.in_ok-put_u64-2.ensures
    c.in_ok-put_u64-3.ensures c.in_ok-put_u32.ensures c.in_ok-put_states.ensures

use Rattle.std.proofs.Common.{◌∙◌, sym, Ok, Err}
use Rattle.std.proofs.lemmas.List.Sorted.{searched}
use Rattle.std.proofs.lemmas.List.Kept.{AllPairs-from_increasing}
use Rattle.messages.proofs.QueueLemmas.{without_place, without_absent, not_found, rises}
use Rattle.messages.proofs.queues.take_out.Goals as goal

pub returns-in-Ok-clause-items : goal.returns-in-Ok-clause-items
returns-in-Ok-clause-items c =
    let pairs = AllPairs-from_increasing c.args.list.now.items c.requires in
    let found = searched c.args.list.now.items c.args.number (Ok c.in-Ok.place) (rw c.as_slice.ensures.value at c.in-Ok.ensures.position)
    (rises c.args.list.now.items pairs) in
    c.remove.ensures.items ∙ sym (without_place c.args.number c.args.list.now.items c.in-Ok.place pairs found.0 found.1)

pub returns-in-Err-clause-items : goal.returns-in-Err-clause-items
returns-in-Err-clause-items c =
    let pairs = AllPairs-from_increasing c.args.list.now.items c.requires in
    let found = searched c.args.list.now.items c.args.number (Err c.in-Err.field-0) (rw c.as_slice.ensures.value at c.in-Err.ensures.position)
    (rises c.args.list.now.items pairs) in
    sym (without_absent c.args.number c.args.list.now.items (not_found c.args.number c.args.list.now.items c.in-Err.field-0 found.1 found.2))

use Rattle.messages.proofs.KeptLemmas.{kept_frame}
use Rattle.messages.proofs.hub.add.Goals as goal

pub returns-clause-kept : goal.returns-clause-kept
returns-clause-kept c = λ journal kept.
    rw (c.push-2.ensures.frames, c.push.ensures.lists, c.len.ensures)
    (kept_frame c.args.store.now.frames c.args.frame.now journal c.args.queues.now.lists c.node_of-node.result kept c.node_of-node.ensures.value
    c.node_of-node.ensures.range c.requires.spelled)

use Rattle.std.proofs.Common.{arith, inl, inr, sym, ◌∙◌}
use Rattle.filters.proofs.FeedLemmas.{gives_up_bad, gives_up_none, gives_up_past, gives_up_so}
use Rattle.filters.proofs.server_filter.ServerFilter.unread.Goals as goal

pub returns-then-body-ne-BLOCK_NAME : goal.returns-then-body-ne-BLOCK_NAME
returns-then-body-ne-BLOCK_NAME g c =
    gives_up_bad c.args.self.now c.args.body.now (g.W.Output.written c.args.writer.now) (λ same. c.if-body-ne-BLOCK_NAME.true same)

pub returns-then-name-ge-MAX_BLOCKS : goal.returns-then-name-ge-MAX_BLOCKS
returns-then-name-ge-MAX_BLOCKS g c =
    gives_up_past c.args.self.now c.args.body.now c.block_name-name.result (g.W.Output.written c.args.writer.now) (omega arith) c.block_name-name.ensures
    (inl (omega arith))

pub returns-then-not-is_open : goal.returns-then-not-is_open
returns-then-not-is_open g c =
    gives_up_past c.args.self.now c.args.body.now c.block_name-name.result (g.W.Output.written c.args.writer.now) (omega arith) c.block_name-name.ensures
    (inr (λ o past stands. sym c.if-not-is_open.true ∙ c.is_open.ensures o past stands))

pub returns-in_default : goal.returns-in_default
returns-in_default g c =
    gives_up_none c.args.self.now c.take_out.new.self c.args.body.now c.block_name-name.result (g.W.Output.written c.args.writer.now) (omega arith)
    c.block_name-name.ensures (omega arith)
    (λ o past stands. sym c.if-not-is_open.false ∙ c.is_open.ensures o past stands) c.in_default.ensures.server c.in_default.ensures.checks

pub returns : goal.returns
returns g c =
    gives_up_so c.args.self.now c.take_out.new.self c.tell.new.self c.args.body.now c.block_name-name.result c.in-Some.checking c.give_up-report.result c.tell.result
    (g.W.Output.written c.args.writer.now) (g.W.Output.written c.tell.new.writer) (omega arith) c.block_name-name.ensures (omega arith)
    (λ o past stands. sym c.if-not-is_open.false ∙ c.is_open.ensures o past stands)
    c.in-Some.ensures.server c.in-Some.ensures.checks c.give_up-report.ensures c.tell.ensures

use Rattle.std.proofs.Common.{ap, arith, sym, ◌∙◌}
use Rattle.filters.specs.ServerChecks.{block_in}
use Rattle.filters.proofs.FeedLemmas.{feeds_none, feeds_other, feeds_past, feeds_short, feeds_so}
use Rattle.filters.proofs.server_filter.ServerFilter.blocks.Goals as goal

pub returns-then-body-lt-BLOCK_NAME : goal.returns-then-body-lt-BLOCK_NAME
returns-then-body-lt-BLOCK_NAME g c = feeds_short c.args.self.now c.args.body.now (g.W.Output.written c.args.writer.now) (omega arith)

pub returns-then-not-is_open : goal.returns-then-not-is_open
returns-then-not-is_open g c =
    feeds_past c.args.self.now c.args.body.now c.split_at.result.1.now c.block_name-name.result (g.W.Output.written c.args.writer.now) (omega arith)
    (c.block_name-name.ensures ∙ ap block_in c.split_at.ensures.front) c.split_at.ensures.back
    (λ o past stands. sym c.if-not-is_open.true ∙ c.is_open.ensures o past stands)

pub returns-in_default : goal.returns-in_default
returns-in_default g c =
    feeds_none c.args.self.now c.take_out.new.self c.args.body.now c.split_at.result.1.now c.block_name-name.result (g.W.Output.written c.args.writer.now) (omega arith)
    (c.block_name-name.ensures ∙ ap block_in c.split_at.ensures.front) c.split_at.ensures.back
    (λ o past stands. sym c.if-not-is_open.false ∙ c.is_open.ensures o past stands) c.in_default.ensures.server c.in_default.ensures.checks

pub returns-in-Some-some_of : goal.returns-in-Some-some_of
returns-in-Some-some_of g c =
    let name = c.block_name-name.result in
    feeds_so c.args.self.now c.take_out.new.self c.go.new.self c.args.body.now c.split_at.result.1.now name c.in-Some.checking c.in-Some-some_of.given
    c.feed_all-went.result c.go.result (g.W.Output.written c.args.writer.now) (g.W.Output.written c.go.new.writer) (omega arith)
    (c.block_name-name.ensures ∙ ap block_in c.split_at.ensures.front) c.split_at.ensures.back
    (λ o past stands. sym c.if-not-is_open.false ∙ c.is_open.ensures o past stands) c.in-Some.ensures.server c.in-Some.ensures.checks
    c.in-Some.checking.size_is c.in-Some-some_of.ensures c.feed_all-went.ensures c.go.ensures

pub returns-in-None : goal.returns-in-None
returns-in-None g c =
    let text = g.W.Output.written c.args.writer.now in
    feeds_other c.args.self.now c.take_out.new.self c.put.new.self c.args.body.now c.split_at.result.1.now c.block_name-name.result c.in-Some.checking text
    (omega arith) (c.block_name-name.ensures ∙ ap block_in c.split_at.ensures.front) c.split_at.ensures.back
    (λ o past stands. sym c.if-not-is_open.false ∙ c.is_open.ensures o past stands) c.in-Some.ensures.server c.put.ensures.server
    c.in-Some.ensures.checks c.put.ensures.checks (omega (arith, c.in-Some.ensures.checks.2)) c.in-Some.checking.size_is c.in-None.ensures

use Rattle.std.proofs.Common.{◌++◌, subst}
use Rattle.std.specs.Io.KnownBytes.{Appends}
use Rattle.recheck.specs.Faults.{is_checked}
use Rattle.targets.specs.MapLines.{edge_words, ends_unchecked, first_words, last_of_words}
use Rattle.targets.proofs.MapLineLemmas.{edges_more}
use Rattle.targets.proofs.map_unchecked.write_edges.Goals as goal

pub loop-block-preserved : goal.loop-block-preserved
loop-block-preserved g c =
    let text = g.W.Write.contents c.loop-block.writer in
    let new = g.W.Write.contents c.write_edge.new.writer in
    let block = c.loop-block.block in
    edges_more (edge_words (is_checked c.args.expected.now) c.args.expected.now.job.blocks) block (g.W.Write.contents c.args.writer.now) text new
    c.loop-block.invariant
    (subst (λ b. Appends text new (first_words b block ++ last_of_words (ends_unchecked (is_checked c.args.expected.now) c.args.expected.now.job.blocks block) block)) c.begins_unchecked-begins.ensures
    (subst (λ b. Appends text new (first_words c.begins_unchecked-begins.result block ++ last_of_words b block)) c.ends_unchecked.ensures c.in_ok-write_edge.ensures))
